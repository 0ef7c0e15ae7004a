-- Lines of JSON become an array.
use Rattle.pmt_page.proofs.Prelude.{◌≡◌, ℕ, ◌-◌, ◌==◌, ◌||◌, false, List, [], ◌∷◌, ◌++◌, length, take, codes, refl, sym, ap, ap₂, ◌∙◌, arith, append_assoc, append-nil, length-append, AllByRecursion, flat_map, take-append_seam, cond-false, flat_map-append, separated_byte, array_of_lines, has_lf, LinesBecomeArray, listed, or_parts}

-- a value stays as it is
value-stays : (v : List ℕ) → has_lf v ≡ false → flat_map separated_byte v ≡ v
value-stays [] clean = refl
value-stays (c ∷ v) clean =
    let parts = or_parts (c == 10) (has_lf v) clean in
    ap₂ (λ (xs ys : List ℕ). xs ++ ys) (cond-false (c == 10) (codes ",") (c ∷ []) parts.0) (value-stays v parts.1)

values-stay : (vs : List (List ℕ)) → AllByRecursion (λ v. has_lf v ≡ false) vs → flat_map separated_byte (flat_map (λ v. 10 ∷ v) vs) ≡ flat_map (λ v. 44 ∷ v) vs
values-stay [] clean = refl
values-stay (v ∷ vs) clean =
    flat_map-append separated_byte (10 ∷ v) (flat_map (λ w. 10 ∷ w) vs)
    ∙ ap₂ (λ (xs ys : List ℕ). (44 ∷ xs) ++ ys) (value-stays v clean.0) (values-stay vs clean.1)

-- the last byte is LF
lines-end : (v : List ℕ) (vs : List (List ℕ)) → flat_map (λ w. w ++ 10 ∷ []) (v ∷ vs) ≡ (v ++ flat_map (λ w. 10 ∷ w) vs) ++ 10 ∷ []
lines-end v [] = append-nil (v ++ 10 ∷ []) ∙ ap (λ (xs : List ℕ). xs ++ 10 ∷ []) (sym (append-nil v))
lines-end v (w ∷ vs) =
    let rest : List ℕ = w ++ flat_map (λ u. 10 ∷ u) vs in
    ap (λ (xs : List ℕ). (v ++ 10 ∷ []) ++ xs) (lines-end w vs)
    ∙ append_assoc v (10 ∷ []) (rest ++ 10 ∷ [])
    ∙ sym (append_assoc v (10 ∷ rest) (10 ∷ []))

without-last : (xs : List ℕ) → take (length (xs ++ 10 ∷ []) - 1) (xs ++ 10 ∷ []) ≡ xs
without-last xs =
    let size : length (xs ++ 10 ∷ []) - 1 ≡ length xs = omega (arith, length-append xs (10 ∷ [])) in
    ap (λ (n : ℕ). take n (xs ++ 10 ∷ [])) size ∙ take-append_seam xs (10 ∷ [])

pub lines_become_array : LinesBecomeArray
lines_become_array v vs clean =
    let body : List ℕ = v ++ flat_map (λ w. 10 ∷ w) vs in
    let separated : flat_map separated_byte body ≡ listed (λ w. w) (v ∷ vs) =
    flat_map-append separated_byte v (flat_map (λ w. 10 ∷ w) vs) ∙ ap₂ (λ (xs ys : List ℕ). xs ++ ys) (value-stays v clean.0) (values-stay vs clean.1) in
    ap array_of_lines (lines-end v vs)
    ∙ ap (λ (text : List ℕ). codes "[" ++ flat_map separated_byte text ++ codes "]") (without-last body)
    ∙ ap (λ (text : List ℕ). codes "[" ++ text ++ codes "]") separated
