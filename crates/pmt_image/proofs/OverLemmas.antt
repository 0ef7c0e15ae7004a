-- An image over bytes.
use Rattle.pmt_image.proofs.Prelude.{◌≡◌, ℕ, zero, suc, ◌+◌, ◌<◌, List, [], ◌∷◌, ◌++◌, length, get_or, take, refl, sym, ap, ap₂, ◌∙◌, arith, unwrap_or, Image, over}

pub over-length : (image : Image) (at : ℕ) (bs : List ℕ) → length (over image at bs) ≡ length bs
over-length image at [] = refl
over-length image at (b ∷ bs) = ap suc (over-length image (suc at) bs)

-- one part after another
pub over-append : (image : Image) (at : ℕ) (xs ys : List ℕ) → over image at (xs ++ ys) ≡ over image at xs ++ over image (at + length xs) ys
over-append image at [] ys = let e : at + 0 ≡ at = omega arith in ap (λ n. over image n ys) (sym e)
over-append image at (x ∷ xs) ys =
    let e : suc at + length xs ≡ at + suc (length xs) = omega arith in
    ap (λ zs. unwrap_or (image at) x ∷ zs) (over-append image (suc at) xs ys ∙ ap (λ n. over image (suc at) xs ++ over image n ys) e)

-- of the first bytes
pub over-take : (image : Image) (at n : ℕ) (bs : List ℕ) → take n (over image at bs) ≡ over image at (take n bs)
over-take image at zero bs = none bs
  where
    none : (cs : List ℕ) → take 0 (over image at cs) ≡ over image at (take 0 cs)
    none [] = refl
    none (c ∷ cs) = refl
over-take image at (suc n) [] = refl
over-take image at (suc n) (b ∷ bs) = ap (λ zs. unwrap_or (image at) b ∷ zs) (over-take image (suc at) n bs)

-- two images that are the same
pub over-same : (f g : Image) (at : ℕ) (bs : List ℕ) → ((a : ℕ) → f a ≡ g a) → over f at bs ≡ over g at bs
over-same f g at [] same = refl
over-same f g at (b ∷ bs) same = ap₂ (λ (x : ℕ) (zs : List ℕ). x ∷ zs) (ap (λ o. unwrap_or o b) (same at)) (over-same f g (suc at) bs same)

-- byte by byte
pub over-from_each : (image : Image) (at : ℕ) (new old : List ℕ) → length new ≡ length old →
    ((k : ℕ) → k < length old → get_or new k 0 ≡ unwrap_or (image (at + k)) (get_or old k 0)) → new ≡ over image at old
over-from_each image at [] [] size each = refl
over-from_each image at [] (b ∷ bs) size each = absurd (omega arith)
over-from_each image at (x ∷ xs) [] size each = absurd (omega arith)
over-from_each image at (x ∷ xs) (b ∷ bs) size each =
    let here : at + 0 ≡ at = omega arith in
    let few : length xs ≡ length bs = omega arith in
    ap₂ (λ (y : ℕ) (ys : List ℕ). y ∷ ys) (each 0 (omega arith) ∙ ap (λ a. unwrap_or (image a) b) here)
    (over-from_each image (suc at) xs bs few (λ k less. let e : at + suc k ≡ suc at + k = omega arith in each (suc k) (omega arith) ∙ ap (λ a. unwrap_or (image a) (get_or bs k 0)) e))
