-- Lanes that are computed one by one from a list of bytes.
use Rattle.std.proofs.Common.{◌≡◌, ℕ, zero, suc, ◌+◌, ◌%◌, ◌^◌, ◌<◌, eqb, Bool, true, false, not, cond, List, [], ◌∷◌, ◌++◌, map, length, replicate, Fits, w8, refl, sym, ◌∙◌, ap, ap₂, subst, arith, pow-suc, eqb-true}
use Rattle.std.proofs.lemmas.Bool.{agree_below, agree_below_at}
use Rattle.std.proofs.lemmas.List.{length-map, map-append, length-append}
use Rattle.std.proofs.lemmas.Simd.{map-map, mask_l-mod, mask_l-lt, trailing_mask_l}
use Rattle.std.specs.List.{prefix_len}
use lib.Count.{count_trailing_zeros}
use lib.Lanes.{mask_l, sel_l, top, Each1}

-- ---- Functions that agree on bytes

same_tests : (p q : ℕ → Bool) → agree_below p q 256 ≡ true → (v : List ℕ) → Each1 (Fits w8) v → map p v ≡ map q v
same_tests p q all [] fits = refl
same_tests p q all (x ∷ xs) fits = ap₂ (λ (a : Bool) (l : List Bool). a ∷ l) (agree_below_at p q 256 x all fits.0.fits) (same_tests p q all xs fits.1)

pub same_values : (f g : ℕ → ℕ) → agree_below (λ x. eqb (f x) (g x)) (λ _. true) 256 ≡ true → (v : List ℕ) → Each1 (Fits w8) v → map f v ≡ map g v
same_values f g all [] fits = refl
same_values f g all (x ∷ xs) fits =
    ap₂ (λ (a : ℕ) (l : List ℕ). a ∷ l) (eqb-true _ _ (agree_below_at (λ y. eqb (f y) (g y)) (λ _. true) 256 x all fits.0.fits)) (same_values f g all xs fits.1)

-- ---- Masks

-- the mask of a comparison that is true where p is
pub masked : (f : ℕ → ℕ) (p : ℕ → Bool) (v z : List ℕ) → length v ≡ 16 → Each1 (Fits w8) v → z ≡ map f v → agree_below (λ x. top 7 (f x)) p 256 ≡ true
    → mask_l (map (top 7) z) % 2 ^ 64 ≡ mask_l (map p v)
masked f p v z long fits e all =
    ap (λ (l : List Bool). mask_l l % 2 ^ 64) (ap (map (top 7)) e ∙ map-map (top 7) f v ∙ same_tests (λ x. top 7 (f x)) p all v fits)
    ∙ mask_l-mod (map p v) 64 (omega (arith, length-map v p, long))

pub mask-lt : (p : ℕ → Bool) (v : List ℕ) → length v ≡ 16 → mask_l (map p v) < 2 ^ 16
mask-lt p v long = subst (λ (n : ℕ). mask_l (map p v) < 2 ^ n) (length-map v p ∙ long) (mask_l-lt (map p v))

-- one bit more, which is set
mask_then : (ms : List Bool) → mask_l (ms ++ true ∷ []) ≡ mask_l ms + 2 ^ length ms
mask_then [] = refl
mask_then (m ∷ ms) = omega (arith, mask_then ms, pow-suc 2 (length ms))

not-not : (b : Bool) → not (not b) ≡ b
not-not true = refl
not-not false = refl

-- a byte that does not pass ends the run
run_then : (q : ℕ → Bool) (v : List ℕ) (x : ℕ) → q x ≡ false → prefix_len (λ y. not (not (q y))) (v ++ x ∷ []) ≡ prefix_len q v
run_then q [] x e = ap (λ (b : Bool). cond b (1 + 0) 0) (not-not (q x) ∙ e)
run_then q (y ∷ ys) x e = ap₂ (λ (b : Bool) (n : ℕ). cond b (1 + n) 0) (not-not (q y)) (run_then q ys x e)

-- the lowest bit of the mask, with one more bit above all, is as many as pass
pub run_is : (q : ℕ → Bool) (v : List ℕ) → length v ≡ 16 → q 0 ≡ false → count_trailing_zeros 64 (mask_l (map (λ x. not (q x)) v) + 2 ^ 16) ≡ prefix_len q v
run_is q v long stop =
    let p : ℕ → Bool = λ x. not (q x) in
    let set : p 0 ≡ true = ap not stop in
    let is : mask_l (map p (v ++ 0 ∷ [])) ≡ mask_l (map p v) + 2 ^ 16 =
    ap mask_l (map-append p v (0 ∷ []) ∙ ap (λ (b : Bool). map p v ++ b ∷ []) set) ∙ mask_then (map p v) ∙ ap (λ (n : ℕ). mask_l (map p v) + 2 ^ n) (length-map v p ∙ long) in
    ap (count_trailing_zeros 64) (sym is)
    ∙ trailing_mask_l p 64 (v ++ 0 ∷ []) (omega (arith, length-append v (0 ∷ []), long)) (omega (arith, is))
    ∙ run_then q v 0 stop

-- ---- A choice

choice_by : (q : ℕ → Bool) (y z n : ℕ) (v : List ℕ) → length v ≡ n → sel_l (map q v) (replicate n y) (replicate n z) ≡ map (λ x. cond (q x) y z) v
choice_by q y z zero [] long = refl
choice_by q y z (suc n) (x ∷ xs) long = ap (λ (l : List ℕ). cond (q x) y z ∷ l) (choice_by q y z n xs (omega arith))
choice_by q y z a b long = absurd (omega arith)

pub choice : (f : ℕ → ℕ) (y z : ℕ) (v : List ℕ) {m : List ℕ} → length v ≡ 16 → m ≡ map f v → sel_l (map (top 7) m) (replicate 16 y) (replicate 16 z) ≡ map (λ x. cond (top 7 (f x)) y z) v
choice f y z v long e =
    ap (λ (l : List Bool). sel_l l (replicate 16 y) (replicate 16 z)) (ap (map (top 7)) e ∙ map-map (top 7) f v) ∙ choice_by (λ x. top 7 (f x)) y z 16 v long
