-- Where the rows of places stand, at first and with one more.
use Rattle.pmt_fates.proofs.Prelude.{◌≡◌, ℕ, zero, suc, ◌+◌, Bool, true, false, get_or, Some, refl, ap, ◌∙◌, arith, if◌then◌else◌, nat_eq, replicate, unwrap_or, eq-eqb, Origin, Label, Thread, origin-exact, before, place_number, row_place, same_place}
use Rattle.std.specs.HashMap.{get}
use Rattle.pmt_fates.specs.declared.row_places.RowPlaces.{RowPlaces}

none-told : (n l d : ℕ) → d ≡ 0 → get_or (replicate n 0) l d ≡ 0
none-told zero l d none = none
none-told (suc n) zero d none = refl
none-told (suc n) (suc l) d none = none-told n l d none

pub numbers-none : (places : RowPlaces) (n : ℕ) → places.threads ≡ replicate 256 0 → places.labels.items ≡ replicate n 0 → ((l : ℕ) → unwrap_or (get nat_eq places.rest l) 0 ≡ 0) → (p : Origin) → place_number places p ≡ 0
numbers-none places n threads labels rest (Label l) = ap (λ xs. get_or xs l (unwrap_or (get nat_eq places.rest l) 0)) labels ∙ none-told n l _ (rest l)
numbers-none places n threads labels rest (Thread t) = ap (λ xs. get_or xs t 0) threads ∙ none-told 256 t 0 refl

pub same-itself : (k : Origin) → same_place k k ≡ true
same-itself (Label a) = eq-eqb a a refl
same-itself (Thread t) = eq-eqb t t refl

same-apart : (k q : Origin) → (k ≡ q → ⊥) → same_place k q ≡ false
same-apart k q apart = go (same_place k q) refl
  where
    go : (b : Bool) → same_place k q ≡ b → same_place k q ≡ false
    go true is = absurd (apart (origin-exact k q is))
    go false is = is

-- one place more
abbrev pub AreSet : Origin → ℕ → RowPlaces → RowPlaces → Type 0
AreSet k number old new = (q : Origin) → place_number new q ≡ (if same_place k q then number else place_number old q)

pub set-there : (old new : RowPlaces) (k : Origin) (n : ℕ) → AreSet k (n + 1) old new → row_place new k ≡ Some n
set-there old new k n are =
    let number : place_number new k ≡ n + 1 = are k ∙ ap (λ b. if b then n + 1 else place_number old k) (same-itself k) in
    let next : n + 1 ≡ suc n = omega arith in
    ap before (number ∙ next)

pub set-others : (old new : RowPlaces) (k : Origin) (n : ℕ) → AreSet k n old new → (q : Origin) → (k ≡ q → ⊥) → row_place new q ≡ row_place old q
set-others old new k n are q apart = ap before (are q ∙ ap (λ b. if b then n else place_number old q) (same-apart k q apart))
