-- A table of places that has none.
use Rattle.std.proofs.Common.{◌≡◌, ℕ, inl, inr, Bool, false, get_or, refl, ap, ◌∙◌, arith}
use Rattle.std.specs.Prelude.{nat_eq, replicate, unwrap_or}
use Rattle.std.specs.HashMap.{get}
use Rattle.std.proofs.lemmas.Bool.{cases_lt}
use Rattle.std.proofs.lemmas.List.{get_or-replicate, get_or_past, length-replicate}
use Rattle.pmt_causes.specs.declared.failure_keys.Origin.{Origin}
use Rattle.pmt_causes.specs.declared.failure_keys.Origin.TheVariants.{Label, Thread}
use Rattle.pmt_hints.specs.declared.places.Places.{Places}
use Rattle.pmt_hints.specs.Contrasts.{has_place}

-- no place yet
none-told : (n k : ℕ) (d : Bool) → d ≡ false → get_or (replicate n false) k d ≡ false
none-told n k d none = elim (cases_lt k n) [
  | inl within ↦ get_or-replicate n k false d within
  | inr past ↦ get_or_past (replicate n false) k d (omega (arith, past, length-replicate n false)) ∙ none
]

pub has-none : (places : Places) (n : ℕ) → places.threads ≡ replicate 256 false → places.labels.items ≡ replicate n false → ((l : ℕ) → unwrap_or (get nat_eq places.rest l) false ≡ false) → (p : Origin) → has_place places p ≡ false
has-none places n threads labels rest (Label l) = ap (λ xs. get_or xs l (unwrap_or (get nat_eq places.rest l) false)) labels ∙ none-told n l _ (rest l)
has-none places n threads labels rest (Thread t) = ap (λ xs. get_or xs t false) threads ∙ none-told 256 t false refl
