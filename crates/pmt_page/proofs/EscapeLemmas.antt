-- No < stands in JSON as the page has it.
use Rattle.pmt_page.proofs.Prelude.{◌≡◌, ℕ, ◌==◌, ◌||◌, ◌∷◌, Bool, true, false, if◌then◌else◌, List, [], codes, refl, ap, ◌∙◌, list_any, embedded, embedded_byte}
use Rattle.std.proofs.lemmas.List.Folds.{list_any-append}

abbrev is_less_than : ℕ → Bool
is_less_than c = c == 60

pub embedded_byte-clean : (c : ℕ) → list_any is_less_than (embedded_byte c) ≡ false
embedded_byte-clean c = go (c == 60) refl
  where
    go : (b : Bool) → (c == 60) ≡ b → list_any is_less_than (if b then codes "\\u003c" else c ∷ []) ≡ false
    go true e = refl
    go false e = ap (λ (t : Bool). t || false) e

pub embedded-clean : (json : List ℕ) → list_any is_less_than (embedded json) ≡ false
embedded-clean [] = refl
embedded-clean (c ∷ cs) =
    list_any-append is_less_than (embedded_byte c) (embedded cs)
    ∙ ap (λ (t : Bool). t || list_any is_less_than (embedded cs)) (embedded_byte-clean c)
    ∙ embedded-clean cs
