use Rattle.pmt_page.proofs.Prelude.{◌≡◌, ◌++◌, ◌∷◌, drop, flat_map, safe_field}
use Rattle.pmt_page.proofs.fields.push_delays.Given as goal

abbrev pub invariant-loop-one : goal.invariant-loop-one
invariant-loop-one l = l.text.items ++ flat_map (λ s. 44 ∷ safe_field s) (drop l.one-index l.safe) ≡ l.initial.text.items ++ flat_map (λ s. 44 ∷ safe_field s) l.safe
