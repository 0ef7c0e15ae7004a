use Rattle.pmt_page.proofs.Prelude.{◌≡◌, ◌++◌, ◌∷◌, drop, flat_map, source_part}
use Rattle.pmt_page.proofs.sources.push_later_parts.Given as goal

abbrev pub invariant-loop-part : goal.invariant-loop-part
invariant-loop-part l = l.text.items ++ flat_map (λ x. 44 ∷ source_part x) (drop l.part-index l.parts) ≡ l.initial.text.items ++ flat_map (λ x. 44 ∷ source_part x) l.parts
