use Rattle.pmt_page.proofs.Prelude.{◌≡◌, ◌++◌, drop, map, Label}
use Rattle.pmt_page.proofs.labels.events_of.Given as goal

abbrev pub invariant-loop-label : goal.invariant-loop-label
invariant-loop-label l = l.events.items ++ map (λ (x : Label). x.event) (drop l.label-index l.labels) ≡ map (λ (x : Label). x.event) l.labels
