use Rattle.pmt_image.proofs.Prelude.{◌≡◌, drop, with_counts}
use Rattle.pmt_image.proofs.near.stores_of.Given as goal

abbrev pub invariant-loop-index : goal.invariant-loop-index
invariant-loop-index l = with_counts (drop l.index l.choice) (λ _. l.stores) l.line ≡ with_counts l.choice (λ _. l.all) l.line
