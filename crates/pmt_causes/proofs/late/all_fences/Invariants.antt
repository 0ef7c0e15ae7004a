use Rattle.std.proofs.Common.{map}
use Rattle.pmt_causes.specs.Late.{AreFences}
use Rattle.pmt_causes.proofs.late.all_fences.Given as goal

abbrev pub invariant-loop-index : goal.invariant-loop-index
invariant-loop-index l = AreFences l.trace l.index (map (λ list. list.items) l.fences.items)
