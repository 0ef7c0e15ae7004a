use Rattle.std.proofs.Common.{arith, ◌∙◌}
use Rattle.std.proofs.lemmas.Grind.{elements}
use Rattle.std.proofs.lemmas.List.{length-map}
use Rattle.pmt_lines.proofs.PlaceLemmas.{get_or-map_none}
use Rattle.pmt_lines.proofs.open.OpenFlushes.new.Goals as goal

pub invariant_of-result : goal.invariant_of-result
invariant_of-result c = omega (arith, c.loop-thread.invariant.0)

pub returns-clause-threads : goal.returns-clause-threads
returns-clause-threads c = length-map c.loop-thread.places.items (λ v. v.items) ∙ omega (arith, c.loop-thread.invariant.0)

pub returns-clause-empty : goal.returns-clause-empty
returns-clause-empty c = λ t. get_or-map_none (λ v. v.items) c.loop-thread.places.items t c.loop-thread.invariant.1

pub loop-thread-preserved : goal.loop-thread-preserved
loop-thread-preserved c = grind (arith, elements)
