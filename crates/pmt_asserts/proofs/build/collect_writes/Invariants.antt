use Rattle.pmt_asserts.proofs.BuildLemmas.{HasWrites}
use Rattle.pmt_asserts.proofs.build.collect_writes.Given as goal

abbrev pub invariant-loop-index : goal.invariant-loop-index
invariant-loop-index l = HasWrites l.puts l.writes.items l.index
