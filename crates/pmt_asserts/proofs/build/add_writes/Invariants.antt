use Rattle.pmt_asserts.proofs.BuildLemmas.{HasUpTo}
use Rattle.pmt_asserts.proofs.build.add_writes.Given as goal

abbrev pub invariant-loop-byte : goal.invariant-loop-byte
invariant-loop-byte l = HasUpTo l.initial.writes.items l.writes.items l.rank l.fn.put.addr l.byte
