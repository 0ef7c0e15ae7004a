use Rattle.pmt_workers.specs.Answering.{AreAnswersTo}
use Rattle.pmt_workers.proofs.shard.run_shard.Given as goal

abbrev pub invariant-loop-job : goal.invariant-loop-job
invariant-loop-job l = AreAnswersTo l.yielded l.answers.items
