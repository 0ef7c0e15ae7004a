use Rattle.std.proofs.Common.{◌≡◌, map}
use Rattle.pmt_workers.specs.Answering.{result_in, kept_in}
use Rattle.refused_calls.proofs.shard.taken_apart.Given as goal

abbrev pub invariant-loop-answer : goal.invariant-loop-answer
invariant-loop-answer l =
    (l.results.items ≡ map result_in l.yielded) × (map (λ kept. kept.items) l.lists.items ≡ map kept_in l.yielded)
