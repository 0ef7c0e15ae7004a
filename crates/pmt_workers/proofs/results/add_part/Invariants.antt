use Rattle.std.proofs.Common.{◌≡◌, ◌++◌, map}
use Rattle.pmt_workers.specs.Answering.{result_in, kept_in}
use Rattle.pmt_workers.proofs.results.add_part.Given as goal

abbrev pub invariant-loop-answer : goal.invariant-loop-answer
invariant-loop-answer l =
    (l.results.items ≡ l.initial.results.items ++ map result_in l.yielded) × (map (λ kept. kept.items) l.lists.items ≡ map (λ kept. kept.items) l.initial.lists.items ++ map kept_in l.yielded)
