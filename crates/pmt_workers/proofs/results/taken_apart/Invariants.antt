use Rattle.std.proofs.Common.{◌≡◌, map}
use Rattle.std.specs.List.{flat_map}
use Rattle.pmt_workers.specs.Answering.{result_in, kept_in}
use Rattle.pmt_workers.proofs.results.taken_apart.Given as goal

abbrev pub invariant-loop-part : goal.invariant-loop-part
invariant-loop-part l =
    (l.results.items ≡ map result_in (flat_map (λ part. part.items) l.yielded)) × (map (λ kept. kept.items) l.lists.items ≡ map kept_in (flat_map (λ part. part.items) l.yielded))
