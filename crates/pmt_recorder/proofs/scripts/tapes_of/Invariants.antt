use Rattle.std.proofs.Common.{◌≡◌, map}
use Rattle.pmt_recorder.proofs.scripts.tapes_of.Given as goal

abbrev pub invariant-loop-tape : goal.invariant-loop-tape
invariant-loop-tape g l = l.tapes.items ≡ map (λ p. p.0) l.yielded
