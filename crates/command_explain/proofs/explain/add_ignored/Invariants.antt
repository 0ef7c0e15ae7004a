use Rattle.std.proofs.Common.{◌≡◌, []}
use Rattle.command_explain.proofs.explain.add_ignored.Given as goal

abbrev pub invariant-loop-name : goal.invariant-loop-name
invariant-loop-name g l = l.names ≡ [] → l.ignored ≡ l.initial.ignored
