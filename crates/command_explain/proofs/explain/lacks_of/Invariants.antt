use Rattle.std.proofs.Common.{◌≡◌, []}
use Rattle.command_explain.proofs.explain.lacks_of.Given as goal

abbrev pub invariant-loop-lacked : goal.invariant-loop-lacked
invariant-loop-lacked l = l.all ≡ [] → l.lacks.items ≡ []
