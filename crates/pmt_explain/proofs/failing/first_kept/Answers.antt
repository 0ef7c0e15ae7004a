use Rattle.pmt_explain.proofs.KeepingLemmas.{crash-none, crash-first}
use Rattle.pmt_explain.proofs.failing.first_kept.Goals as goal

pub returns-in-None : goal.returns-in-None
returns-in-None c = crash-none c.args.trace.now c.args.number c.args.lost c.args.kept (c.in-None.ensures c.args.number c.requires.kept)

pub second_kept-requires-clause-first : goal.second_kept-requires-clause-first
second_kept-requires-clause-first c = c.in-Some.ensures c.args.number c.requires.kept

pub returns-in-Some-crash_after : goal.returns-in-Some-crash_after
returns-in-Some-crash_after c =
    crash-first c.args.trace.now c.args.number c.args.lost c.args.kept c.in-Some.first c.in-Some-crash_after.failure (c.in-Some.ensures c.args.number c.requires.kept) c.in-Some-crash_after.ensures
