use Rattle.std.proofs.Common.{None, Some, refl}
use Rattle.pmt_explain.proofs.KeepingLemmas.{crash-second}
use Rattle.pmt_explain.proofs.failing.second_kept.Goals as goal

pub returns-in-None : goal.returns-in-None
returns-in-None c =
    crash-second c.args.trace.now c.args.number c.args.lost c.args.kept c.args.first c.line_of_store-line.result None None c.requires.first c.requires.none c.line_of_store-line.ensures
    (c.in-None.ensures c.args.number c.requires.kept) refl

pub returns-in-Some : goal.returns-in-Some
returns-in-Some c =
    crash-second c.args.trace.now c.args.number c.args.lost c.args.kept c.args.first c.line_of_store-line.result (Some c.in-Some.second) c.crash_after.result c.requires.first c.requires.none
    c.line_of_store-line.ensures (c.in-Some.ensures c.args.number c.requires.kept) c.crash_after.ensures
