use Rattle.pmt_explain.proofs.CrashLemmas.{crash-new}
use Rattle.pmt_explain.proofs.crash.Crash.new.Goals as goal

pub returns : goal.returns
returns c = crash-new c.args.trace.now c.args.place c.args.full c.in_ok-flushes.flushes c.requires c.in_ok-flushes.ensures
