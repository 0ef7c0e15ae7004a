use Rattle.std.proofs.lemmas.Result.{IfOk-weaker}
use Rattle.pmt_explain.proofs.CountingLemmas.{counts-listed}
use Rattle.pmt_explain.proofs.lines.crash_lines.Goals as goal

pub returns : goal.returns
returns c = IfOk-weaker c.listed.result _ _ (λ list is. counts-listed c.args.trace.now c.args.failure.now.place _ c.in_ok-crash.crash c.in_ok-counts.counts list.items c.in_ok-crash.ensures c.in_ok-counts.ensures is) c.listed.ensures
