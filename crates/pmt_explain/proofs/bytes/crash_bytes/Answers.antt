use Rattle.std.proofs.Common.{subst, ◌∙◌}
use Rattle.std.proofs.lemmas.Result.{IfOk-weaker}
use Rattle.pmt_explain.specs.Crashes.{full_line, AreReadOf}
use Rattle.pmt_explain.proofs.KeptLemmas.{crash-bytes}
use Rattle.pmt_explain.proofs.bytes.crash_bytes.Goals as goal

pub returns : goal.returns
returns c =
    let T = c.args.trace.now in
    IfOk-weaker c.bytes_of.result _ _ (λ bytes read. crash-bytes T c.args.failure.now.place (full_line T c.args.failure.now.kept) c.in_ok-crash.crash c.args.range c.get.result c.in_ok-last.last.items bytes.items c.in_ok-crash.ensures
    (c.get.ensures.value ∙ c.addr.ensures) c.in_ok-last.ensures.size c.in_ok-last.ensures.last (subst (λ xs. AreReadOf T c.get.result xs bytes.items) c.as_slice.ensures.value read)) c.bytes_of.ensures
