use Rattle.std.proofs.Common.{◌≡◌, sym, ap, subst, ◌∙◌}
use Rattle.pmt_model.specs.Analyses.{IsVerdicts}
use Rattle.rayon.specs.Lists.{iter_slice}
use Rattle.rayon.proofs.ListFacts.{IfOk-then}
use Rattle.rayon.proofs.ToStd.{slice-AllZip}
use Rattle.pmt_asserts.specs.Tables.{IsVerdictAt}
use Rattle.pmt_asserts.proofs.VerdictLemmas.{verdicts-all}
use Rattle.pmt_asserts.proofs.judge.verdicts.Goals as goal

pub returns : goal.returns
returns g c =
    let T = c.args.trace.now in
    let numbers = c.in_ok-numbers.numbers.items in
    let slice : iter_slice c.with_min_len.result.base ≡ numbers = ap iter_slice c.with_min_len.ensures.base ∙ c.par_iter.ensures in
    IfOk-then c.collect.result _ _ c.collect.ensures (λ v h.
    let chain = rw (c.filter_map.ensures.base, c.filter_map.ensures.f) at h.1 in
    let each = slice-AllZip chain.0 numbers (chain.2 ∙ slice) (IsVerdictAt T) chain.1 chain.3 in
    subst (IsVerdicts T) (sym (h.2 ∙ chain.4)) (verdicts-all T numbers chain.1 (c.in_ok-numbers.ensures {u = tt}) each))
