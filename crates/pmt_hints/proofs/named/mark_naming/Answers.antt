use Rattle.std.proofs.Common.{ℕ, ◌≤◌, subst, arith}
use Rattle.std.proofs.lemmas.List.{take_all}
use Rattle.pmt_hints.specs.Claiming.{Marks}
use Rattle.pmt_hints.proofs.NamingLemmas.{IsNamingAmong, among-last, among-more, naming-flags}
use Rattle.pmt_hints.proofs.named.mark_naming.Goals as goal

pub loop-verdict-preserved : goal.loop-verdict-preserved
loop-verdict-preserved c =
    let T = c.args.trace.now in
    let vs = c.args.verdicts.now in
    let k = c.loop-verdict.verdict-index in
    record {
      marked = among-more T c.args.role vs k _ c.loop-verdict-test.true c.args.naming.now c.loop-verdict.naming c.mark_verdict-end.new.naming c.loop-verdict.invariant.marked c.mark_verdict-end.ensures.marked;
      last = among-last T c.args.role vs k _ c.loop-verdict-test.true c.loop-verdict.end c.mark_verdict-end.result c.loop-verdict.invariant.last c.mark_verdict-end.ensures.last c.mark_verdict-end.ensures.higher;
      within = c.mark_verdict-end.ensures.within c.loop-verdict.invariant.within;
    }

pub returns : goal.returns
returns c =
    let T = c.args.trace.now in
    let all = take_all c.loop-verdict.verdict-index c.args.verdicts.now (omega arith) in
    naming-flags T c.args.role c.args.verdicts.now c.args.naming.now c.loop-verdict.naming c.loop-verdict.end c.requires.verdicts c.requires.none
    (subst (λ vs. Marks (IsNamingAmong T c.args.role vs) c.args.naming.now c.loop-verdict.naming) all c.loop-verdict.invariant.marked) c.loop-verdict.invariant.within
    (subst (λ vs. (i : ℕ) → IsNamingAmong T c.args.role vs i → i ≤ c.loop-verdict.end) all c.loop-verdict.invariant.last)
