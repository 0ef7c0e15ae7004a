use Rattle.std.proofs.Common.{◌≡◌, suc, ◌+◌, [], List, Some, refl, sym, subst, arith}
use Rattle.std.proofs.lemmas.List.{append-nil}
use Rattle.pmt_laws.specs.Prelude.{Verdict, Asserts, event}
use Rattle.pmt_sweep.specs.Known.{IsKnownOf}
use Rattle.pmt_sweep.specs.Judged.{AreOldestOf}
use Rattle.pmt_sweep.specs.Found.{IsVerdictAt, AreVerdictsTo}
use Rattle.pmt_sweep.specs.Passing.{AreFlagsTo}
use Rattle.pmt_sweep.proofs.FlagLemmas.{flags-stays}
use Rattle.pmt_sweep.proofs.OldestLemmas.{oldest-on}
use Rattle.pmt_sweep.proofs.PassKnownLemmas.{known-assertion, known-next}
use Rattle.pmt_sweep.proofs.VerdictLemmas.{verdicts-next}
use Rattle.pmt_sweep.proofs.sweeping.Sweeper.take_assertion.Goals as goal

pub assertion-requires : goal.assertion-requires
assertion-requires c = (c.requires.0, c.requires.1, c.requires.2.known, c.requires.3)

pub verdict-judged-requires : goal.verdict-judged-requires
verdict-judged-requires c =
    let T = c.requires.0 in
    let n = c.requires.1 in
    let number : suc n ≡ c.len.result + 1 = omega (arith, c.len.ensures, c.requires.2.kept.all) in
    (T, subst (λ m. IsKnownOf T m c.assertion.new.self) number (c.in_ok-assertion.ensures T n c.requires.2.known c.requires.3))

pub returns : goal.returns
returns c T n pass next is =
    let s = c.args.self.now in
    let e = c.args.assertion.now in
    let number : suc n ≡ c.len.result + 1 = omega (arith, c.len.ensures, pass.kept.all) in
    let known = c.in_ok-assertion.ensures T n pass.known is in
    let here = subst (λ m. IsKnownOf T m c.assertion.new.self) number known in
    let oldest = oldest-on T n s.oldest.found.items pass.oldest in
    let there = subst (λ m. AreOldestOf T m s.oldest.found.items) number oldest in
    let judged = c.verdict-judged.ensures.tells T e here there (subst (λ m. event T m ≡ Some e) number next) refl in
    let verdict = subst (λ m. IsVerdictAt T m c.verdict-judged.result) (sym number) judged in
    record {
      format = pass.format;
      known = known;
      oldest = subst (λ m. AreOldestOf T m c.verdict-judged.new.oldest.found.items) (sym number) (c.verdict-judged.ensures.kept T here there);
      found = known-next T n s.found.items s.found.items pass.found ([], sym (append-nil s.found.items), known-assertion T (suc n) is);
      over = pass.over;
      kept = subst (AreFlagsTo T (suc n)) (sym c.in_ok-push.ensures.items) (flags-stays T n s.kept.items Asserts is refl pass.kept);
      verdicts = subst (λ (vs : List Verdict). AreVerdictsTo T (suc n) vs) (sym c.in_ok-push_verdict.ensures) (verdicts-next T n s.verdicts.items c.verdict-judged.result verdict pass.verdicts);
    }
