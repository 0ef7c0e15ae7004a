use Rattle.std.proofs.Common.{rules, ◌≡◌, Some, None, refl, sym, subst}
use Rattle.pmt_explain.specs.Prelude.{IsFailureAt, MendsFailure}
use Rattle.pmt_explain.specs.CauseOf.{IsCauseOf}
use Rattle.pmt_failures.specs.declared.failures.ShownFailure.{ShownFailure}
use Rattle.pmt_failures.specs.Showing.{IsShown, failure_mend}
use Rattle.pmt_failures.proofs.MendingLemmas.{failure_mend-mends}
use Rattle.pmt_failures.proofs.ShowingLemmas.{failure-has_cause}
use Rattle.pmt_failures.proofs.failures.shown_failure.Goals as goal

pub returns-in_default-cause : goal.returns-in_default-cause
returns-in_default-cause c =
    let T = c.args.safe.now.trace.now in
    let found = c.in-Some.found in
    let fails : IsFailureAt T c.args.number (Some found) = search rules in
    let none : IsCauseOf c.trace-trace.result.now found.place found.lost.store None = search rules in
    absurd (failure-has_cause T c.args.number found fails (subst (λ U. IsCauseOf U found.place found.lost.store None) c.trace-trace.ensures none))

pub returns : goal.returns
returns c =
    let U = c.trace-trace.result.now in
    let n = c.args.number in
    let found = c.in-Some.found in
    let cause = c.in-Some-cause.why in
    let is : c.trace-trace.result.now ≡ c.args.safe.now.trace.now = c.trace-trace.ensures in
    let told : IsFailureAt c.args.safe.now.trace.now n (Some found) = search rules in
    let fails : IsFailureAt U n (Some found) = subst (λ T. IsFailureAt T n (Some found)) (sym is) told in
    let why : IsCauseOf U found.place found.lost.store (Some cause) = search rules in
    let mend : c.mend_of_failure.result ≡ failure_mend U found cause = search rules in
    let shown : ShownFailure =
    record {
      event = n;
      failure = found;
      cause = cause;
      mend = c.mend_of_failure.result;
    } in
    subst (λ T. IsShown T shown × (n ≡ n)) is (
      record {
        fails = fails;
        why = why;
        mend = mend;
        mends = subst (MendsFailure U n found) (sym mend) (failure_mend-mends U n found cause fails why);
      },
      refl,
    )
