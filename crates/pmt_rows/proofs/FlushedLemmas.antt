-- The set of a line's flushers, act by act.
use Rattle.std.proofs.Common.{◌≡◌, Bool, true, false, ◌==◌, ◌&&◌, refl, sym, ap, ◌∙◌, eq-eqb}
use Rattle.std.specs.Prelude.{◌||◌, not}
use Rattle.std.proofs.lemmas.Bool.{ne_eqb}
use Rattle.pmt_safety.specs.Safety.{has_flushed}
use Rattle.pmt_rows.specs.Threads.{FlushersGoOn}

and-true : (b : Bool) → (b && true) ≡ b
and-true true = refl
and-true false = refl

and-false : (b : Bool) → (b && false) ≡ false
and-false true = refl
and-false false = refl

pub flushers_go_on : FlushersGoOn
flushers_go_on = record {
  none = λ l t small. refl;
  store = λ l w history t small. let e = eq-eqb l l refl in rw e refl;
  flush = λ t l history has are u small. ap (λ b. (t == u) || b) (are u small) ∙ ap (λ b. b || has_flushed u l history) (sym (and-true (t == u)) ∙ ap (λ b. (t == u) && b) (sym (eq-eqb l l refl)));
  other_store = λ k l w history has other are t small. are t small ∙ ap (λ b. not b && has_flushed t l history) (sym (ne_eqb k l other));
  other_flush = λ t k l history has other are u small. are u small ∙ ap (λ b. b || has_flushed u l history) (sym (and-false (t == u)) ∙ ap (λ b. (t == u) && b) (sym (ne_eqb k l other)));
  clflush = λ k l history has are t small. are t small;
  fence = λ t l history has are u small. are u small;
  assertion = λ l history has are t small. are t small;
}
