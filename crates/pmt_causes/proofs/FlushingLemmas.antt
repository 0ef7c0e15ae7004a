-- The kind of a cause, by the next flush of the line.
use Rattle.std.proofs.Common.{◌≡◌, ℕ, ◌<◌, ◌≤◌, inl, inr, length, refl, arith}
use Rattle.std.proofs.lemmas.Bool.{cases_lt, lt-ltb, le-ltb}
use Rattle.pmt_explain.specs.Prelude.{Recording, ByFlush, Cause, IsCause}
use Rattle.pmt_reasons.specs.declared.cause.Cause.TheVariants as cause
use Rattle.pmt_explain.specs.Following.{IsNextFlush}
use Rattle.pmt_causes.specs.Groups.{kind_of, cause_by}

pub cause-kind : (T : Recording) (l n x flush : ℕ) (c : Cause) → n ≤ length T.events → IsNextFlush T l x flush → IsCause T l n x c → cause_by n x flush ≡ kind_of c
cause-kind T l n x flush cause.Later within next why = rw (lt-ltb n x why) refl
cause-kind T l n x flush cause.Unflushed within next why =
    let early : n < flush = elim (cases_lt n flush) [ inl before ↦ before | inr upto ↦ let f = next.has (omega arith) in absurd (why.1 flush f.0 upto f.1) ] in
    rw (le-ltb n x why.0) (rw (lt-ltb n flush early) refl)
cause-kind T l n x flush (cause.Unfenced first thread other) within next why =
    let late : flush ≤ n = elim (cases_lt n flush) [
      | inl before ↦ absurd (next.none_before first (omega (arith, why.1.by_now)) (why.1.after, ByFlush thread why.1.is_flush))
      | inr upto ↦ upto
    ] in
    rw (le-ltb n x why.0) (rw (le-ltb n flush late) refl)
