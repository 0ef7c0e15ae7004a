-- The first lost and kept stores make the failure of an assertion.
use Rattle.std.proofs.Common.{◌≡◌, ℕ, Option, None, Some, refl, subst, MatchOption}
use Rattle.pmt_explain.specs.Prelude.{Span, Written, Stores, Recording, IsAct, history, PersistPasses, OrderedPasses, ByteStore, Failure, IsLost, IsLastIn, IsFirstLost, IsKeptWithout, IsPersistFailure, IsOrderedFailure}
use Rattle.pmt_laws.proofs.Histories.{act-unique}
use Rattle.pmt_reasons.proofs.FailureLaws.{persist-passes, ordered-passes}
use Rattle.pmt_explain.specs.Crashes.{Anywhere, IsFirstAmong, IsFirstIn, KeepsWithout, IsFirstCrash}

pub first-lost : (T : Recording) (i n : ℕ) (A : Span) (full : Option ℕ) (x : ByteStore) → IsFirstAmong T i A (IsLost T n full) Anywhere x → IsFirstLost T i A n full x
first-lost T i n A full x f = record { is_last = f.is_last; is_lost = f.has; first = λ z is lost. f.first z is tt lost }

-- isPersist
pub persist-none : (T : Recording) (i : ℕ) (A : Span) → IsFirstIn T i A (IsLost T i None) Anywhere None → PersistPasses (history T i) A
persist-none T i A none = persist-passes T i A (λ z is lost. none z is tt lost)

pub persist-some : (T : Recording) (i : ℕ) (A : Span) (x : ByteStore) → IsFirstAmong T i A (IsLost T i None) Anywhere x → IsPersistFailure T i A (record { place = i; kept = None; lost = x })
persist-some T i A x f = record { place = refl; kept = refl; lost = first-lost T i i A None x f }

-- isOrderedBefore
keeps : (T : Recording) (i : ℕ) (A B : Span) (y x : ByteStore) → IsLastIn T i A x → IsKeptWithout T i B y x.store → KeepsWithout T i A y.store
keeps T i A B y x is k = record { line = k.line; what = k.what; is_store = k.is_store; without = x; is_last = is; is_lost = k.is_lost }

pub ordered-found : (T : Recording) (i : ℕ) (A B : Span) (o : Option Failure) → IsFirstCrash T i A B o → MatchOption o (OrderedPasses (history T i) A B) (IsOrderedFailure T i A B)
ordered-found T i A B None none = ordered-passes T i A B (λ y x is k. none y k.is_last (keeps T i A B y x is k))
ordered-found T i A B (Some f) x = record {
  kept = x.y;
  line = x.crash.line;
  what = x.crash.what;
  is_kept = x.crash.kept;
  place = x.crash.place;
  is_last = x.first.is_last;
  is_store = x.crash.is_store;
  lost = x.crash.lost;
  first = λ y z is k. x.first.first y k.is_last tt (keeps T i A B y z is k);
}

-- no store is kept without another one, where there is none to its line's crash
pub keeps-none : (T : Recording) (i : ℕ) (A : Span) (y l : ℕ) (w : Written) → IsAct T y (Stores l w) → IsFirstIn T i A (IsLost T y (Some l)) Anywhere None → KeepsWithout T i A y → ⊥
keeps-none T i A y l w is none k =
    let same = act-unique T y (Stores k.line k.what) (Stores l w) k.is_store is in
    let line : k.line ≡ l = cc in
    none k.without k.is_last tt (subst (λ m. IsLost T y (Some m) k.without.store) line k.is_lost)

-- an event that is no store keeps nothing
pub keeps-no_store : (T : Recording) (i : ℕ) (A : Span) (y : ℕ) → ((l : ℕ) (w : Written) → ¬ IsAct T y (Stores l w)) → KeepsWithout T i A y → ⊥
keeps-no_store T i A y none k = none k.line k.what k.is_store
