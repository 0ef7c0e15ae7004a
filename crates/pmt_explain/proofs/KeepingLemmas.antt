-- The first store that can be kept without another one is the first of all stores, or the first one to another line.
use Rattle.std.proofs.Common.{◌≡◌, ◌≢◌, ℕ, ◌≤◌, inl, inr, Bool, true, false, Option, None, Some, MatchOption, sym, ap, subst, ◌∙◌, arith}
use Rattle.std.specs.Prelude.{◌==◌, if◌then◌else◌}
use Rattle.std.proofs.lemmas.Bool.{cases_eq, ne_eqb}
use Rattle.std.proofs.lemmas.Option.{none-some, same_Some}
use Rattle.pmt_explain.specs.Prelude.{Span, Written, Stores, Recording, IsAct, count_at, front_at, ByteStore, Failure, persisted_at, IsLastIn, IsLost, IsNoLater}
use Rattle.pmt_laws.proofs.Histories.{count-mono, front-mono}
use Rattle.pmt_explain.specs.Crashes.{Anywhere, IsFirstAmong, IsFirstIn, IsStoreOff, KeepsWithout, IsCrashAfter, IsFirstCrash}
use Rattle.pmt_explain.proofs.LosingLemmas.{front-le-persisted}

-- a crash that comes later, with the same full line, leaves no fewer stores persisted
persisted-mono : (T : Recording) (l k m n : ℕ) → m ≤ n → persisted_at T m (Some l) k ≤ persisted_at T n (Some l) k
persisted-mono T l k m n h = go (k == l)
  where
    go : (b : Bool) → (if b then count_at T k m else front_at T k m) ≤ (if b then count_at T k n else front_at T k n)
    go true = count-mono T k m n h
    go false = front-mono T k m n h

-- a line that is not full has its front in each crash, and no fewer stores persisted in any later one
other-mono : (T : Recording) (l k m n : ℕ) (full : Option ℕ) → k ≢ l → m ≤ n → persisted_at T m (Some l) k ≤ persisted_at T n full k
other-mono T l k m n full apart h =
    let e : persisted_at T m (Some l) k ≡ front_at T k m = ap (λ b. if b then count_at T k m else front_at T k m) (ne_eqb k l apart) in
    omega (arith, e, front-mono T k m n h, front-le-persisted T n k full)

-- what is lost with more stores persisted is lost with fewer
lost-fewer : (T : Recording) (m n : ℕ) (full other : Option ℕ) (x : ℕ) (lost : IsLost T n other x) → persisted_at T m full lost.line ≤ persisted_at T n other lost.line → IsLost T m full x
lost-fewer T m n full other x lost fewer = record { line = lost.line; what = lost.what; is_store = lost.is_store; missing = omega (arith, lost.missing, fewer) }

-- a later store to the same line
same-line : (T : Recording) (i : ℕ) (A : Span) (y z l : ℕ) (w : Written) → IsAct T y (Stores l w) → y ≤ z → (k : KeepsWithout T i A z) → k.line ≡ l → KeepsWithout T i A y
same-line T i A y z l w is order k line =
    let lost : IsLost T z (Some l) k.without.store = subst (λ j. IsLost T z (Some j) k.without.store) line k.is_lost in
    record {
      line = l;
      what = w;
      is_store = is;
      without = k.without;
      is_last = k.is_last;
      is_lost = lost-fewer T y z (Some l) (Some l) k.without.store lost (persisted-mono T l lost.line y z order);
    }

-- a later store, where the lost store's line is not that of this one
other-line : (T : Recording) (i : ℕ) (A : Span) (y z l : ℕ) (w : Written) → IsAct T y (Stores l w) → y ≤ z → (k : KeepsWithout T i A z) → k.is_lost.line ≢ l → KeepsWithout T i A y
other-line T i A y z l w is order k apart = record {
  line = l;
  what = w;
  is_store = is;
  without = k.without;
  is_last = k.is_last;
  is_lost = lost-fewer T y z (Some l) (Some k.line) k.without.store k.is_lost (other-mono T l k.is_lost.line y z (Some k.line) apart order);
}

-- what is kept without another is a store
off : (T : Recording) (i : ℕ) (A : Span) (y : ℕ) → KeepsWithout T i A y → IsStoreOff T None y
off T i A y k = record { line = k.line; what = k.what; is_store = k.is_store; other = λ e. none-some k.line (sym e) }

off-line : (T : Recording) (i : ℕ) (A : Span) (y l : ℕ) (k : KeepsWithout T i A y) → k.line ≢ l → IsStoreOff T (Some l) y
off-line T i A y l k apart = record { line = k.line; what = k.what; is_store = k.is_store; other = λ e. apart (same_Some k.line l e) }

no_later-le : (x z : ByteStore) → IsNoLater x z → x.store ≤ z.store
no_later-le x z (inl less) = omega arith
no_later-le x z (inr same) = omega (arith, same.0)

-- the crash after a store loses one
keeps-after : (T : Recording) (i : ℕ) (A : Span) (y : ByteStore) (f : Failure) → IsCrashAfter T i A y f → KeepsWithout T i A y.store
keeps-after T i A y f x = record { line = x.line; what = x.what; is_store = x.is_store; without = f.lost; is_last = x.lost.is_last; is_lost = x.lost.is_lost }

-- no store at all
pub crash-none : (T : Recording) (i : ℕ) (A B : Span) → IsFirstIn T i B (IsStoreOff T None) Anywhere None → IsFirstCrash T i A B None
crash-none T i A B none z is k = none z is tt (off T i A z.store k)

-- the first store
pub crash-first : (T : Recording) (i : ℕ) (A B : Span) (y : ByteStore) (f : Failure) → IsFirstAmong T i B (IsStoreOff T None) Anywhere y → IsCrashAfter T i A y f → IsFirstCrash T i A B (Some f)
crash-first T i A B y f first crash = record {
  y = y;
  first = record { is_last = first.is_last; has = keeps-after T i A y f crash; first = λ z is covered k. first.first z is covered (off T i A z.store k) };
  crash = crash;
}

-- the first store is not kept without another
module _ (T : Recording) (i : ℕ) (A B : Span) (y : ByteStore) (l : ℕ) (w : Written) (first : IsFirstAmong T i B (IsStoreOff T None) Anywhere y) (is : IsAct T y.store (Stores l w))
    (none : KeepsWithout T i A y.store → ⊥) where
  -- so no store to its line is
  own-none : (z : ByteStore) → IsLastIn T i B z → (k : KeepsWithout T i A z.store) → k.line ≢ l
  own-none z last k line = none (same-line T i A y.store z.store l w is (no_later-le y z (first.first z last tt (off T i A z.store k))) k line)

  -- there is no store to another line
  second-none : IsFirstIn T i B (IsStoreOff T (Some l)) Anywhere None → IsFirstCrash T i A B None
  second-none others z last k = others z last tt (off-line T i A z.store l k (own-none z last k))

  -- the first one to another line is kept without another
  second-some : (z : ByteStore) (f : Failure) → IsFirstAmong T i B (IsStoreOff T (Some l)) Anywhere z → IsCrashAfter T i A z f → IsFirstCrash T i A B (Some f)
  second-some z f second crash = record {
    y = z;
    first = record { is_last = second.is_last; has = keeps-after T i A z f crash; first = λ x last covered k. second.first x last covered (off-line T i A x.store l k (own-none x last k)) };
    crash = crash;
  }

  -- it is not either
  both-none : (z : ByteStore) → IsFirstAmong T i B (IsStoreOff T (Some l)) Anywhere z → (KeepsWithout T i A z.store → ⊥) → IsFirstCrash T i A B None
  both-none z second neither x last k =
      let before = no_later-le y x (first.first x last tt (off T i A x.store k)) in
      let after = no_later-le z x (second.first x last tt (off-line T i A x.store l k (own-none x last k))) in
      elim (cases_eq k.is_lost.line l) [
        | inl own ↦ neither (other-line T i A z.store x.store second.has.line second.has.what second.has.is_store after k (λ e. second.has.other (ap Some (sym e ∙ own))))
        | inr apart ↦ none (other-line T i A y.store x.store l w is before k apart)
      ]

-- the crash after the first store to another line than that of the first one
pub crash-second : (T : Recording) (i : ℕ) (A B : Span) (y : ByteStore) (apart : Option ℕ) (o : Option ByteStore) (p : Option Failure) → IsFirstAmong T i B (IsStoreOff T None) Anywhere y →
    (KeepsWithout T i A y.store → ⊥) → MatchOption apart ((l : ℕ) (w : Written) → ¬ IsAct T y.store (Stores l w)) (λ l. (w : Written) × IsAct T y.store (Stores l w)) →
    IsFirstIn T i B (IsStoreOff T apart) Anywhere o → MatchOption o (p ≡ None) (λ z. MatchOption p (KeepsWithout T i A z.store → ⊥) (IsCrashAfter T i A z)) → IsFirstCrash T i A B p
crash-second T i A B y None o p first none line second crash = absurd (line first.has.line first.has.what first.has.is_store)
crash-second T i A B y (Some l) None None first none line second crash = second-none T i A B y l line.0 first line.1 none second
crash-second T i A B y (Some l) None (Some f) first none line second crash = absurd (none-some f (sym crash))
crash-second T i A B y (Some l) (Some z) None first none line second crash = both-none T i A B y l line.0 first line.1 none z second crash
crash-second T i A B y (Some l) (Some z) (Some f) first none line second crash = second-some T i A B y l line.0 first line.1 none z f second crash
