-- The verdicts, from bytes to stores and back.
use Rattle.std.proofs.Common.{◌≡◌, ℕ, zero, suc, ◌<◌, ◌≤◌, inl, inr, List, Option, Some, None, unwrap_or, refl, sym, ap, subst, ◌∙◌, arith}
use Rattle.std.specs.Prelude.{slice_index, ◌↔◌}
use Rattle.pmt_laws.specs.Prelude.{Written, Span, line_of, Stores, Recording, IsTrace, IsAct, history, last_store_number, InSpan, PersistPasses, OrderedPasses}
use Rattle.pmt_laws.proofs.Histories.{act-unique, act-within}
use Rattle.pmt_laws.proofs.OverwrittenLemmas.{last_store_number-is}
use Rattle.pmt_safety.specs.Safety.{safe_store_at, IsLastIn}
use Rattle.pmt_safety.proofs.SafetyLemmas.{safe-up_to, safe-later, safe_from_is_passed}
use Rattle.pmt_safety.proofs.VerdictLemmas.{persist_by_stores, ordered_by_stores}
use Rattle.pmt_rows.specs.Known.{AreLinkedAt}
use Rattle.pmt_tables.specs.Lasts.{last_number}
use Rattle.pmt_tables.proofs.LineLemmas.{writes-line}
use Rattle.pmt_sweep.specs.Judged.{IsByteSafe, PersistByBytes, IsNoLaterThan, OrderedByLinks}

-- Store j is the last one to the byte at b.
record IsLast (T : Recording) (n b j : ℕ) : Type 0 where
  pub what : Written
  pub is_store : IsAct T j (Stores (line_of T.format b) what)
  pub by_now : j ≤ n
  pub number : last_store_number b (history T n) ≡ Some j

-- what is told of a byte is its last store, to its line
last-of : (T : Recording) (n b j : ℕ) → IsTrace T → last_store_number b (history T n) ≡ Some j → IsLast T n b j
last-of T n b j trace told =
    let it = last_store_number-is T b n j told in
    let line : it.line ≡ line_of T.format b = sym (writes-line T j it.line it.what b trace it.is_store it.writes_it) in
    record { what = it.what; is_store = subst (λ l. IsAct T j (Stores l it.what)) line it.is_store; by_now = it.by_now; number = told }

-- and a number above 0 is told
last-some : (T : Recording) (n b : ℕ) → IsTrace T → 0 < last_number T n b → IsLast T n b (last_number T n b)
last-some T n b trace some = last-of T n b (last_number T n b) trace (go (last_store_number b (history T n)) some)
  where
    go : (o : Option ℕ) → 0 < unwrap_or o 0 → o ≡ Some (unwrap_or o 0)
    go None h = absurd (omega (arith, h))
    go (Some j) h = refl

number-of : (T : Recording) (n b j : ℕ) → last_store_number b (history T n) ≡ Some j → last_number T n b ≡ j
number-of T n b j told = ap (λ o. unwrap_or o 0) told

-- what stands of a store in a range is of the byte's line
same-line : (T : Recording) (n l j : ℕ) (A : Span) → IsTrace T → (it : IsLastIn T n A l j) → line_of T.format it.byte ≡ l
same-line T n l j A trace it =
    let last = last-of T n it.byte j trace it.last in
    let same = act-unique T j (Stores (line_of T.format it.byte) last.what) (Stores l it.what) last.is_store it.is_store in
    cc

in-range : (T : Recording) (n b j : ℕ) (A : Span) → InSpan A b → IsLast T n b j → IsLastIn T n A (line_of T.format b) j
in-range T n b j A within it = record { what = it.what; is_store = it.is_store; byte = b; within = within; last = it.number }

pub persist_by_bytes : PersistByBytes
persist_by_bytes T n A trace = (there, back)
  where
    there : PersistPasses (history T n) A → (b : ℕ) → InSpan A b → IsByteSafe T n b
    there passes b within = go (last_number T n b) refl
      where
        go : (x : ℕ) → last_number T n b ≡ x → last_number T n b ≤ safe_store_at T (line_of T.format b) n
        go zero none = omega (arith, none)
        go (suc i) is =
            let it = last-some T n b trace (omega (arith, is)) in
            (persist_by_stores T n A).0 passes (line_of T.format b) (last_number T n b) (in-range T n b (last_number T n b) A within it)

    back : ((b : ℕ) → InSpan A b → IsByteSafe T n b) → PersistPasses (history T n) A
    back each = (persist_by_stores T n A).1 (λ l j it.
        let safe : last_number T n it.byte ≤ safe_store_at T (line_of T.format it.byte) n = each it.byte it.within in
        let at : j ≤ safe_store_at T (line_of T.format it.byte) n = omega (arith, safe, number-of T n it.byte j it.last) in
        subst (λ k. j ≤ safe_store_at T k n) (same-line T n l j A trace it) at)

-- a store is safe at the place of another exactly where it is safe now, from a place no later
safe-by : (T : Recording) (n l x y : ℕ) (w : Written) (entries : List ℕ) → AreLinkedAt T n entries → IsAct T x (Stores l w) → x ≤ n → y ≤ n →
    (x ≤ safe_store_at T l y) ↔ ((x ≤ safe_store_at T l n) × (slice_index entries x ≤ y))
safe-by T n l x y w entries linked is by_now then_ = (there, back)
  where
    there : x ≤ safe_store_at T l y → (x ≤ safe_store_at T l n) × (slice_index entries x ≤ y)
    there early =
        let safe = (safe-up_to T l y x w is).1 early in
        let now : x ≤ safe_store_at T l n = (safe-up_to T l n x w is).0 (safe-later T l y n x then_ safe) in
        (now, (safe_from_is_passed.from_then T l x (slice_index entries x) y w is (linked.passed l x w by_now is now)).0 safe)

    back : (x ≤ safe_store_at T l n) × (slice_index entries x ≤ y) → x ≤ safe_store_at T l y
    back (now, from) = (safe-up_to T l y x w is).0 ((safe_from_is_passed.from_then T l x (slice_index entries x) y w is (linked.passed l x w by_now is now)).1 from)

pub ordered_by_links : OrderedByLinks
ordered_by_links T n A B entries trace linked = (there, back)
  where
    there : OrderedPasses (history T n) A B → (a b : ℕ) → InSpan A a → InSpan B b → 0 < last_number T n a → 0 < last_number T n b → IsNoLaterThan T n entries a b
    there passes a b inside within first second =
        let x = last-some T n a trace first in
        let y = last-some T n b trace second in
        elim ((ordered_by_stores T n A B).0 passes (line_of T.format a) (last_number T n a) (line_of T.format b) (last_number T n b) (in-range T n a (last_number T n a) A inside x) (in-range T n b (last_number T n b) B within y)) [
          | inl same ↦ inl same
          | inr safe ↦ inr ((safe-by T n (line_of T.format a) (last_number T n a) (last_number T n b) x.what entries linked x.is_store x.by_now y.by_now).0 safe)
        ]

    back : ((a b : ℕ) → InSpan A a → InSpan B b → 0 < last_number T n a → 0 < last_number T n b → IsNoLaterThan T n entries a b) → OrderedPasses (history T n) A B
    back each = (ordered_by_stores T n A B).1 (λ l j k i one two.
        let x = last-of T n one.byte j trace one.last in
        let y = last-of T n two.byte i trace two.last in
        let first = number-of T n one.byte j one.last in
        let second = number-of T n two.byte i two.last in
        let line = same-line T n l j A trace one in
        let other = same-line T n k i B trace two in
        let some : 0 < last_number T n one.byte = omega (arith, first, (act-within T j (Stores l one.what) one.is_store).0) in
        let more : 0 < last_number T n two.byte = omega (arith, second, (act-within T i (Stores k two.what) two.is_store).0) in
        elim (each one.byte two.byte one.within two.within some more) [
          | inl same ↦ inl (sym line ∙ same.0 ∙ other, omega (arith, same.1, first, second))
          | inr safe ↦
              let now : j ≤ safe_store_at T (line_of T.format one.byte) n = omega (arith, safe.0, first) in
              let from : slice_index entries j ≤ i = omega (arith, safe.1, second, ap (slice_index entries) first) in
              let by : j ≤ safe_store_at T (line_of T.format one.byte) i = (safe-by T n (line_of T.format one.byte) j i x.what entries linked x.is_store x.by_now y.by_now).1 (now, from) in
              inr (subst (λ m. j ≤ safe_store_at T m i) line by)
        ])
