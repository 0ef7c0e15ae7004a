-- An overwritten store, by the numbers of the last store to a byte and of the last flush of a line.
use Rattle.std.proofs.Common.{◌≡◌, ◌≢◌, ℕ, zero, suc, ◌-◌, ◌<◌, ◌≤◌, ◌⊎◌, inl, inr, ◌==◌, Bool, true, false, List, ◌∷◌, length, Option, Some, None, refl, sym, ap, subst, ◌∙◌, arith, eqb-true}
use Rattle.std.proofs.lemmas.Bool.{true≢false, cases_order, eqb-false}
use Rattle.std.specs.Prelude.{if◌then◌else◌}
use Rattle.pmt_laws.specs.Prelude.{Written, Act, Stores, Flushes, Clflushes, writes, Recording, IsAct, history, IsFlushOf, ByFlush, ByClflush, IsOverwritten, OverwritesBefore, last_store_number, last_flush}
use Rattle.pmt_laws.specs.ModelLaws.{OverwrittenByNumbers}
use Rattle.pmt_laws.proofs.Histories.{act-unique, act-within, history-act, history-step, length-history}

-- Event j is the last one of the first n events that writes the byte at b.
pub record IsLastWriter (T : Recording) (b n j : ℕ) : Type 0 where
  pub line : ℕ
  pub what : Written
  pub is_store : IsAct T j (Stores line what)
  pub by_now : j ≤ n
  pub writes_it : writes what b ≡ true
  pub last : (k l : ℕ) (w : Written) → j < k → k ≤ n → IsAct T k (Stores l w) → writes w b ≢ true

-- What the number of the last store to the byte at b tells of the first n events.
abbrev pub LastWriter : Recording → ℕ → ℕ → Option ℕ → Type 0
LastWriter T b n None = (k l : ℕ) (w : Written) → k ≤ n → IsAct T k (Stores l w) → writes w b ≢ true
LastWriter T b n (Some j) = IsLastWriter T b n j

-- Event n is no store that writes the byte at b.
abbrev WritesNot : Recording → ℕ → ℕ → Type 0
WritesNot T b n = (l : ℕ) (w : Written) → IsAct T n (Stores l w) → writes w b ≢ true

-- a number up to the next is the next, or comes before
pub equal_or_before : (k n : ℕ) → k ≤ suc n → (k ≡ suc n) ⊎ (k ≤ n)
equal_or_before k n h = grind arith

-- an event that doesn't write the byte leaves its last writer
later-writer : (T : Recording) (b n : ℕ) (o : Option ℕ) → WritesNot T b (suc n) → LastWriter T b n o → LastWriter T b (suc n) o
later-writer T b n None not_here before =
    λ k l w by_now is. elim (equal_or_before k n by_now) [
      | inl e ↦ not_here l w (let P : ℕ → Type 0 = λ i. IsAct T i (Stores l w) in subst P e is)
      | inr sooner ↦ before k l w sooner is
    ]
later-writer T b n (Some j) not_here before = record {
  line = before.line;
  what = before.what;
  is_store = before.is_store;
  by_now = omega (arith, before.by_now);
  writes_it = before.writes_it;
  last = λ k l w later by_now is. elim (equal_or_before k n by_now) [
    | inl e ↦ not_here l w (let P : ℕ → Type 0 = λ i. IsAct T i (Stores l w) in subst P e is)
    | inr sooner ↦ before.last k l w later sooner is
  ];
}

-- an event that is another act than a store writes no byte
no-store : (T : Recording) (b n : ℕ) (a : Act) → IsAct T n a → ((l : ℕ) (w : Written) → a ≢ Stores l w) → WritesNot T b n
no-store T b n a is other l w store = absurd (other l w (act-unique T n a (Stores l w) is store))

-- a store that doesn't write the byte
other-store : (T : Recording) (b n l : ℕ) (w : Written) → IsAct T n (Stores l w) → writes w b ≡ false → WritesNot T b n
other-store T b n l w is not_it k x store written =
    let same : Stores l w ≡ Stores k x = act-unique T n (Stores l w) (Stores k x) is store in
    let same_what : w ≡ x = cc in
    absurd (true≢false (sym written ∙ ap (λ y. writes y b) (sym same_what) ∙ not_it))

-- the last writer after a store
store-tells : (T : Recording) (b n l : ℕ) (w : Written) (v : Bool) → writes w b ≡ v → IsAct T (suc n) (Stores l w) → LastWriter T b n (last_store_number b (history T n)) → LastWriter T b (suc n) (if v then Some (suc (length (history T n))) else last_store_number b (history T n))
store-tells T b n l w true it is before =
    let e : length (history T n) ≡ n = length-history T n (let h = act-within T (suc n) (Stores l w) is in omega (arith, h.1)) in
    let here : IsLastWriter T b (suc n) (suc n) = record {
      line = l;
      what = w;
      is_store = is;
      by_now = omega arith;
      writes_it = it;
      last = λ k m x later by_now store. absurd (omega arith);
    } in
    let P : ℕ → Type 0 = λ i. IsLastWriter T b (suc n) (suc i) in
    subst P (sym e) here
store-tells T b n l w false not_it is before = later-writer T b n (last_store_number b (history T n)) (other-store T b (suc n) l w is not_it) before

-- the last writer after one more act
act-tells : (T : Recording) (b n : ℕ) (a : Act) → IsAct T (suc n) a → LastWriter T b n (last_store_number b (history T n)) → LastWriter T b (suc n) (last_store_number b (a ∷ history T n))
act-tells T b n (Stores l w) is before = store-tells T b n l w (writes w b) refl is before
act-tells T b n a is before = later-writer T b n (last_store_number b (history T n)) (no-store T b (suc n) a is (λ k w e. cc)) before

-- the number of the last store to a byte tells which event writes it last
pub last_store_number-tells : (T : Recording) (b n : ℕ) → LastWriter T b n (last_store_number b (history T n))
last_store_number-tells T b zero = λ k l w by_now is. absurd (let h = act-within T k (Stores l w) is in omega (arith, h.0))
last_store_number-tells T b (suc n) =
    elim (history-step T n) [
      | inl x ↦ let P : List Act → Type 0 = λ h. LastWriter T b (suc n) (last_store_number b h) in
          subst P (sym (history-act T n x.0 x.1)) (act-tells T b n x.0 x.1 (last_store_number-tells T b n))
      | inr x ↦ let P : List Act → Type 0 = λ h. LastWriter T b (suc n) (last_store_number b h) in
          subst P (sym x.1) (later-writer T b n (last_store_number b (history T n)) (λ l w is. absurd (let h = act-within T (suc n) (Stores l w) is in omega (arith, h.1, x.0))) (last_store_number-tells T b n))
    ]

-- Number f is that of the last flush of line l among the first n events, or 0.
pub record IsLastFlush (T : Recording) (l n f : ℕ) : Type 0 where
  pub reached : (f ≡ 0) ⊎ (IsFlushOf T l f × (f ≤ n))
  pub greatest : (k : ℕ) → k ≤ n → IsFlushOf T l k → k ≤ f

-- a flush has a number within the events
flush-within : (T : Recording) (l i : ℕ) → IsFlushOf T l i → (1 ≤ i) × (i ≤ length T.events)
flush-within T l i (ByFlush t is) = act-within T i (Flushes t l) is
flush-within T l i (ByClflush is) = act-within T i (Clflushes l) is

-- an event that is no flush of the line leaves its last flush
later-flush : (T : Recording) (l n f : ℕ) → (IsFlushOf T l (suc n) → ⊥) → IsLastFlush T l n f → IsLastFlush T l (suc n) f
later-flush T l n f not_here before = record {
  reached = elim before.reached [ inl e ↦ inl e | inr x ↦ inr (x.0, omega (arith, x.1)) ];
  greatest = λ k by_now flush. elim (equal_or_before k n by_now) [
    | inl e ↦ absurd (not_here (let P : ℕ → Type 0 = λ i. IsFlushOf T l i in subst P e flush))
    | inr sooner ↦ before.greatest k sooner flush
  ];
}

-- a flush of the line at the last event is its last one
flush-here : (T : Recording) (l n : ℕ) → IsFlushOf T l (suc n) → IsLastFlush T l (suc n) (suc (length (history T n)))
flush-here T l n flush =
    let e : length (history T n) ≡ n = length-history T n (let h = flush-within T l (suc n) flush in omega (arith, h.1)) in
    let here : IsLastFlush T l (suc n) (suc n) = record { reached = inr (flush, omega arith); greatest = λ k by_now other. by_now } in
    let P : ℕ → Type 0 = λ i. IsLastFlush T l (suc n) (suc i) in
    subst P (sym e) here

-- the act of a flush of the line
flush-act : (T : Recording) (l i : ℕ) (a : Act) → IsAct T i a → IsFlushOf T l i → ((t : ℕ) × (a ≡ Flushes t l)) ⊎ (a ≡ Clflushes l)
flush-act T l i a is (ByFlush t flush) = inl (t, act-unique T i a (Flushes t l) is flush)
flush-act T l i a is (ByClflush flush) = inr (act-unique T i a (Clflushes l) is flush)

-- an event with another act than a flush of the line is none
no-flush : (T : Recording) (l i : ℕ) (a : Act) → IsAct T i a → ((t : ℕ) → a ≢ Flushes t l) → a ≢ Clflushes l → IsFlushOf T l i → ⊥
no-flush T l i a is other other_now flush = elim (flush-act T l i a is flush) [ inl x ↦ other x.0 x.1 | inr e ↦ other_now e ]

-- the last flush of the line after a flush by a thread
flush-tells : (T : Recording) (t l n k : ℕ) (v : Bool) → (k == l) ≡ v → IsAct T (suc n) (Flushes t k) → IsLastFlush T l n (last_flush l (history T n)) → IsLastFlush T l (suc n) (if v then suc (length (history T n)) else last_flush l (history T n))
flush-tells T t l n k true same is before =
    let e : k ≡ l = eqb-true k l same in
    let P : ℕ → Type 0 = λ m. IsAct T (suc n) (Flushes t m) in
    flush-here T l n (ByFlush t (subst P e is))
flush-tells T t l n k false other is before =
    later-flush T l n (last_flush l (history T n)) (no-flush T l (suc n) (Flushes t k) is (λ u e. let s : k ≡ l = cc in eqb-false k l other s) (λ e. cc)) before

-- the last flush of the line after a clflush
clflush-tells : (T : Recording) (l n k : ℕ) (v : Bool) → (k == l) ≡ v → IsAct T (suc n) (Clflushes k) → IsLastFlush T l n (last_flush l (history T n)) → IsLastFlush T l (suc n) (if v then suc (length (history T n)) else last_flush l (history T n))
clflush-tells T l n k true same is before =
    let e : k ≡ l = eqb-true k l same in
    let P : ℕ → Type 0 = λ m. IsAct T (suc n) (Clflushes m) in
    flush-here T l n (ByClflush (subst P e is))
clflush-tells T l n k false other is before =
    later-flush T l n (last_flush l (history T n)) (no-flush T l (suc n) (Clflushes k) is (λ u e. cc) (λ e. let s : k ≡ l = cc in eqb-false k l other s)) before

-- the last flush of the line after one more act
act-flushes : (T : Recording) (l n : ℕ) (a : Act) → IsAct T (suc n) a → IsLastFlush T l n (last_flush l (history T n)) → IsLastFlush T l (suc n) (last_flush l (a ∷ history T n))
act-flushes T l n (Stores k w) is before = later-flush T l n (last_flush l (history T n)) (no-flush T l (suc n) (Stores k w) is (λ t e. cc) (λ e. cc)) before
act-flushes T l n (Flushes t k) is before = flush-tells T t l n k (k == l) refl is before
act-flushes T l n (Clflushes k) is before = clflush-tells T l n k (k == l) refl is before
act-flushes T l n a is before = later-flush T l n (last_flush l (history T n)) (no-flush T l (suc n) a is (λ u e. cc) (λ e. cc)) before

-- the number of the last flush of a line is that of its last flush
pub last_flush-tells : (T : Recording) (l n : ℕ) → IsLastFlush T l n (last_flush l (history T n))
last_flush-tells T l zero = record {
  reached = inl refl;
  greatest = λ k by_now flush. by_now;
}
last_flush-tells T l (suc n) =
    elim (history-step T n) [
      | inl x ↦ let P : List Act → Type 0 = λ h. IsLastFlush T l (suc n) (last_flush l h) in
          subst P (sym (history-act T n x.0 x.1)) (act-flushes T l n x.0 x.1 (last_flush-tells T l n))
      | inr x ↦ let P : List Act → Type 0 = λ h. IsLastFlush T l (suc n) (last_flush l h) in
          subst P (sym x.1) (later-flush T l n (last_flush l (history T n)) (λ flush. absurd (let h = flush-within T l (suc n) flush in omega (arith, h.1, x.0))) (last_flush-tells T l n))
    ]

-- the last writer of a byte is the one
writer-unique : (T : Recording) (b n j : ℕ) (o : Option ℕ) → LastWriter T b n o → IsLastWriter T b n j → o ≡ Some j
writer-unique T b n j None tells it = absurd (tells j it.line it.what it.by_now it.is_store it.writes_it)
writer-unique T b n j (Some i) tells it =
    elim (cases_order i j) [
      | inl e ↦ ap Some e
      | inr c ↦ elim c [
        | inl before ↦ absurd (tells.last j it.line it.what before it.by_now it.is_store it.writes_it)
        | inr after ↦ absurd (it.last i tells.line tells.what after tells.by_now tells.is_store tells.writes_it)
      ]
    ]

-- the number of the last store to a byte is that of its last writer
pub last_store_number-from : (T : Recording) (b n j : ℕ) → IsLastWriter T b n j → last_store_number b (history T n) ≡ Some j
last_store_number-from T b n j it = writer-unique T b n j (last_store_number b (history T n)) (last_store_number-tells T b n) it

-- the last writer of a byte, from the number of the last store to it
pub last_store_number-is : (T : Recording) (b n j : ℕ) → last_store_number b (history T n) ≡ Some j → IsLastWriter T b n j
last_store_number-is T b n j e = let P : Option ℕ → Type 0 = λ o. LastWriter T b n o in subst P e (last_store_number-tells T b n)

-- a store comes after the last flush of its line, if no flush of the line comes after it
store-after_flush : (T : Recording) (l j n f : ℕ) (w : Written) → IsAct T j (Stores l w) → ((k : ℕ) → j < k → k ≤ n → IsFlushOf T l k → ⊥) → IsLastFlush T l n f → f < j
store-after_flush T l j n f w is unflushed it =
    elim it.reached [
      | inl e ↦ let h = act-within T j (Stores l w) is in omega (arith, h.0)
      | inr x ↦ elim (cases_order f j) [
        | inl e ↦ let P : ℕ → Type 0 = λ i. IsFlushOf T l i in
            absurd (no-flush T l j (Stores l w) is (λ t d. cc) (λ d. cc) (subst P e x.0))
        | inr c ↦ elim c [ inl before ↦ before | inr after ↦ absurd (unflushed f after x.1 x.0) ]
      ]
    ]

-- what is at most the number before comes before
pub before-one : (k i : ℕ) → 1 ≤ i → k ≤ i - 1 → k < i
before-one k i some h = omega arith

-- an overwritten store is one by numbers
numbers-from_overwritten : (T : Recording) (j i : ℕ) (it : IsOverwritten T j i) → OverwritesBefore T it.line j i it.earlier it.later it.byte
numbers-from_overwritten T j i it =
    let within = act-within T i (Stores it.line it.later) it.is_later in
    let writer : IsLastWriter T it.byte (i - 1) j = record {
      line = it.line;
      what = it.earlier;
      is_store = it.is_earlier;
      by_now = omega (arith, it.order);
      writes_it = it.writes_earlier;
      last = λ k l w later by_now is. it.last k l w later (before-one k i within.0 by_now) is;
    } in
    record {
      is_earlier = it.is_earlier;
      is_later = it.is_later;
      writes_later = it.writes_later;
      last = last_store_number-from T it.byte (i - 1) j writer;
      unflushed = store-after_flush T it.line j (i - 1) (last_flush it.line (history T (i - 1))) it.earlier it.is_earlier (λ k later by_now. it.unflushed k later (before-one k i within.0 by_now)) (last_flush-tells T it.line (i - 1));
    }

-- a store that is overwritten by numbers is overwritten
overwritten-from_numbers : (T : Recording) (l j i : ℕ) (earlier later : Written) (byte : ℕ) → OverwritesBefore T l j i earlier later byte → IsOverwritten T j i
overwritten-from_numbers T l j i earlier later byte it =
    let within = act-within T i (Stores l later) it.is_later in
    let writer = last_store_number-is T byte (i - 1) j it.last in
    let flushed = last_flush-tells T l (i - 1) in
    let same : Stores writer.line writer.what ≡ Stores l earlier = act-unique T j (Stores writer.line writer.what) (Stores l earlier) writer.is_store it.is_earlier in
    let same_what : writer.what ≡ earlier = cc in
    record {
      line = l;
      earlier = earlier;
      later = later;
      byte = byte;
      is_earlier = it.is_earlier;
      is_later = it.is_later;
      order = before-one j i within.0 writer.by_now;
      writes_earlier = ap (λ w. writes w byte) (sym same_what) ∙ writer.writes_it;
      writes_later = it.writes_later;
      last = λ k m w after before is. writer.last k m w after (omega arith) is;
      unflushed = λ k after before flush. absurd (omega (arith, flushed.greatest k (omega arith) flush, it.unflushed));
    }

-- a store is overwritten exactly where it is by numbers
pub overwritten_by_numbers : OverwrittenByNumbers
overwritten_by_numbers T j i = (
  λ it. (it.line, it.earlier, it.later, it.byte, numbers-from_overwritten T j i it),
  λ x. overwritten-from_numbers T x.0 j i x.1 x.2 x.3 x.4,
)
