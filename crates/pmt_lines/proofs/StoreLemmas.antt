-- What is reported at a store is what is found of the line there.
use Rattle.std.proofs.Common.{◌≡◌, ℕ, suc, ◌+◌, ◌-◌, ◌%◌, ◌<◌, ◌≤◌, ◌⊎◌, inl, inr, Bool, true, false, List, ◌++◌, length, get_or, Option, Some, None, refl, sym, ap, subst, ◌∙◌, arith}
use Rattle.std.specs.Prelude.{◌↔◌, IsTrue, nat_lt, unwrap_or, ◌==◌}
use Rattle.std.proofs.lemmas.Bool.{ltb-true, eq-eqb}
use Rattle.pmt_laws.specs.Prelude.{Finding, Overwritten, NeverPersisted, RedundantFlush, FenceWithoutFlush, Written, Stores, Flushes, Clflushes, count, writes, Recording, IsTrace, IsAct, history, count_at, front_at, IsNeverPersisted, IsFlushOf, ByFlush, ByClflush, IsFlushedAfter, IsOverwritten, OverwritesBefore, last_store_number, last_flush, Has, reported_at, IsReportedBefore, HasFinding}
use Rattle.pmt_laws.proofs.Histories.{act-unique, act-within, history-act}
use Rattle.pmt_laws.proofs.NeverLemmas.{never_persisted_by_fronts}
use Rattle.pmt_laws.proofs.OverwrittenLemmas.{overwritten_by_numbers, last_store_number-is, IsLastWriter, IsLastFlush, last_flush-tells}
use Rattle.pmt_lines.specs.declared.line_findings.Scan.{Scan}
use Rattle.pmt_lines.specs.declared.line_findings.Ending.{Ending}
use Rattle.pmt_lines.specs.Jobs.{IsLineFinding, IsEnding, IsAmong, AreAbove, AreStoresAt, found_if, overwritten_by, never_persisted_of}
use Rattle.pmt_lines.proofs.TraceLemmas.{IsSize, size-of_format, store-of_trace, byte-line, byte-from_writes, writes-from_byte}
use Rattle.pmt_lines.proofs.ScanLemmas.{IsScan, IsTable}
use Rattle.pmt_lines.proofs.FindingLists.{has-append, has-left, has-right, ordered-append, has-overwritten, overwritten-has, overwritten-ordered, has-if, if-has, if-ordered}
use Rattle.pmt_lines.proofs.ReportLemmas.{AreFoundAt}

-- a number that is there, not by default
some-number : (o : Option ℕ) (f j : ℕ) → f < j → unwrap_or o 0 ≡ j → o ≡ Some j
some-number None f j above e = absurd (omega arith)
some-number (Some i) f j above e = ap (λ (k : ℕ). Some k) e

-- the last store to a byte of the store
slot-of : (T : Recording) (l n : ℕ) (w : Written) (table numbers : List ℕ) → IsTrace T → IsAct T (suc n) (Stores l w) → IsTable T l n table → AreStoresAt table w.addr (length w.bytes) numbers → (k : ℕ) → k < length w.bytes → get_or numbers k 0 ≡ unwrap_or (last_store_number (w.addr + k) (history T n)) 0
slot-of T l n w table numbers is_trace is right at k within =
    let of_line = store-of_trace T (suc n) l w is_trace is in
    let place : w.addr % 256 + k ≡ (w.addr + k) % 256 = omega (arith, of_line.store.inside, within) in
    let written : writes w (w.addr + k) ≡ true = writes-from_byte w (w.addr + k) (omega arith, omega arith) in
    at.1 k within ∙ ap (λ p. get_or table p 0) place ∙ right (w.addr + k) (byte-line T.format l (w.addr + k) w (size-of_format T.format is_trace.format) of_line written)

-- a store among the last ones to the bytes of a later store, after the last flush, is overwritten
overwritten-to : (T : Recording) (l n j : ℕ) (w : Written) (table numbers : List ℕ) → IsTrace T → IsAct T (suc n) (Stores l w) → IsTable T l n table → AreStoresAt table w.addr (length w.bytes) numbers → last_flush l (history T n) < j → IsAmong numbers j → IsOverwritten T j (suc n)
overwritten-to T l n j w table numbers is_trace is right at unflushed among =
    (overwritten_by_numbers T j (suc n)).1 (
      l,
      writer.what,
      w,
      byte,
      record {
        is_earlier = subst (λ k. IsAct T j (Stores k writer.what)) line writer.is_store;
        is_later = is;
        writes_later = written;
        last = ap (λ k. last_store_number byte (history T k)) before ∙ last;
        unflushed = rw before unflushed;
      },
    )
  where
    before : suc n - 1 ≡ n
    before = omega arith

    within : among.0 < length w.bytes
    within = omega (arith, among.1, at.0)

    byte : ℕ
    byte = w.addr + among.0

    written : writes w byte ≡ true
    written = writes-from_byte w byte (omega arith, omega (arith, within))

    last : last_store_number byte (history T n) ≡ Some j
    last = some-number (last_store_number byte (history T n)) (last_flush l (history T n)) j unflushed (sym (slot-of T l n w table numbers is_trace is right at among.0 within) ∙ among.2)

    writer : IsLastWriter T byte n j
    writer = last_store_number-is T byte n j last

    size : IsSize T.format.line_size
    size = size-of_format T.format is_trace.format

    line : writer.line ≡ l
    line =
        sym (byte-line T.format writer.line byte writer.what size (store-of_trace T j writer.line writer.what is_trace writer.is_store) writer.writes_it)
        ∙ byte-line T.format l byte w size (store-of_trace T (suc n) l w is_trace is) written

-- an overwritten store is among the last ones to the bytes of the later store, after the last flush
overwritten-from : (T : Recording) (l n j : ℕ) (w : Written) (table numbers : List ℕ) → IsTrace T → IsAct T (suc n) (Stores l w) → IsTable T l n table → AreStoresAt table w.addr (length w.bytes) numbers → IsOverwritten T j (suc n) → (last_flush l (history T n) < j) × IsAmong numbers j
overwritten-from T l n j w table numbers is_trace is right at o = (unflushed, (k, omega (arith, within, at.0), slot ∙ ap (λ o. unwrap_or o 0) last))
  where
    before : suc n - 1 ≡ n
    before = omega arith

    x : (m : ℕ) × (earlier : Written) × (later : Written) × (byte : ℕ) × OverwritesBefore T m j (suc n) earlier later byte
    x = (overwritten_by_numbers T j (suc n)).0 o

    same : Stores x.0 x.2 ≡ Stores l w
    same = act-unique T (suc n) (Stores x.0 x.2) (Stores l w) x.4.is_later is

    line : x.0 ≡ l
    line = cc same

    later : x.2 ≡ w
    later = cc same

    unflushed : last_flush l (history T n) < j
    unflushed = omega (arith, x.4.unflushed, ap (λ m. last_flush x.0 (history T m)) before, ap (λ m. last_flush m (history T n)) line)

    byte : (w.addr ≤ x.3) × (x.3 < w.addr + length w.bytes)
    byte = byte-from_writes w x.3 (ap (λ v. writes v x.3) (sym later) ∙ x.4.writes_later)

    k : ℕ
    k = x.3 - w.addr

    within : k < length w.bytes
    within = omega (arith, byte.0, byte.1)

    there : w.addr + k ≡ x.3
    there = omega (arith, byte.0)

    slot : get_or numbers k 0 ≡ unwrap_or (last_store_number x.3 (history T n)) 0
    slot = slot-of T l n w table numbers is_trace is right at k within ∙ ap (λ b. unwrap_or (last_store_number b (history T n)) 0) there

    last : last_store_number x.3 (history T n) ≡ Some j
    last = ap (λ m. last_store_number x.3 (history T m)) (sym before) ∙ x.4.last

lt-test : (a b : ℕ) → a < b → nat_lt a b ≡ true
lt-test a b h = grind arith

flush-within : (T : Recording) (l k : ℕ) → IsFlushOf T l k → k ≤ length T.events
flush-within T l k (ByFlush t is) = (act-within T k (Flushes t l) is).1
flush-within T l k (ByClflush is) = (act-within T k (Clflushes l) is).1

-- a flush comes after an event exactly if the last flush does
pub flushed-after : (T : Recording) (l i : ℕ) (ending : Ending) → IsEnding T l ending → IsTrue (nat_lt i ending.flush) ↔ IsFlushedAfter T l i
flushed-after T l i ending end = (to, from)
  where
    last : IsLastFlush T l (length T.events) ending.flush
    last = subst (IsLastFlush T l (length T.events)) (sym end.flush) (last_flush-tells T l (length T.events))

    reached : i < ending.flush → (ending.flush ≡ 0) ⊎ (IsFlushOf T l ending.flush × (ending.flush ≤ length T.events)) → IsFlushedAfter T l i
    reached less (inl none) = absurd (omega arith)
    reached less (inr x) = (ending.flush, less, x.0)

    to : IsTrue (nat_lt i ending.flush) → IsFlushedAfter T l i
    to e = reached (ltb-true i ending.flush e) last.reached

    from : IsFlushedAfter T l i → IsTrue (nat_lt i ending.flush)
    from x = lt-test i ending.flush (omega (arith, x.1, last.greatest x.0 (flush-within T l x.0 x.2) x.2))

-- two tests of the same fact
same-test : (P : Type 0) (a b : Bool) → IsTrue a ↔ P → IsTrue b ↔ P → a ≡ b
same-test P true true x y = refl
same-test P true false x y = sym (y.1 (x.0 refl))
same-test P false true x y = x.1 (y.0 refl)
same-test P false false x y = refl

-- at a store
pub found-at_store : (T : Recording) (l n : ℕ) (w : Written) (scan : Scan) (ending : Ending) (numbers above : List ℕ) → IsTrace T → IsEnding T l ending → IsScan T l n scan → IsAct T (suc n) (Stores l w) → AreStoresAt scan.stores.numbers w.addr (length w.bytes) numbers → AreAbove scan.flush numbers above → AreFoundAt T l (suc n) (overwritten_by (suc n) above ++ never_persisted_of ending (scan.state.count + 1) (suc n))
found-at_store T l n w scan ending numbers above is_trace end s is at are = record {
  ordered = ordered-append (overwritten_by i above) never (overwritten-ordered i scan.flush above are.rising) (if-ordered is_never it) before;
  just = λ f. (there f, back f);
}
  where
    i : ℕ
    i = suc n

    it : Finding
    it = NeverPersisted i (nat_lt i ending.flush)

    is_never : Bool
    is_never = nat_lt ending.front (scan.state.count + 1)

    never : List Finding
    never = found_if is_never it

    before : (x y : Finding) → HasFinding (overwritten_by i above) x → HasFinding never y → IsReportedBefore x y
    before x y first second =
        let a = has-overwritten i above x first in
        let b = has-if is_never it y second in
        subst (λ z. IsReportedBefore z y) a.2 (subst (IsReportedBefore (Overwritten a.0 i)) b.1 (inr (refl, tt)))

    law : IsNeverPersisted T l i ↔ (front_at T l (length T.events) < count_at T l i)
    law = never_persisted_by_fronts T l i w is

    own : (l == l) ≡ true
    own = eq-eqb l l refl

    counted : count_at T l i ≡ suc scan.state.count
    counted = ap (count l) (history-act T n (Stores l w) is) ∙ rw own (ap suc (sym s.follows.counts))

    line : (j : ℕ) (o : IsOverwritten T j i) → o.line ≡ l
    line j o = let same = act-unique T i (Stores o.line o.later) (Stores l w) o.is_later is in cc

    told : (j : ℕ) → Has above j → IsLineFinding T l (Overwritten j i)
    told j has =
        let x = (are.just j).0 has in
        let o = overwritten-to T l n j w scan.stores.numbers numbers is_trace is s.table at (omega (arith, s.flush, x.0)) x.1 in
        (o, line j o)

    there : (f : Finding) → HasFinding (overwritten_by i above ++ never) f → IsLineFinding T l f × (reported_at f ≡ i)
    there f has = elim (has-append (overwritten_by i above) never f has) [
      | inl first ↦ let x = has-overwritten i above f first in subst (λ g. IsLineFinding T l g × (reported_at g ≡ i)) x.2 (told x.0 x.1, refl)
      | inr second ↦ let x = has-if is_never it f second in
          subst (λ g. IsLineFinding T l g × (reported_at g ≡ i)) x.1
          ((law.1 (omega (arith, counted, end.front, ltb-true ending.front (scan.state.count + 1) x.0)), flushed-after T l i ending end), refl)
    ]

    over : (j : ℕ) → IsOverwritten T j i → HasFinding (overwritten_by i above ++ never) (Overwritten j i)
    over j o =
        let x = overwritten-from T l n j w scan.stores.numbers numbers is_trace is s.table at o in
        has-left (overwritten_by i above) never (Overwritten j i) (overwritten-has i above j ((are.just j).1 (omega (arith, s.flush, x.0), x.1)))

    pending : (flushed : Bool) → IsLineFinding T l (NeverPersisted i flushed) → HasFinding (overwritten_by i above ++ never) (NeverPersisted i flushed)
    pending flushed h =
        let same : nat_lt i ending.flush ≡ flushed = same-test (IsFlushedAfter T l i) (nat_lt i ending.flush) flushed (flushed-after T l i ending end) h.1 in
        let yes : is_never ≡ true = lt-test ending.front (scan.state.count + 1) (omega (arith, counted, end.front, law.0 h.0)) in
        subst (λ v. HasFinding (overwritten_by i above ++ never) (NeverPersisted i v)) same (has-right (overwritten_by i above) never it (if-has is_never it yes))

    flushes : IsLineFinding T l (RedundantFlush i) → ⊥
    flushes (inl h) = let e = act-unique T i (Stores l w) (Flushes h.0 l) is h.1.is_flush in cc
    flushes (inr h) = let e = act-unique T i (Stores l w) (Clflushes l) is h.is_clflush in cc

    back : (f : Finding) → IsLineFinding T l f × (reported_at f ≡ i) → HasFinding (overwritten_by i above ++ never) f
    back (Overwritten j k) h =
        subst (λ m. HasFinding (overwritten_by i above ++ never) (Overwritten j m)) (sym h.1) (over j (subst (IsOverwritten T j) h.1 h.0.0))
    back (NeverPersisted k flushed) h =
        subst (λ m. HasFinding (overwritten_by i above ++ never) (NeverPersisted m flushed)) (sym h.1) (pending flushed (subst (λ m. IsLineFinding T l (NeverPersisted m flushed)) h.1 h.0))
    back (RedundantFlush k) h = absurd (flushes (subst (λ m. IsLineFinding T l (RedundantFlush m)) h.1 h.0))
    back (FenceWithoutFlush k) h = absurd h.0
