-- The last stores to bytes, event by event.
use Rattle.std.proofs.Common.{◌≡◌, ◌≢◌, ℕ, suc, ◌/◌, ◌<◌, ◌≤◌, ◌⊎◌, inl, inr, Bool, true, false, [], ◌∷◌, length, Option, Some, None, refl, sym, ap, subst, ◌∙◌, arith}
use Rattle.std.proofs.lemmas.Bool.{cases_eq}
use Rattle.std.specs.Prelude.{if◌then◌else◌, slice_get, unwrap_or}
use Rattle.pmt_laws.specs.Prelude.{Event, Op, Store, Clwb, ClflushOpt, Clflush, Sfence, Mfence, IsPersist, IsOrderedBefore, Written, line_of, Stores as StoresAct, writes, Recording, act_of, act, history, last_store_number}
use Rattle.pmt_laws.proofs.Histories.{history-suc, length-history}
use Rattle.pmt_laws.proofs.OverwrittenLemmas.{last_store_number-is}
use Rattle.pmt_tables.specs.Slots.{IsSlotOf}
use Rattle.pmt_tables.specs.Lasts.{last_number}
use Rattle.pmt_tables.proofs.LineLemmas.{byte-from_writes}
use Rattle.pmt_explain.specs.declared.blocks.Blocks.{Blocks}
use Rattle.pmt_explain.specs.declared.blocks.Stores.{Stores}
use Rattle.pmt_explain.specs.LastStores.{IsAdded, IsKept, stores_at, Tells}
use Rattle.pmt_explain.specs.Writers.{AreStores, AreWritten, IsStoreTo, NotesOp}
use Rattle.pmt_explain.proofs.BlockLemmas.{told-none}

-- ---- One more event

-- the last store to a byte after one more act
next-number : (T : Recording) (n b : ℕ) (e : Event) → slice_get T.events n ≡ Some e → n < length T.events → last_number T (suc n) b ≡ unwrap_or (last_store_number b (act T.format e ∷ history T n)) 0
next-number T n b e is within = ap (λ h. unwrap_or (last_store_number b h) 0) (history-suc T n e is)

after-store : (T : Recording) (n b : ℕ) (w : Written) → n < length T.events → (l : ℕ) → unwrap_or (last_store_number b (StoresAct l w ∷ history T n)) 0 ≡ (if writes w b then suc n else last_number T n b)
after-store T n b w within l = go (writes w b) refl
  where
    go : (v : Bool) → writes w b ≡ v → unwrap_or (if writes w b then Some (suc (length (history T n))) else last_store_number b (history T n)) 0 ≡ (if v then suc n else last_number T n b)
    go true e = rw e (ap suc (length-history T n (omega (arith, within))))
    go false e = rw e refl

-- a number of an event so far
last-le : (T : Recording) (n b : ℕ) → last_number T n b ≤ n
last-le T n b = go (last_store_number b (history T n)) refl
  where
    go : (o : Option ℕ) → last_store_number b (history T n) ≡ o → unwrap_or o 0 ≤ n
    go None e = omega arith
    go (Some j) e = (last_store_number-is T b n j e).by_now

-- the stores to a block of which no byte is written
stores-same : (T : Recording) (n low high k : ℕ) (s t : Stores) → ((b : ℕ) → b / 64 ≡ k → low ≤ b → b < high → last_number T (suc n) b ≡ last_number T n b) → t.first ≡ s.first → t.last ≡ s.last → AreStores T n low high k s →
    AreStores T (suc n) low high k t
stores-same T n low high k s t same first last x = record {
  is_last = subst (IsStoreTo T k) (sym last) x.is_last;
  some = omega (arith, first, x.some);
  order = omega (arith, first, last, x.order);
  by_now = omega (arith, last, x.by_now);
  each = λ b near from to. elim (x.each b near from to) [
    | inl none ↦ inl (same b near from to ∙ none)
    | inr both ↦ inr (omega (arith, first, both.0, same b near from to), omega (arith, last, both.1, same b near from to))
  ];
}

-- and to one to which the store is
stores-own : (T : Recording) (n low high k : ℕ) (w : Written) (t : Stores) → t.last ≡ suc n → IsStoreTo T k (suc n) → ((b : ℕ) → last_number T (suc n) b ≡ (if writes w b then suc n else last_number T n b)) →
    (0 < t.first) × (t.first ≤ suc n) × ((b : ℕ) → b / 64 ≡ k → low ≤ b → b < high → (last_number T n b ≡ 0) ⊎ (t.first ≤ last_number T n b)) → AreStores T (suc n) low high k t
stores-own T n low high k w t last is after first = record {
  is_last = subst (IsStoreTo T k) (sym last) is;
  some = first.0;
  order = omega (arith, first.1, last);
  by_now = omega (arith, last);
  each = λ b near from to. go b (writes w b) (after b) (first.2 b near from to);
}
  where
    go : (b : ℕ) (v : Bool) → last_number T (suc n) b ≡ (if v then suc n else last_number T n b) → (last_number T n b ≡ 0) ⊎ (t.first ≤ last_number T n b) →
        (last_number T (suc n) b ≡ 0) ⊎ ((t.first ≤ last_number T (suc n) b) × (last_number T (suc n) b ≤ t.last))
    go b true e old = inr (omega (arith, e, first.1), omega (arith, e, last))
    go b false e (inl none) = inl (e ∙ none)
    go b false e (inr more) = inr (omega (arith, e, more), omega (arith, e, last, last-le T n b))

written-suc : (T : Recording) (n low high : ℕ) (e : Event) (old new : Blocks) → slice_get T.events n ≡ Some e → n < length T.events → NotesOp e.op (suc n) low high old new → AreWritten T n low high old →
    AreWritten T (suc n) low high new
written-suc T n low high e old new is within notes x = go e.op refl notes
  where
    number : (o : Op) → e.op ≡ o → (b : ℕ) → last_number T (suc n) b ≡ unwrap_or (last_store_number b (act_of T.format e.thread o ∷ history T n)) 0
    number o op b = next-number T n b e is within ∙ ap (λ p. unwrap_or (last_store_number b (act_of T.format e.thread p ∷ history T n)) 0) op

    same : ((b : ℕ) → low ≤ b → b < high → last_number T (suc n) b ≡ last_number T n b) → new ≡ old → AreWritten T (suc n) low high new
    same none kept = subst (AreWritten T (suc n) low high) (sym kept) (record {
      are = x.are;
      each = λ b from to. subst (Tells old b) (sym (none b from to)) (x.each b from to);
      stores = λ k p at. stores-same T n low high k (stores_at old p) (stores_at old p) (λ b near from to. none b from to) refl refl (x.stores k p at);
    })

    go : (o : Op) → e.op ≡ o → NotesOp o (suc n) low high old new → AreWritten T (suc n) low high new
    go (Store w) op (inl out) = same (λ b from to. number (Store w) op b ∙ after-store T n b w within (line_of T.format w.addr) ∙ away b from to (writes w b) refl) out.1
      where
        away : (b : ℕ) → low ≤ b → b < high → (v : Bool) → writes w b ≡ v → (if writes w b then suc n else last_number T n b) ≡ last_number T n b
        away b from to true hit = let at = byte-from_writes w b hit in absurd (elim out.0 [ inl before ↦ omega (arith, at.1, before, from) | inr after ↦ omega (arith, at.0, after, to) ])
        away b from to false hit = rw hit refl
    go (Store w) op (inr it) = record {
      are = it.are;
      each = λ b from to. subst (Tells new b) (sym (after b)) (it.told b (last_number T n b) (x.each b from to));
      stores = λ k p at. elim (cases_eq k (w.addr / 64)) [
        | inl here ↦ subst (λ j. AreStores T (suc n) low high j (stores_at new p)) (sym here) (own p (subst (λ j. IsSlotOf j p new.places) here at))
        | inr apart ↦
            let kept = it.others k p apart at in
            stores-same T n low high k (stores_at old p) (stores_at new p) (λ b near from to. after b ∙ off k b apart near) kept.0.first kept.1 (x.stores k p kept.0.before)
      ];
    }
      where
        after : (b : ℕ) → last_number T (suc n) b ≡ (if writes w b then suc n else last_number T n b)
        after b = number (Store w) op b ∙ after-store T n b w within (line_of T.format w.addr)

        is_store : IsStoreTo T (w.addr / 64) (suc n)
        is_store = record { line = line_of T.format w.addr; what = w; is_store = (e, is, ap (λ p. act_of T.format e.thread p) op); near = refl }

        off : (k b : ℕ) → k ≢ w.addr / 64 → b / 64 ≡ k → (if writes w b then suc n else last_number T n b) ≡ last_number T n b
        off k b apart near = out (writes w b) refl
          where
            out : (v : Bool) → writes w b ≡ v → (if v then suc n else last_number T n b) ≡ last_number T n b
            out true hit = let in_store = byte-from_writes w b hit in absurd (apart (omega (arith, near, in_store.0, in_store.1, it.is_store.inside)))
            out false hit = refl

        own : (p : ℕ) → IsSlotOf (w.addr / 64) p new.places → AreStores T (suc n) low high (w.addr / 64) (stores_at new p)
        own p at =
            let own_stores = it.own p at in
            stores-own T n low high (w.addr / 64) w (stores_at new p) own_stores.0 is_store after (first own_stores.1)
          where
            first : IsKept (w.addr / 64) p old new ⊎ IsAdded (w.addr / 64) p (suc n) old new →
                (0 < (stores_at new p).first) × ((stores_at new p).first ≤ suc n) × ((b : ℕ) → b / 64 ≡ w.addr / 64 → low ≤ b → b < high → (last_number T n b ≡ 0) ⊎ ((stores_at new p).first ≤ last_number T n b))
            first (inl kept) =
                let before = x.stores (w.addr / 64) p kept.before in
                (omega (arith, kept.first, before.some), omega (arith, kept.first, before.order, before.by_now), λ b near from to. elim (before.each b near from to) [ inl none ↦ inl none | inr both ↦ inr (omega (arith, kept.first, both.0)) ])
            first (inr added) =
                (omega (arith, added.first), omega (arith, added.first), λ b near from to. inl (told-none old b (last_number T n b) (x.each b from to) (λ q there. added.none q (subst (λ j. IsSlotOf j q old.places) near there))))
    go (Clwb a) op kept = same (λ b from to. number (Clwb a) op b) kept
    go (ClflushOpt a) op kept = same (λ b from to. number (ClflushOpt a) op b) kept
    go (Clflush a) op kept = same (λ b from to. number (Clflush a) op b) kept
    go Sfence op kept = same (λ b from to. number Sfence op b) kept
    go Mfence op kept = same (λ b from to. number Mfence op b) kept
    go (IsPersist A) op kept = same (λ b from to. number (IsPersist A) op b) kept
    go (IsOrderedBefore A B) op kept = same (λ b from to. number (IsOrderedBefore A B) op b) kept

-- after one more event
pub written-next : (T : Recording) (n m low high : ℕ) (e : Event) (old new : Blocks) → m ≡ suc n → slice_get T.events n ≡ Some e → n < length T.events → NotesOp e.op m low high old new → AreWritten T n low high old →
    AreWritten T m low high new
written-next T n m low high e old new next is within notes x =
    subst (λ k. AreWritten T k low high new) (sym next) (written-suc T n low high e old new is within (subst (λ k. NotesOp e.op k low high old new) next notes) x)
