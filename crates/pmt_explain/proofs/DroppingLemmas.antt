-- The list of the dropped events, event by event.
use Rattle.std.proofs.Common.{◌≡◌, ◌↔◌, ℕ, suc, ◌+◌, ◌<◌, ◌≤◌, ◌⊎◌, inl, inr, List, [], ◌∷◌, ◌++◌, length, map, Option, None, Some, refl, sym, subst, arith}
use Rattle.std.proofs.lemmas.Bool.{cases_lt}
use Rattle.pmt_explain.specs.Prelude.{Act, Flushes, Clflushes, Fences, Recording, IsAct, IsRising, Has, IsKeep, IsKept, Reason, IsReason, OfFlush, OfClflush, OfFence}
use Rattle.pmt_laws.proofs.KeepLemmas.{keep_is_selection}
use Rattle.pmt_laws.proofs.Histories.{act-within}
use Rattle.pmt_reasons.proofs.ReasonLemmas.{reason_is_unique}
use Rattle.pmt_reasons.proofs.ReasonLaws.{reason_exists}
use Rattle.pmt_explain.specs.declared.dropped_event.Dropped.{Dropped}
use Rattle.pmt_explain.specs.Dropping.{event_of, Lists, with_listed, AreDropped, TellsReason}

-- Those of the first n events.
pub record AreDroppedTo (T : Recording) (n : ℕ) (list : List Dropped) : Type 0 where
  pub rising : IsRising 0 (map event_of list)
  pub just : (i : ℕ) (r : Reason) → Lists list i r ↔ ((i ≤ n) × IsReason T i r)

-- what has a reason is an event
reason-within : (T : Recording) (i : ℕ) (r : Reason) → IsReason T i r → (1 ≤ i) × (i ≤ length T.events)
reason-within T i r (OfFlush t l is why) = act-within T i (Flushes t l) is
reason-within T i r (OfClflush l is why) = act-within T i (Clflushes l) is
reason-within T i r (OfFence t is why) = act-within T i (Fences t) is

-- one more is listed
lists-push : (list : List Dropped) (d : Dropped) (i : ℕ) (r : Reason) → Lists (list ++ d ∷ []) i r → Lists list i r ⊎ ((d.event ≡ i) × (d.reason ≡ r))
lists-push [] d i r (inl here) = inr here
lists-push [] d i r (inr none) = absurd none
lists-push (e ∷ list) d i r (inl here) = inl (inl here)
lists-push (e ∷ list) d i r (inr x) = elim (lists-push list d i r x) [ inl old ↦ inl (inr old) | inr last ↦ inr last ]

lists-old : (list : List Dropped) (d : Dropped) (i : ℕ) (r : Reason) → Lists list i r → Lists (list ++ d ∷ []) i r
lists-old [] d i r x = absurd x
lists-old (e ∷ list) d i r (inl here) = inl here
lists-old (e ∷ list) d i r (inr x) = inr (lists-old list d i r x)

lists-last : (list : List Dropped) (d : Dropped) → Lists (list ++ d ∷ []) d.event d.reason
lists-last [] d = inl (refl, refl)
lists-last (e ∷ list) d = inr (lists-last list d)

rising-push : (low : ℕ) (list : List Dropped) (d : Dropped) → IsRising low (map event_of list) → low < d.event → ((i : ℕ) (r : Reason) → Lists list i r → i < d.event) → IsRising low (map event_of (list ++ d ∷ []))
rising-push low [] d rising above below = (above, tt)
rising-push low (e ∷ list) d rising above below = (rising.0, rising-push e.event list d rising.1 (below e.event e.reason (inl (refl, refl))) (λ i r x. below i r (inr x)))

-- before any event
pub dropped-start : (T : Recording) (list : List Dropped) → list ≡ [] → AreDroppedTo T 0 list
dropped-start T list none = subst (AreDroppedTo T 0) (sym none) (record { rising = tt; just = λ i r. (λ x. absurd x, λ x. absurd (omega (arith, x.0, (reason-within T i r x.1).0))) })

-- one more event
dropped-more : (T : Recording) (n : ℕ) (list : List Dropped) (r : Reason) → IsReason T (suc n) r → AreDroppedTo T n list → AreDroppedTo T (suc n) (list ++ record { event = suc n; reason = r } ∷ [])
dropped-more T n list r why old = record {
  rising = rising-push 0 list (record { event = suc n; reason = r }) old.rising (omega arith) (λ i q x. let h = ((old.just i q).0 x).0 in omega (arith, h));
  just = λ i q. (there i q, back i q);
}
  where
    there : (i : ℕ) (q : Reason) → Lists (list ++ record { event = suc n; reason = r } ∷ []) i q → (i ≤ suc n) × IsReason T i q
    there i q x = elim (lists-push list (record { event = suc n; reason = r }) i q x) [
      | inl before ↦ let h = (old.just i q).0 before in (omega (arith, h.0), h.1)
      | inr (e, f) ↦ (omega (arith, e), subst (λ k. IsReason T k q) e (subst (IsReason T (suc n)) f why))
    ]

    back : (i : ℕ) (q : Reason) → (i ≤ suc n) × IsReason T i q → Lists (list ++ record { event = suc n; reason = r } ∷ []) i q
    back i q x = elim (cases_lt i (suc n)) [
      | inl early ↦ lists-old list (record { event = suc n; reason = r }) i q ((old.just i q).1 (omega arith, x.1))
      | inr late ↦
          let e : suc n ≡ i = omega (arith, x.0) in
          let f : r ≡ q = reason_is_unique T (suc n) r q why (subst (λ k. IsReason T k q) (sym e) x.1) in
          subst (λ k. Lists (list ++ record { event = suc n; reason = r } ∷ []) k q) e
          (subst (Lists (list ++ record { event = suc n; reason = r } ∷ []) (suc n)) f (lists-last list (record { event = suc n; reason = r })))
    ]

dropped-none : (T : Recording) (n : ℕ) (list : List Dropped) (a : Act) → IsAct T (suc n) a → IsKept T (suc n) → AreDroppedTo T n list → AreDroppedTo T (suc n) list
dropped-none T n list a is kept old = record {
  rising = old.rising;
  just = λ i q. (
    λ x. let h = (old.just i q).0 x in (omega (arith, h.0), h.1),
    λ x. elim (cases_lt i (suc n)) [
      | inl early ↦ (old.just i q).1 (omega arith, x.1)
      | inr late ↦ let e : i ≡ suc n = omega (arith, x.0) in absurd ((reason_exists T (suc n) a is).1 (q, subst (λ k. IsReason T k q) e x.1) kept)
    ],
  );
}

pub dropped-next : (T : Recording) (n m number : ℕ) (a : Act) (o : Option Reason) (list : List Dropped) → m ≡ suc n → number ≡ suc n → IsAct T (suc n) a → TellsReason T (suc n) o → AreDroppedTo T n list →
    AreDroppedTo T m (with_listed number o list)
dropped-next T n m number a o list place same is told old =
    subst (λ k. AreDroppedTo T k (with_listed number o list)) (sym place) (subst (λ k. AreDroppedTo T (suc n) (with_listed k o list)) (sym same) (go o told))
  where
    go : (o : Option Reason) → TellsReason T (suc n) o → AreDroppedTo T (suc n) (with_listed (suc n) o list)
    go None kept = dropped-none T n list a is kept old
    go (Some r) why = dropped-more T n list r why old

-- all events
pub dropped-all : (T : Recording) (n : ℕ) (list : List Dropped) → length T.events ≤ n → AreDroppedTo T n list → AreDropped T list
dropped-all T n list past x = record {
  rising = x.rising;
  just = λ i r. (λ h. ((x.just i r).0 h).1, λ why. (x.just i r).1 (omega (arith, past, (reason-within T i r why).1), why));
}

-- ---- Where all events are kept

room : (x b : ℕ) (xs : List ℕ) → x ≤ b → IsRising x xs → ((k : ℕ) → Has xs k → k ≤ b) → x + length xs ≤ b
room x b [] upto rising within = omega (arith, upto)
room x b (y ∷ ys) upto rising within = omega (arith, rising.0, room y b ys (within y (inl refl)) rising.1 (λ k has. within k (inr has)))

all-has : (low : ℕ) (xs : List ℕ) → IsRising low xs → ((k : ℕ) → Has xs k → k ≤ low + length xs) → (k : ℕ) → low < k → k ≤ low + length xs → Has xs k
all-has low [] rising within k above upto = absurd (omega (arith, above, upto))
all-has low (x ∷ xs) rising within k above upto = go (cases_lt x k) (λ later. all-has x xs rising.1 (λ j has. omega (arith, first, within j (inr has))) k later (omega (arith, first, upto)))
  where
    first : x ≡ suc low
    first = omega (arith, rising.0, room x (low + suc (length xs)) xs (within x (inl refl)) rising.1 (λ j has. within j (inr has)))

    go : (x < k) ⊎ (k ≤ x) → (x < k → Has xs k) → Has (x ∷ xs) k
    go (inl later) rest = inr (rest later)
    go (inr here) rest = inl (omega (arith, first, here, above))

-- what has a reason is not kept
reason-not_kept : (T : Recording) (i : ℕ) (r : Reason) → IsReason T i r → IsKept T i → ⊥
reason-not_kept T i r (OfFlush t l is why) = (reason_exists T i (Flushes t l) is).1 (r, OfFlush t l is why)
reason-not_kept T i r (OfClflush l is why) = (reason_exists T i (Clflushes l) is).1 (r, OfClflush l is why)
reason-not_kept T i r (OfFence t is why) = (reason_exists T i (Fences t) is).1 (r, OfFence t is why)

-- no event is dropped
pub dropped-nothing : (T : Recording) (kept : List ℕ) (list : List Dropped) → IsKeep T kept → length kept ≡ length T.events → list ≡ [] → AreDropped T list
dropped-nothing T kept list keep all none = subst (AreDropped T) (sym none) (record { rising = tt; just = λ i r. (λ x. absurd x, λ why. never i r why (reason-within T i r why)) })
  where
    inside : (k : ℕ) → Has kept k → k ≤ 0 + length kept
    inside k has = omega (arith, all, (keep_is_selection T kept keep).within k has)

    never : (i : ℕ) (r : Reason) → IsReason T i r → (1 ≤ i) × (i ≤ length T.events) → ⊥
    never i r why within = reason-not_kept T i r why ((keep.just i).0 (all-has 0 kept keep.rising inside i (omega (arith, within.0)) (omega (arith, within.1, all))))
