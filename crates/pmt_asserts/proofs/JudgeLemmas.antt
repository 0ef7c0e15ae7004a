-- The verdicts, from what the tables tell line by line.
use Rattle.std.proofs.Common.{◌≡◌, ◌≢◌, ℕ, zero, suc, ◌≤◌, ◌⊎◌, ◌↔◌, inl, inr, Bool, true, false, List, ◌∷◌, Option, Some, None, IfSome, refl, sym, ap, subst, ◌∙◌, le_trans, arith}
use Rattle.std.specs.Prelude.{if◌then◌else◌, ◌==◌}
use Rattle.std.proofs.lemmas.Bool.{cases_eq}
use Rattle.std.proofs.lemmas.Bool.Decides.{eqb_tells}
use Rattle.std.proofs.lemmas.Option.{IfSome_then}
use Rattle.pmt_laws.specs.Prelude.{Span, line_of, Act, Stores, Flushes, Clflushes, Fences, Asserts, count, writes, Recording, IsTrace, IsAct, history, front, front_at, Placed, last_store, up_to_last, InSpan, PersistPasses, OrderedPasses, NoLater, option_map}
use Rattle.pmt_laws.proofs.Histories.{history-act, history-step, front-mono, front-le-count}
use Rattle.pmt_laws.proofs.AssertLemmas.{persist_by_fronts, ordered_by_fronts, last_rank}
use Rattle.pmt_asserts.specs.declared.oldest.Oldest.{Oldest}
use Rattle.pmt_asserts.specs.declared.oldest.Earliest.{Earliest}
use Rattle.pmt_asserts.specs.Tables.{PersistedBy, RankedBy, IsUnwritten, IsLastAt, EachIn, IsOldestIn, ComesNoEarlier, IsEarliest, IsEarliestOf, RanksBefore, IsLineInOrder, IsLineOrdered, place_for}
use Rattle.pmt_lines.proofs.TraceLemmas.{writes-line}

-- The last store to a byte is to the byte's line.
abbrev pub IsOwn : Recording → ℕ → List Act → Type 0
IsOwn T b h = IfSome (last_store b h) (λ x. x.line ≡ line_of T.format b)

own-next : (T : Recording) (b n : ℕ) (a : Act) → IsTrace T → IsAct T (suc n) a → IsOwn T b (history T n) → IsOwn T b (a ∷ history T n)
own-next T b n (Stores k w) trace is own = go (writes w b) refl
  where
    go : (t : Bool) → writes w b ≡ t → IfSome (if t then Some (record { line = k; rank = suc (count k (history T n)) }) else last_store b (history T n)) (λ x. x.line ≡ line_of T.format b)
    go true hit = sym (writes-line T (suc n) k w b trace is hit)
    go false free = own
own-next T b n (Flushes t k) trace is own = own
own-next T b n (Clflushes k) trace is own = own
own-next T b n (Fences t) trace is own = own
own-next T b n Asserts trace is own = own

-- so it is at each place of a trace
pub own-line : (T : Recording) (b n : ℕ) → IsTrace T → IsOwn T b (history T n)
own-line T b zero trace = tt
own-line T b (suc n) trace =
    let own = own-line T b n trace in
    elim (history-step T n) [
      | inl x ↦ subst (IsOwn T b) (sym (history-act T n x.0 x.1)) (own-next T b n x.0 trace x.1 own)
      | inr x ↦ subst (IsOwn T b) (sym x.1) own
    ]

-- two facts about the value that is there
both_some : {X : Type 0} (P Q : X → Type 0) (o : Option X) → IfSome o P → IfSome o Q → IfSome o (λ x. P x × Q x)
both_some P Q None p q = tt
both_some P Q (Some x) p q = (p, q)

-- isPersist passes exactly if each byte is persisted for sure
pub persist-by : (T : Recording) (i : ℕ) (A : Span) → ((b : ℕ) → InSpan A b → PersistedBy T i i b) ↔ PersistPasses (history T i) A
persist-by T i A = let law = persist_by_fronts (history T i) A in (law.1, law.0)

-- What isOrderedBefore asks of two bytes.
abbrev pub IsNoLater : Recording → ℕ → ℕ → ℕ → Type 0
IsNoLater T i a b = IfSome (last_store b (history T i)) (λ y. IfSome (last_store a (history T i)) (λ x. NoLater (up_to_last b (history T i)) x y))

-- isOrderedBefore passes exactly if it is so of each two bytes
pub ordered-by : (T : Recording) (i : ℕ) (A B : Span) → ((b : ℕ) → InSpan B b → (a : ℕ) → InSpan A a → IsNoLater T i a b) ↔ OrderedPasses (history T i) A B
ordered-by T i A B =
    let law = ordered_by_fronts (history T i) A B in
    (λ f. law.1 (λ b j. swap (λ a y. IfSome (last_store a (history T i)) (λ x. NoLater (up_to_last b (history T i)) x y)) (last_store b (history T i)) (λ a k. f b j a k)), λ p b j a k. IfSome_then (last_store b (history T i)) (law.0 p b j) (λ y q. q a k))
  where
    swap : (R : ℕ → Placed → Type 0) (o : Option Placed) → ((a : ℕ) → InSpan A a → IfSome o (R a)) → IfSome o (λ y. (a : ℕ) → InSpan A a → R a y)
    swap R None f = tt
    swap R (Some y) f = f

-- what is persisted by a place is so before each store from there on
persisted-later : (T : Recording) (i place a b : ℕ) → PersistedBy T i place a → ComesNoEarlier T i place b → IsNoLater T i a b
persisted-later T i place a b p c =
    IfSome_then (last_store b (history T i)) c (λ y there. IfSome_then (last_store a (history T i)) p (λ x q.
    inr (subst (λ h. x.rank ≤ front x.line h) (sym there.2) (le_trans q (front-mono T x.line place there.0 there.1)))))

-- what is ranked before
ranked-before : (T : Recording) (i a b : ℕ) → IsTrace T → line_of T.format a ≡ line_of T.format b → RanksBefore T i a b → IsNoLater T i a b
ranked-before T i a b trace same ranks =
    let own : ℕ → Placed → Type 0 = λ k x. x.line ≡ line_of T.format k in
    IfSome_then (last_store b (history T i)) (both_some (λ y. RankedBy T i y.rank a) (own b) (last_store b (history T i)) ranks (own-line T b i trace)) (λ y r.
    IfSome_then (last_store a (history T i)) (both_some (λ x. x.rank ≤ y.rank) (own a) (last_store a (history T i)) r.0 (own-line T a i trace)) (λ x s. inl (s.1 ∙ same ∙ sym r.1, s.0)))

-- an unwritten byte demands nothing
unwritten-before : (T : Recording) (i a b : ℕ) → IsUnwritten T i b → IsNoLater T i a b
unwritten-before T i a b none = subst (λ o. IfSome o (λ y. IfSome (last_store a (history T i)) (λ x. NoLater (up_to_last b (history T i)) x y))) (sym none) tt

-- on one line the order is that of the ranks
before-ranked : (T : Recording) (i a b : ℕ) → IsTrace T → line_of T.format a ≡ line_of T.format b → IsNoLater T i a b → RanksBefore T i a b
before-ranked T i a b trace same f =
    let h = history T i in
    let own : ℕ → Placed → Type 0 = λ k x. x.line ≡ line_of T.format k in
    let before : Placed → Type 0 = λ y. IfSome (last_store a h) (λ x. NoLater (up_to_last b h) x y) in
    IfSome_then (last_store b h) (both_some (λ y. before y × own b y) (λ y. count y.line (up_to_last b h) ≡ y.rank) (last_store b h) (both_some before (own b) (last_store b h) f (own-line T b i trace)) (last_rank b h)) (λ y r.
    IfSome_then (last_store a h) (both_some (λ x. NoLater (up_to_last b h) x y) (own a) (last_store a h) r.0.0 (own-line T a i trace)) (λ x s. go x y s.0 (s.1 ∙ same ∙ sym r.0.1) r.1))
  where
    go : (x y : Placed) → NoLater (up_to_last b (history T i)) x y → x.line ≡ y.line → count y.line (up_to_last b (history T i)) ≡ y.rank → x.rank ≤ y.rank
    go x y (inl p) line rank = p.1
    go x y (inr p) line rank = let e = ap (λ l. count l (up_to_last b (history T i))) line in omega (arith, p, e, rank, front-le-count x.line (up_to_last b (history T i)))

-- what comes before a store to another line is persisted by then
before-persisted : (T : Recording) (i l rank place a b : ℕ) → IsTrace T → line_of T.format a ≢ l → IsLastAt T i l rank place b → IsNoLater T i a b → PersistedBy T i place a
before-persisted T i l rank place a b trace other last f =
    let h = history T i in
    let at : IfSome (last_store a h) (λ x. NoLater (up_to_last b h) x (record { line = l; rank = rank })) = subst (λ o. IfSome o (λ y. IfSome (last_store a h) (λ x. NoLater (up_to_last b h) x y))) last.store f in
    IfSome_then (last_store a h)
    (both_some (λ x. NoLater (up_to_last b h) x (record { line = l; rank = rank })) (λ x. x.line ≡ line_of T.format a) (last_store a h) at (own-line T a i trace))
    (λ x s. go x s.0 s.1)
  where
    go : (x : Placed) → NoLater (up_to_last b (history T i)) x (record { line = l; rank = rank }) → x.line ≡ line_of T.format a → x.rank ≤ front_at T x.line place
    go x (inl p) own = absurd (other (sym own ∙ p.0))
    go x (inr p) own = subst (λ g. x.rank ≤ front x.line g) last.past p

-- where the lines are in order, isOrderedBefore passes
pub ordered-from : (T : Recording) (i : ℕ) (A B : Span) (e : Earliest) (o : Option Earliest) → IsTrace T → IsEarliest T i None B e → ((a : ℕ) → InSpan A a → line_of T.format a ≡ e.line → IsEarliestOf T i (Some e.line) B o) → ((b : ℕ) → InSpan A b → IsLineOrdered T i A B (line_of T.format b) (place_for e o (line_of T.format b))) → OrderedPasses (history T i) A B
ordered-from T i A B e o trace is apart lines = (ordered-by T i A B).0 (λ b j a k. go b j a k (cases_eq (line_of T.format a) (line_of T.format b)))
  where
    other : (c : Option Earliest) (b : ℕ) → IsEarliestOf T i (Some e.line) B c → InSpan B b → line_of T.format b ≢ e.line → (a : ℕ) → InSpan A a → line_of T.format a ≡ e.line → IfSome (option_map (λ d. d.number) c) (λ n. EachIn T (line_of T.format a) A (PersistedBy T i n)) → IsNoLater T i a b
    other None b none j taken a k own p = unwritten-before T i a b (none b j taken)
    other (Some d) b first j taken a k own p = persisted-later T i d.number a b (p a k refl) (first.first b j taken)

    go : (b : ℕ) → InSpan B b → (a : ℕ) → InSpan A a → (line_of T.format a ≡ line_of T.format b) ⊎ (line_of T.format a ≡ line_of T.format b → ⊥) → IsNoLater T i a b
    go b j a k (inl same) = ranked-before T i a b trace same ((lines a k).0 a k refl b j (sym same))
    go b j a k (inr apart') =
        elim (eqb_tells (line_of T.format a) e.line) [
          | inl own ↦ other o b (apart a k own.1) j (λ eq. apart' (own.1 ∙ sym eq)) a k own.1 (subst (λ t. IfSome (if t then option_map (λ d. d.number) o else Some e.number) (λ n. EachIn T (line_of T.format a) A (PersistedBy T i n))) own.0 (lines a k).1)
          | inr free ↦ persisted-later T i e.number a b ((subst (λ t. IfSome (if t then option_map (λ d. d.number) o else Some e.number) (λ n. EachIn T (line_of T.format a) A (PersistedBy T i n))) free.0 (lines a k).1) a k refl) (is.first b j tt)
        ]

-- where isOrderedBefore passes, the lines are in order
pub lines-from : (T : Recording) (i : ℕ) (A B : Span) (e : Earliest) (o : Option Earliest) → IsTrace T → IsEarliest T i None B e → OrderedPasses (history T i) A B → (line : ℕ) → (line ≡ e.line → IsEarliestOf T i (Some e.line) B o) → IsLineOrdered T i A B line (place_for e o line)
lines-from T i A B e o trace is passes line apart = (ranks, go (eqb_tells line e.line) o apart)
  where
    each : (b : ℕ) → InSpan B b → (a : ℕ) → InSpan A a → IsNoLater T i a b
    each = (ordered-by T i A B).1 passes

    ranks : EachIn T line A (λ a. EachIn T line B (RanksBefore T i a))
    ranks a k own b j same = before-ranked T i a b trace (own ∙ sym same) (each b j a k)

    go : ((line == e.line) ≡ true × (line ≡ e.line)) ⊎ ((line == e.line) ≡ false × (line ≢ e.line)) → (c : Option Earliest) → (line ≡ e.line → IsEarliestOf T i (Some e.line) B c) → IfSome (place_for e c line) (λ n. EachIn T line A (PersistedBy T i n))
    go (inl own) None none = subst (λ t. IfSome (if t then None else Some e.number) (λ n. EachIn T line A (PersistedBy T i n))) (sym own.0) tt
    go (inl own) (Some d) first =
        subst (λ t. IfSome (if t then Some d.number else Some e.number) (λ n. EachIn T line A (PersistedBy T i n))) (sym own.0)
        (λ a k same. let f : IsEarliest T i (Some e.line) B d = first own.1 in let r = f.reached in before-persisted T i d.line r.1 d.number a r.0 trace (λ eq. f.taken (sym eq ∙ same ∙ own.1)) r.4 (each r.0 r.2 a k))
    go (inr free) c known =
        subst (λ t. IfSome (if t then option_map (λ d. d.number) c else Some e.number) (λ n. EachIn T line A (PersistedBy T i n))) (sym free.0)
        (λ a k same. let r = is.reached in before-persisted T i e.line r.1 e.number a r.0 trace (λ eq. free.1 (sym same ∙ eq)) r.4 (each r.0 r.2 a k))

-- a line is in order exactly if the last stores of the first range are ranked by the first one of the second
pub ranked-line : (T : Recording) (i line : ℕ) (A B : Span) (o : Oldest) → IsOldestIn T i line B o → EachIn T line A (RankedBy T i o.rank) ↔ IsLineInOrder T i A B line
ranked-line T i line A B o is = (there, back)
  where
    there : EachIn T line A (RankedBy T i o.rank) → IsLineInOrder T i A B line
    there ranked a k own b j same = IfSome_then (last_store b (history T i)) (is.first b j same) (λ y r. IfSome_then (last_store a (history T i)) (ranked a k own) (λ x q. le_trans q r.0))

    back : IsLineInOrder T i A B line → EachIn T line A (RankedBy T i o.rank)
    back ordered a k own = let r = is.reached in subst (λ p. IfSome p (λ y. RankedBy T i y.rank a)) (r.3).store (ordered a k own r.0 r.1 r.2)

-- a line without stores to the second range is in order
pub unwritten-line : (T : Recording) (i line : ℕ) (A B : Span) → EachIn T line B (IsUnwritten T i) → IsLineInOrder T i A B line
unwritten-line T i line A B none a k own b j same = subst (λ p. IfSome p (λ y. RankedBy T i y.rank a)) (sym (none b j same)) tt

-- the place by which a line has to be persisted has come
pub place-within :
    (T : Recording) (i line : ℕ) (B : Span) (e : Earliest) (o : Option Earliest) → IsEarliest T i None B e → (line ≡ e.line → IsEarliestOf T i (Some e.line) B o) →
    IfSome (place_for e o line) (λ n. n ≤ i)
place-within T i line B e o is apart = go (eqb_tells line e.line) o apart
  where
    go : ((line == e.line) ≡ true × (line ≡ e.line)) ⊎ ((line == e.line) ≡ false × (line ≢ e.line)) → (c : Option Earliest) → (line ≡ e.line → IsEarliestOf T i (Some e.line) B c) → IfSome (place_for e c line) (λ n. n ≤ i)
    go (inl own) None none = subst (λ t. IfSome (if t then None else Some e.number) (λ n. n ≤ i)) (sym own.0) tt
    go (inl own) (Some d) first =
        subst (λ t. IfSome (if t then Some d.number else Some e.number) (λ n. n ≤ i)) (sym own.0)
        (let f : IsEarliest T i (Some e.line) B d = first own.1 in let r = f.reached in (r.4).by_now)
    go (inr free) c first =
        subst (λ t. IfSome (if t then option_map (λ d. d.number) c else Some e.number) (λ n. n ≤ i)) (sym free.0)
        (let r = is.reached in (r.4).by_now)
