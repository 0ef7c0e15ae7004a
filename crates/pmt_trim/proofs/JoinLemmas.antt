-- All that is kept of a trace: what is kept for its lines, and the stores and assertions.
use Rattle.std.proofs.Common.{◌≡◌, ℕ, zero, suc, ◌+◌, ◌<◌, ◌≤◌, ◌⊎◌, inl, inr, Bool, true, false, List, [], ◌∷◌, ◌++◌, length, get_or, take, map, Some, refl, sym, ap, subst, ◌∙◌, arith}
use Rattle.std.specs.Prelude.{◌↔◌, slice_get, Result, Ok, Err, IfOk}
use Rattle.std.proofs.Math.Seq.{take-suc}
use Rattle.std.proofs.lemmas.Bool.{false≢true, cases_lt}
use Rattle.pmt_laws.specs.Prelude.{Event, Op, Store, Clwb, ClflushOpt, Clflush, Sfence, Mfence, IsPersist, IsOrderedBefore, Layout, Act, Flushes, Clflushes, Fences, Recording, act_of, act, IsAct, history, lines_of, IsRising, Has, always_stays}
use Rattle.pmt_model.specs.Keeping.{IsKept, Stays, ByFence, ByFlush, ByClflush, IsKeep}
use Rattle.pmt_laws.proofs.Histories.{event-some, act-within}
use Rattle.pmt_trim.specs.Kept as kept
use Rattle.pmt_trim.specs.Kept.{IsKeptFor, IsLineKept, AreLinesKept, AreAllKept}
use Rattle.pmt_tables.specs.Flags.{is_kept_at, MarksThese}
use Rattle.pmt_trim.specs.Marking.{op_stays}
use Rattle.pmt_trim.proofs.LineLemmas.{kept-line}

-- One of the lists has the number.
abbrev pub HasIn : List (List ℕ) → ℕ → Type 0
HasIn [] n = ⊥
HasIn (ks ∷ lists) n = Has ks n ⊎ HasIn lists n

-- with one list more at the end
has_in-push : (lists : List (List ℕ)) (ks : List ℕ) (n : ℕ) → HasIn (lists ++ ks ∷ []) n ↔ (HasIn lists n ⊎ Has ks n)
has_in-push [] ks n = (λ x. elim x [ inl h ↦ inr h | inr h ↦ absurd h ], λ x. elim x [ inl h ↦ absurd h | inr h ↦ inl h ])
has_in-push (js ∷ lists) ks n = (there (has_in-push lists ks n).0, back (has_in-push lists ks n).1)
  where
    there : (HasIn (lists ++ ks ∷ []) n → HasIn lists n ⊎ Has ks n) → Has js n ⊎ HasIn (lists ++ ks ∷ []) n → (Has js n ⊎ HasIn lists n) ⊎ Has ks n
    there f (inl h) = inl (inl h)
    there f (inr h) = elim (f h) [ inl x ↦ inl (inr x) | inr x ↦ inr x ]

    back : (HasIn lists n ⊎ Has ks n → HasIn (lists ++ ks ∷ []) n) → (Has js n ⊎ HasIn lists n) ⊎ Has ks n → Has js n ⊎ HasIn (lists ++ ks ∷ []) n
    back f (inl (inl h)) = inl h
    back f (inl (inr h)) = inr (f (inl h))
    back f (inr h) = inr (f (inr h))

-- The numbers of the lists are marked besides.
abbrev pub MarksLists : List Bool → List (List ℕ) → List Bool → Type 0
MarksLists old lists new = (n : ℕ) → (is_kept_at new n ≡ true) ↔ ((is_kept_at old n ≡ true) ⊎ HasIn lists n)

-- no list
pub marks-no_lists : (marked : List Bool) → MarksLists marked [] marked
marks-no_lists marked n = (λ e. inl e, λ x. elim x [ inl e ↦ e | inr h ↦ absurd h ])

-- and one list more
pub marks-list : (start old new : List Bool) (lists : List (List ℕ)) (i : ℕ) (ks : List ℕ) → i < length lists → get_or lists i [] ≡ ks → MarksLists start (take i lists) old → MarksThese old ks new →
    MarksLists start (take (i + 1) lists) new
marks-list start old new lists i ks h is marks more =
    let e : i + 1 ≡ suc i = omega arith in
    let taken : take (i + 1) lists ≡ take i lists ++ ks ∷ [] = ap (λ k. take k lists) e ∙ take-suc lists i [] h ∙ ap (λ x. take i lists ++ x ∷ []) is in
    rw taken (λ n. (there n (marks n).0 (more n).0 (has_in-push (take i lists) ks n).1, back n (marks n).1 (more n).1 (has_in-push (take i lists) ks n).0))
  where
    there : (n : ℕ) → (is_kept_at old n ≡ true → (is_kept_at start n ≡ true) ⊎ HasIn (take i lists) n) → (is_kept_at new n ≡ true → (is_kept_at old n ≡ true) ⊎ Has ks n) →
        (HasIn (take i lists) n ⊎ Has ks n → HasIn (take i lists ++ ks ∷ []) n) → is_kept_at new n ≡ true → (is_kept_at start n ≡ true) ⊎ HasIn (take i lists ++ ks ∷ []) n
    there n f g p m = elim (g m) [ inl o ↦ (elim (f o) [ inl s ↦ inl s | inr x ↦ inr (p (inl x)) ]) | inr x ↦ inr (p (inr x)) ]

    back : (n : ℕ) → ((is_kept_at start n ≡ true) ⊎ HasIn (take i lists) n → is_kept_at old n ≡ true) → ((is_kept_at old n ≡ true) ⊎ Has ks n → is_kept_at new n ≡ true) →
        (HasIn (take i lists ++ ks ∷ []) n → HasIn (take i lists) n ⊎ Has ks n) → (is_kept_at start n ≡ true) ⊎ HasIn (take i lists ++ ks ∷ []) n → is_kept_at new n ≡ true
    back n f g p (inl s) = g (inl (f (inl s)))
    back n f g p (inr x) = elim (p x) [ inl y ↦ g (inl (f (inr y))) | inr y ↦ g (inr y) ]

-- the list at a place is that of a line
pub kept-at : (T : Recording) (lines : List ℕ) (lists : List (List ℕ)) (i : ℕ) → AreLinesKept T lines lists → i < length lists → (l : ℕ) × IsLineKept T l (get_or lists i [])
kept-at T [] [] i all h = absurd (omega arith)
kept-at T [] (ks ∷ lists) i all h = absurd all
kept-at T (l ∷ lines) [] i all h = absurd all
kept-at T (l ∷ lines) (ks ∷ lists) zero all h = (l, all.0)
kept-at T (l ∷ lines) (ks ∷ lists) (suc i) all h = kept-at T lines lists i all.1 (omega arith)

-- a number of a list is kept for a line
has_in-kept : (T : Recording) (lines : List ℕ) (lists : List (List ℕ)) (n : ℕ) → AreLinesKept T lines lists → HasIn lists n → (l : ℕ) × IsKeptFor T l n
has_in-kept T [] [] n all h = absurd h
has_in-kept T [] (ks ∷ lists) n all h = absurd all
has_in-kept T (l ∷ lines) [] n all h = absurd all
has_in-kept T (l ∷ lines) (ks ∷ lists) n all (inl h) = (l, (all.0.just n).0 h)
has_in-kept T (l ∷ lines) (ks ∷ lists) n all (inr h) = has_in-kept T lines lists n all.1 h

-- what is kept for a line is in its list
kept-has_in : (T : Recording) (lines : List ℕ) (lists : List (List ℕ)) (l n : ℕ) → AreLinesKept T lines lists → Has lines l → IsKeptFor T l n → HasIn lists n
kept-has_in T [] lists l n all h k = absurd h
kept-has_in T (j ∷ lines) [] l n all h k = absurd all
kept-has_in T (j ∷ lines) (ks ∷ lists) l n all (inl e) k = inl ((all.0.just n).1 (subst (λ i. IsKeptFor T i n) (sym e) k))
kept-has_in T (j ∷ lines) (ks ∷ lists) l n all (inr h) k = inr (kept-has_in T lines lists l n all.1 h k)

-- what is kept for a line is an event
pub kept-for_within : (T : Recording) (l n : ℕ) → IsKeptFor T l n → (1 ≤ n) × (n ≤ length T.events)
kept-for_within T l n (kept.ByFlush u e) = act-within T n (Flushes u.thread u.line) u.is_flush
kept-for_within T l n (kept.ByClflush u e) = act-within T n (Clflushes u.line) u.is_clflush
kept-for_within T l n (kept.ByFence t is raises) = act-within T n (Fences t) is

-- the acts that always stay are those of the ops that do
stays-by_op : (f : Layout) (t : ℕ) (op : Op) → always_stays (act_of f t op) ≡ op_stays op
stays-by_op f t (Store w) = refl
stays-by_op f t (Clwb a) = refl
stays-by_op f t (ClflushOpt a) = refl
stays-by_op f t (Clflush a) = refl
stays-by_op f t Sfence = refl
stays-by_op f t Mfence = refl
stays-by_op f t (IsPersist r) = refl
stays-by_op f t (IsOrderedBefore r q) = refl

-- the marks of stores and assertions
abbrev pub stay_marks : Recording → List Bool
stay_marks T = map (λ (e : Event). op_stays e.op) T.events

marked-stays : (T : Recording) (n : ℕ) → is_kept_at (stay_marks T) n ≡ true → IsKept T n
marked-stays T zero e = absurd (false≢true e)
marked-stays T (suc i) e = go (cases_lt i (length T.events))
  where
    past : (xs : List Event) (i : ℕ) → length xs ≤ i → get_or (map (λ (e : Event). op_stays e.op) xs) i false ≡ false
    past [] i h = refl
    past (x ∷ xs) zero h = absurd (omega arith)
    past (x ∷ xs) (suc i) h = past xs i (omega arith)

    go : (i < length T.events) ⊎ (length T.events ≤ i) → IsKept T (suc i)
    go (inl h) =
        let x = event-some T i h in
        let is : get_or (stay_marks T) i false ≡ op_stays x.0.op = at T.events i x.0 x.1 in
        Stays (act T.format x.0) (x.0, x.1, refl) (stays-by_op T.format x.0.thread x.0.op ∙ sym is ∙ e)
      where
        at : (xs : List Event) (i : ℕ) (x : Event) → slice_get xs i ≡ Some x → get_or (map (λ (e : Event). op_stays e.op) xs) i false ≡ op_stays x.op
        at [] i x e = cc
        at (y ∷ xs) zero x e = let f : y ≡ x = cc in ap (λ (z : Event). op_stays z.op) f
        at (y ∷ xs) (suc i) x e = at xs i x e
    go (inr h) = absurd (false≢true (sym (past T.events i h) ∙ e))

stays-marked : (T : Recording) (n : ℕ) (a : Act) → IsAct T n a → always_stays a ≡ true → is_kept_at (stay_marks T) n ≡ true
stays-marked T zero a is stays = let x = act-within T 0 a is in absurd (omega arith)
stays-marked T (suc i) a is stays = at T.events i is.0 is.1 ∙ sym (stays-by_op T.format is.0.thread is.0.op) ∙ ap always_stays is.2 ∙ stays
  where
    at : (xs : List Event) (i : ℕ) (x : Event) → slice_get xs i ≡ Some x → get_or (map (λ (e : Event). op_stays e.op) xs) i false ≡ op_stays x.op
    at [] i x e = cc
    at (y ∷ xs) zero x e = let f : y ≡ x = cc in ap (λ (z : Event). op_stays z.op) f
    at (y ∷ xs) (suc i) x e = at xs i x e

-- what is marked in the end is what is kept
marked-kept : (T : Recording) (lists : List (List ℕ)) (n : ℕ) → AreAllKept T lists → (is_kept_at (stay_marks T) n ≡ true) ⊎ HasIn lists n → IsKept T n
marked-kept T lists n all (inl m) = marked-stays T n m
marked-kept T lists n all (inr h) = by (has_in-kept T (lines_of (history T (length T.events))) lists n all h)
  where
    by : (l : ℕ) × IsKeptFor T l n → IsKept T n
    by (l, kept.ByFlush u e) = ByFlush u
    by (l, kept.ByClflush u e) = ByClflush u
    by (l, kept.ByFence t is raises) = ByFence (record { thread = t; line = l; is_fence = is; raises = raises })

kept-marked : (T : Recording) (lists : List (List ℕ)) (n : ℕ) → AreAllKept T lists → IsKept T n → (is_kept_at (stay_marks T) n ≡ true) ⊎ HasIn lists n
kept-marked T lists n all (Stays a is stays) = inl (stays-marked T n a is stays)
kept-marked T lists n all (ByFence u) = inr (listed u.line (kept.ByFence u.thread u.is_fence u.raises))
  where
    listed : (l : ℕ) → IsKeptFor T l n → HasIn lists n
    listed l k = kept-has_in T (lines_of (history T (length T.events))) lists l n all (kept-line T l n k) k
kept-marked T lists n all (ByFlush u) = inr (listed u.line (kept.ByFlush u refl))
  where
    listed : (l : ℕ) → IsKeptFor T l n → HasIn lists n
    listed l k = kept-has_in T (lines_of (history T (length T.events))) lists l n all (kept-line T l n k) k
kept-marked T lists n all (ByClflush u) = inr (listed u.line (kept.ByClflush u refl))
  where
    listed : (l : ℕ) → IsKeptFor T l n → HasIn lists n
    listed l k = kept-has_in T (lines_of (history T (length T.events))) lists l n all (kept-line T l n k) k

-- the rising numbers that are marked are all that is kept
pub joined-keep : (T : Recording) (lists : List (List ℕ)) (marked : List Bool) (K : List ℕ) → AreAllKept T lists → MarksLists (stay_marks T) lists marked → IsRising 0 K →
    ((n : ℕ) → Has K n ↔ (is_kept_at marked n ≡ true)) → IsKeep T K
joined-keep T lists marked K all marks rising has =
    record {
      rising = rising;
      just = λ n. (λ h. marked-kept T lists n all ((marks n).0 ((has n).0 h)), λ k. (has n).1 ((marks n).1 (kept-marked T lists n all k)));
    }

-- and so is the answer, where there is one
pub joined-answer : {E : Type 0} (T : Recording) (lists : List (List ℕ)) (marked : List Bool) (answer : Result (List ℕ) E) → AreAllKept T lists → MarksLists (stay_marks T) lists marked →
    IfOk answer (IsRising 0) → IfOk answer (λ K. (n : ℕ) → Has K n ↔ (is_kept_at marked n ≡ true)) → IfOk answer (λ K. IsKeep T K)
joined-answer T lists marked (Ok K) all marks rising has = joined-keep T lists marked K all marks rising has
joined-answer T lists marked (Err e) all marks rising has = tt
