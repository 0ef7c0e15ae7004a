-- No kept flush or fence can go: without it, the front of some line is smaller at some place, so a crash there may leave less.
use Rattle.std.proofs.Common.{◌≡◌, ◌≢◌, ℕ, zero, suc, ◌-◌, ◌<◌, ◌≤◌, ◌⊎◌, inl, inr, ◌==◌, ◌&&◌, Bool, true, false, max, List, [], ◌∷◌, length, refl, sym, ap, subst, ◌∙◌, arith, eqb-true}
use Rattle.std.proofs.lemmas.Bool.{true≢false, cases_order, eqb-false, and_parts}
use Rattle.std.specs.Prelude.{if◌then◌else◌}
use Rattle.pmt_laws.specs.Prelude.{Act, Flushes, Clflushes, Fences, count, Recording, IsAct, history, count_at, front, mark, front_at, IsRising, Has, always_stays, IsSelection, cut, matching_place, IsFaithful}
use Rattle.pmt_model.specs.Keeping.{IsUsefulFlush, IsKept, Stays, ByFence, ByFlush, ByClflush, IsKeep, without}
use Rattle.pmt_laws.specs.ModelLaws.{NoneCanGo}
use Rattle.pmt_laws.proofs.Histories.{act-unique, act-within, history-act, front-le-count, front-mono}
use Rattle.pmt_laws.proofs.BoxLemmas.{vectors_are_a_box}
use Rattle.pmt_laws.proofs.CutLemmas.{IsNext, Keeps, Drops, Ended, next-step, history-zero, history-dropped, count-cut}
use Rattle.pmt_laws.proofs.KeepLemmas.{keep_is_selection, front-at_fence, cut-front-le}

-- what stands in a list after a choice to leave its head out stands in it with the head
left-of : (v : Bool) (j i : ℕ) (js ks : List ℕ) → (Has js i → Has ks i) → Has (if v then js else j ∷ js) i → Has (j ∷ ks) i
left-of true j i js ks go later = inr (go later)
left-of false j i js ks go (inl e) = inl e
left-of false j i js ks go (inr later) = inr (go later)

-- what is left has stood in the list
has-from_without : (K : List ℕ) (k i : ℕ) → Has (without K k) i → Has K i
has-from_without [] k i h = h
has-from_without (j ∷ js) k i h = left-of (j == k) j i (without js k) js (has-from_without js k i) h

-- a number that is left out of the tail is left out of the whole, by the choice at the head
gone-from : (v : Bool) (j k : ℕ) (js : List ℕ) → (j == k) ≡ v → (Has js k → ⊥) → Has (if v then js else j ∷ js) k → ⊥
gone-from true j k js is gone later = gone later
gone-from false j k js is gone (inl e) = eqb-false j k is e
gone-from false j k js is gone (inr later) = gone later

-- what goes is not left
not-without : (K : List ℕ) (k : ℕ) → Has (without K k) k → ⊥
not-without [] k h = h
not-without (j ∷ js) k h = gone-from (j == k) j k (without js k) refl (not-without js k) h

-- a number other than the one that goes stays, by the choice at the head
stays-in : (v : Bool) (j k i : ℕ) (js ks : List ℕ) → (j == k) ≡ v → i ≢ k → (Has ks i → Has js i) → Has (j ∷ ks) i → Has (if v then js else j ∷ js) i
stays-in true j k i js ks is apart go (inl e) = absurd (apart (sym e ∙ eqb-true j k is))
stays-in true j k i js ks is apart go (inr later) = go later
stays-in false j k i js ks is apart go (inl e) = inl e
stays-in false j k i js ks is apart go (inr later) = inr (go later)

-- any other number is left
has-without : (K : List ℕ) (k i : ℕ) → i ≢ k → Has K i → Has (without K k) i
has-without [] k i apart h = h
has-without (j ∷ js) k i apart h = stays-in (j == k) j k i (without js k) js refl apart (has-without js k i apart) h

-- a rising list rises from lower too
rising-lower : (low above : ℕ) (K : List ℕ) → low < above → IsRising above K → IsRising low K
rising-lower low above [] less rises = tt
rising-lower low above (k ∷ ks) less rises = (let first : above < k = rises.0 in omega arith, rises.1)

-- a rising list still rises with its head left out
rising-if : (v : Bool) (low j : ℕ) (js : List ℕ) → low < j → IsRising j js → IsRising low (if v then js else j ∷ js)
rising-if true low j js less rises = rising-lower low j js less rises
rising-if false low j js less rises = (less, rises)

-- what is left still rises
rising-without : (low : ℕ) (K : List ℕ) (k : ℕ) → IsRising low K → IsRising low (without K k)
rising-without low [] k rises = tt
rising-without low (j ∷ js) k rises = rising-if (j == k) low j (without js k) rises.0 (rising-without j js k rises.1)

-- without an event that is no store and no assertion, a selection is still one
selection-without : (T : Recording) (K : List ℕ) (k : ℕ) (a : Act) → IsSelection T K → IsAct T k a → always_stays a ≡ false → IsSelection T (without K k)
selection-without T K k a s is free = record {
  rising = rising-without 0 K k s.rising;
  within = λ i h. s.within i (has-from_without K k i h);
  whole = λ i b is_b stays. has-without K k i
      (λ e. let P : ℕ → Type 0 = λ n. IsAct T n b in
      let same = act-unique T k a b is (subst P e is_b) in
      true≢false (sym stays ∙ ap always_stays (sym same) ∙ free))
      (s.whole i b is_b stays);
}

-- where the cut has a smaller front, it is not faithful
unfaithful : (T : Recording) (S : List ℕ) (l n : ℕ) → front_at (cut T S) l (matching_place S n) < front_at T l n → IsFaithful T S n → ⊥
unfaithful T S l n less faithful =
    let short = history (cut T S) (matching_place S n) in
    let fronts : ℕ → ℕ = λ k. front k short in
    let left = (vectors_are_a_box short fronts).1 (λ k. (omega arith, front-le-count k short)) in
    let box = (vectors_are_a_box (history T n) fronts).0 ((faithful.vectors fronts).1 left) l in
    let reached : front_at T l n ≤ front l short = box.0 in
    absurd (omega arith)

-- without an event that raises the front of the line, the cut's front is smaller right after it
front-without : (T : Recording) (S : List ℕ) (l k : ℕ) → IsSelection T S → (Has S k → ⊥) → 1 ≤ k → front_at T l k ≢ front_at T l (k - 1) → front_at (cut T S) l (matching_place S k) < front_at T l k
front-without T S l zero s gone some raises = absurd (omega arith)
front-without T S l (suc n) s gone some raises =
    let e : suc n - 1 ≡ n = omega arith in
    let P : ℕ → Type 0 = λ m. front_at T l (suc n) ≢ front_at T l m in
    let rises : front_at T l (suc n) ≢ front_at T l n = subst P e raises in
    let same : front_at (cut T S) l (matching_place S (suc n)) ≡ front_at (cut T S) l (matching_place S n) = ap (front l) (history-dropped T S n gone) in
    omega (arith, same, cut-front-le T S l n s, front-mono T l n (suc n) (omega arith), rises)

-- the front counts each flush whose thread has fenced since
front-from_pair : (T : Recording) (t l f g n : ℕ) → IsAct T f (Flushes t l) → IsAct T g (Fences t) → f < g → g ≤ n → count_at T l f ≤ front_at T l n
front-from_pair T t l f g n is_f is_g later by_now = omega (arith, front-at_fence T t l f g is_f is_g later, front-mono T l g n by_now)

-- A flush of line l by thread t that is kept, by place n, of c stores.
record IsKeptFlush (T : Recording) (S : List ℕ) (t l n c : ℕ) : Type 0 where
  flush : ℕ
  kept : Has S flush
  is_flush : IsAct T flush (Flushes t l)
  by_now : flush ≤ n
  stores : count_at T l flush ≡ c

-- The mark is 0, or that of a kept flush.
abbrev KeptMark : Recording → List ℕ → ℕ → ℕ → ℕ → ℕ → Type 0
KeptMark T S t l n c = (c ≡ 0) ⊎ IsKeptFlush T S t l n c

-- a kept flush is kept by the next place
later-mark : (T : Recording) (S : List ℕ) (t l n c : ℕ) → KeptMark T S t l n c → KeptMark T S t l (suc n) c
later-mark T S t l n c (inl e) = inl e
later-mark T S t l n c (inr x) = inr (record { flush = x.flush; kept = x.kept; is_flush = x.is_flush; by_now = omega (arith, x.by_now); stores = x.stores })

-- the mark of the cut after a flush that is kept
flush-mark : (T : Recording) (S : List ℕ) (t l n u k : ℕ) (v : Bool) (h : List Act) → ((u == t) && (k == l)) ≡ v → IsAct T (suc n) (Flushes u k) → Has S (suc n) → count l h ≡ count_at T l n → KeptMark T S t l n (mark t l h) → KeptMark T S t l (suc n) (if v then count l h else mark t l h)
flush-mark T S t l n u k true h same is has counts before =
    let parts = and_parts (u == t) (k == l) same in
    let same_thread : u ≡ t = eqb-true u t parts.0 in
    let same_line : k ≡ l = eqb-true k l parts.1 in
    let e : Flushes u k ≡ Flushes t l = cc in
    let P : Act → Type 0 = λ a. IsAct T (suc n) a in
    inr (record {
      flush = suc n;
      kept = has;
      is_flush = subst P e is;
      by_now = omega arith;
      stores = ap (count l) (history-act T n (Flushes u k) is) ∙ sym counts;
    })
flush-mark T S t l n u k false h other is has counts before = later-mark T S t l n (mark t l h) before

-- the mark of the cut after one more act that is kept
act-mark : (T : Recording) (S : List ℕ) (t l n : ℕ) (a : Act) (h : List Act) → IsAct T (suc n) a → Has S (suc n) → count l h ≡ count_at T l n → KeptMark T S t l n (mark t l h) → KeptMark T S t l (suc n) (mark t l (a ∷ h))
act-mark T S t l n (Flushes u k) h is has counts before = flush-mark T S t l n u k ((u == t) && (k == l)) h refl is has counts before
act-mark T S t l n a h is has counts before = later-mark T S t l n (mark t l h) before

-- a mark in the cut is that of a flush which it keeps
kept-mark : (T : Recording) (S : List ℕ) (t l n : ℕ) → IsSelection T S → KeptMark T S t l n (mark t l (history (cut T S) (matching_place S n)))
kept-mark T S t l zero s = inl (ap (mark t l) (history-zero T S s))
kept-mark T S t l (suc n) s = go (next-step T S n s) (kept-mark T S t l n s)
  where
    go : IsNext T S n → KeptMark T S t l n (mark t l (history (cut T S) (matching_place S n))) → KeptMark T S t l (suc n) (mark t l (history (cut T S) (matching_place S (suc n))))
    go (Keeps a is has whole part) before =
        let P : List Act → Type 0 = λ h. KeptMark T S t l (suc n) (mark t l h) in
        subst P (sym part) (act-mark T S t l n a (history (cut T S) (matching_place S n)) is has (count-cut T S l n s) before)
    go (Drops a is gone free whole part) before =
        let P : List Act → Type 0 = λ h. KeptMark T S t l (suc n) (mark t l h) in
        subst P (sym part) (later-mark T S t l n (mark t l (history (cut T S) (matching_place S n))) before)
    go (Ended whole part) before =
        let P : List Act → Type 0 = λ h. KeptMark T S t l (suc n) (mark t l h) in
        subst P (sym part) (later-mark T S t l n (mark t l (history (cut T S) (matching_place S n))) before)

-- a useful flush of the pair before another one has its fence before that one, so it is in the front already
useful-before : (T : Recording) (t l f k n : ℕ) (v : IsUsefulFlush T f) → v.thread ≡ t → v.line ≡ l → IsAct T f (Flushes t l) → IsAct T k (Flushes t l) → f < k → k ≤ n → count_at T l f ≤ front_at T l n
useful-before T t l f k n v same_thread same_line is_f is_k before by_now =
    let e : Flushes v.thread v.line ≡ Flushes t l = cc in
    let P : Act → Type 0 = λ a. IsAct T k a in
    let Q : ℕ → Type 0 = λ u. IsAct T v.fence (Fences u) in
    let fence : IsAct T v.fence (Fences t) = subst Q same_thread v.is_fence in
    elim (cases_order v.fence k) [
      | inl same ↦ let R : ℕ → Type 0 = λ i. IsAct T i (Fences t) in
          let two : Fences t ≡ Flushes t l = act-unique T k (Fences t) (Flushes t l) (subst R same fence) is_k in
          absurd (let no : ⊥ = cc in no)
      | inr x ↦ elim x [
        | inl sooner ↦ front-from_pair T t l f v.fence n is_f fence v.later (omega arith)
        | inr later ↦ absurd (v.last_flush k before later (subst P (sym e) is_k))
      ]
    ]

-- so is each flush of the pair that is kept before another one
kept-before : (T : Recording) (t l f k n : ℕ) → IsAct T f (Flushes t l) → IsAct T k (Flushes t l) → f < k → k ≤ n → IsKept T f → count_at T l f ≤ front_at T l n
kept-before T t l f k n is_f is_k before by_now (Stays a is stays) =
    let same = act-unique T f a (Flushes t l) is is_f in
    absurd (true≢false (sym stays ∙ ap always_stays same))
kept-before T t l f k n is_f is_k before by_now (ByFence v) =
    let two : Fences v.thread ≡ Flushes t l = act-unique T f (Fences v.thread) (Flushes t l) v.is_fence is_f in
    absurd (let no : ⊥ = cc in no)
kept-before T t l f k n is_f is_k before by_now (ByClflush v) =
    let two : Clflushes v.line ≡ Flushes t l = act-unique T f (Clflushes v.line) (Flushes t l) v.is_clflush is_f in
    absurd (let no : ⊥ = cc in no)
kept-before T t l f k n is_f is_k before by_now (ByFlush v) =
    let same : Flushes v.thread v.line ≡ Flushes t l = act-unique T f (Flushes v.thread v.line) (Flushes t l) v.is_flush is_f in
    let same_thread : v.thread ≡ t = cc in
    let same_line : v.line ≡ l = cc in
    useful-before T t l f k n v same_thread same_line is_f is_k before by_now

-- without flush k, the last one of the pair by place n, the mark is below the number of stores that k marks
mark-without : (T : Recording) (K : List ℕ) (t l k n c : ℕ) → IsKeep T K → IsAct T k (Flushes t l) → k ≤ n → ((i : ℕ) → k < i → i ≤ n → ¬ IsAct T i (Flushes t l)) → front_at T l n < count_at T l k → KeptMark T (without K k) t l n c → c < count_at T l k
mark-without T K t l k n c keep is by_now last needed (inl e) = omega arith
mark-without T K t l k n c keep is by_now last needed (inr x) =
    elim (cases_order x.flush k) [
      | inl same ↦ let P : ℕ → Type 0 = λ i. Has (without K k) i in absurd (not-without K k (subst P same x.kept))
      | inr y ↦ elim y [
        | inl before ↦ omega (arith, x.stores, kept-before T t l x.flush k n x.is_flush is before by_now ((keep.just x.flush).0 (has-from_without K k x.flush x.kept)))
        | inr after ↦ absurd (last x.flush after x.by_now x.is_flush)
      ]
    ]

-- at a fence the front of the cut is at most the greater of the one before and the mark of the thread
cut-front-at_fence : (T : Recording) (S : List ℕ) (t l n : ℕ) → IsSelection T S → IsAct T (suc n) (Fences t) → front_at (cut T S) l (matching_place S (suc n)) ≤ max (front_at (cut T S) l (matching_place S n)) (mark t l (history (cut T S) (matching_place S n)))
cut-front-at_fence T S t l n s is = go (next-step T S n s)
  where
    go : IsNext T S n → front_at (cut T S) l (matching_place S (suc n)) ≤ max (front_at (cut T S) l (matching_place S n)) (mark t l (history (cut T S) (matching_place S n)))
    go (Keeps a is_a has whole part) =
        let same : a ≡ Fences t = act-unique T (suc n) a (Fences t) is_a is in
        let here : front_at (cut T S) l (matching_place S (suc n)) ≡ max (front_at (cut T S) l (matching_place S n)) (mark t l (history (cut T S) (matching_place S n))) =
        ap (front l) part ∙ ap (λ b. front l (b ∷ history (cut T S) (matching_place S n))) same in
        omega (arith, here)
    go (Drops a is_a gone free whole part) =
        let here : front_at (cut T S) l (matching_place S (suc n)) ≡ front_at (cut T S) l (matching_place S n) = ap (front l) part in
        omega (arith, here)
    go (Ended whole part) =
        let here : front_at (cut T S) l (matching_place S (suc n)) ≡ front_at (cut T S) l (matching_place S n) = ap (front l) part in
        omega (arith, here)

-- without a useful flush, the cut's front is smaller right after the fence that needs it
front-without_flush : (T : Recording) (K : List ℕ) (t l k j : ℕ) → IsKeep T K → IsSelection T (without K k) → IsAct T k (Flushes t l) → IsAct T j (Fences t) → k < j → ((i : ℕ) → k < i → i < j → ¬ IsAct T i (Flushes t l)) → front_at T l (j - 1) < count_at T l k → front_at (cut T (without K k)) l (matching_place (without K k) j) < front_at T l j
front-without_flush T K t l k zero keep s is fence later last needed = absurd (omega arith)
front-without_flush T K t l k (suc n) keep s is fence later last needed =
    let e : suc n - 1 ≡ n = omega arith in
    let P : ℕ → Type 0 = λ m. front_at T l m < count_at T l k in
    let short : front_at T l n < count_at T l k = subst P e needed in
    let S = without K k in
    let by_mark : mark t l (history (cut T S) (matching_place S n)) < count_at T l k = mark-without T K t l k n (mark t l (history (cut T S) (matching_place S n))) keep is (omega arith) (λ i after by_now. last i after (omega arith)) short (kept-mark T S t l n s) in
    omega (arith, short, by_mark, cut-front-at_fence T S t l n s fence, cut-front-le T S l n s, front-from_pair T t l k (suc n) (suc n) is fence later (omega arith))

-- without a kept flush or fence, the cut has a smaller front of some line at some place
smaller-without : (T : Recording) (K : List ℕ) (k : ℕ) (a : Act) → IsKeep T K → IsAct T k a → always_stays a ≡ false → IsSelection T (without K k) → IsKept T k →
    (n : ℕ) × (n ≤ length T.events) × ((l : ℕ) × (front_at (cut T (without K k)) l (matching_place (without K k) n) < front_at T l n))
smaller-without T K k a keep is free s (Stays b is_b stays) = absurd (true≢false (sym stays ∙ ap always_stays (act-unique T k b a is_b is) ∙ free))
smaller-without T K k a keep is free s (ByFence v) =
    let within = act-within T k a is in
    (k, within.1, (v.line, front-without T (without K k) v.line k s (not-without K k) within.0 v.raises))
smaller-without T K k a keep is free s (ByClflush v) =
    let within = act-within T k a is in
    (k, within.1, (v.line, front-without T (without K k) v.line k s (not-without K k) within.0 v.raises))
smaller-without T K k a keep is free s (ByFlush v) =
    let within = act-within T v.fence (Fences v.thread) v.is_fence in
    (v.fence, within.1, (v.line, front-without_flush T K v.thread v.line k v.fence keep s v.is_flush v.is_fence v.later v.last_flush v.needed))

-- no kept flush or fence can go
pub none_can_go : NoneCanGo
none_can_go T K k a keep has is free =
    let S = without K k in
    let s = selection-without T K k a (keep_is_selection T K keep) is free in
    let x = smaller-without T K k a keep is free s ((keep.just k).0 has) in
    (x.0, x.1, unfaithful T S x.2.0 x.0 x.2.1)
