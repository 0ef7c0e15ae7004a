-- What stands before a place, with one more event.
use Rattle.std.proofs.Common.{◌≡◌, ◌≢◌, ◌↔◌, ℕ, suc, ◌-◌, ◌<◌, ◌≤◌, ◌⊎◌, inl, inr, Bool, true, false, List, ◌∷◌, length, refl, sym, ap, subst, ◌∙◌, arith, get_or, set, get_or-set_same, get_or-set_other}
use Rattle.std.specs.Prelude.{replicate}
use Rattle.std.proofs.lemmas.Bool.{cases_lt, cases_eq}
use Rattle.std.proofs.lemmas.List.{length-set, get_or-replicate, length-replicate}
use Rattle.pmt_explain.specs.Prelude.{Written, Act, Stores, Flushes, Clflushes, Fences, Asserts, count, Recording, IsAct, history, count_at, IsFlushOf, ByFlush, ByClflush, HasFlushed}
use Rattle.pmt_laws.proofs.Histories.{act-unique, act-within, history-act}
use Rattle.pmt_laws.proofs.BoxLemmas.{count-store_other}
use Rattle.pmt_reasons.proofs.CauseLaws.{no_flush_of}
use Rattle.pmt_explain.specs.Following.{past_of, TellsSafe, IsNextFlush, TellsNextFlush, ByStore, ByFlushOf}
use Rattle.pmt_explain.proofs.FirstLemmas.{first-here, first-over}
use Rattle.pmt_explain.proofs.SavingLemmas.{pending-before}
use Rattle.pmt_explain.proofs.UpcomingLemmas.{within-flush}
use Rattle.pmt_explain.specs.declared.behind.Behind.{Behind}
use Rattle.pmt_explain.specs.Dropping.{IsBehind, AreSafeFrom}

-- whether a thread has flushed since its last fence, after one more event
flushed-over : (T : Recording) (t n : ℕ) (a : Act) → IsAct T (suc n) a → ((l : ℕ) → a ≢ Flushes t l) → a ≢ Fences t → HasFlushed T t (suc n) ↔ HasFlushed T t (suc (suc n))
flushed-over T t n a is no_flush no_fence = (
  λ h. record { flush = h.flush; line = h.line; is_flush = h.is_flush; before = omega (arith, h.before); since = λ k later below at. still h k later (cases_lt k (suc n)) below at },
  λ h. record { flush = h.flush; line = h.line; is_flush = h.is_flush; before = earlier h (cases_lt h.flush (suc n)); since = λ k later below at. h.since k later (omega arith) at },
)
  where
    still : (h : HasFlushed T t (suc n)) (k : ℕ) → h.flush < k → (k < suc n) ⊎ (suc n ≤ k) → k < suc (suc n) → ¬ IsAct T k (Fences t)
    still h k later (inl early) below at = h.since k later early at
    still h k later (inr late) below at = let e : k ≡ suc n = omega arith in no_fence (act-unique T (suc n) a (Fences t) is (subst (λ j. IsAct T j (Fences t)) e at))

    earlier : (h : HasFlushed T t (suc (suc n))) → (h.flush < suc n) ⊎ (suc n ≤ h.flush) → h.flush < suc n
    earlier h (inl early) = early
    earlier h (inr late) =
        let e : h.flush ≡ suc n = omega (arith, h.before) in
        absurd (no_flush h.line (act-unique T (suc n) a (Flushes t h.line) is (subst (λ j. IsAct T j (Flushes t h.line)) e h.is_flush)))

flushed-now : (T : Recording) (t l n : ℕ) → IsAct T (suc n) (Flushes t l) → HasFlushed T t (suc (suc n))
flushed-now T t l n is = record { flush = suc n; line = l; is_flush = is; before = omega arith; since = λ k later below at. absurd (omega arith) }

flushed-never : (T : Recording) (t n : ℕ) → IsAct T (suc n) (Fences t) → ¬ HasFlushed T t (suc (suc n))
flushed-never T t n is h = elim (cases_lt h.flush (suc n)) [
  | inl early ↦ h.since (suc n) early (omega arith) is
  | inr late ↦
      let e : h.flush ≡ suc n = omega (arith, h.before) in
      let same = act-unique T (suc n) (Fences t) (Flushes t h.line) is (subst (λ j. IsAct T j (Flushes t h.line)) e h.is_flush) in
      cc
]

-- ---- The places at the next flushes

abbrev pub ArePlaces : Recording → ℕ → List ℕ → Type 0
ArePlaces T n places = (l k : ℕ) → IsNextFlush T l n k → k < past_of T → AreSafeFrom T l (count_at T l n) (get_or places k 0)

-- one event flushes one line
one-line : (T : Recording) (l m k : ℕ) → IsFlushOf T l k → IsFlushOf T m k → l ≡ m
one-line T l m k (ByFlush t is) (ByFlush u at) = let same = act-unique T k (Flushes t l) (Flushes u m) is at in cc
one-line T l m k (ByFlush t is) (ByClflush at) = let same = act-unique T k (Flushes t l) (Clflushes m) is at in absurd (cc)
one-line T l m k (ByClflush is) (ByFlush u at) = let same = act-unique T k (Clflushes l) (Flushes u m) is at in absurd (cc)
one-line T l m k (ByClflush is) (ByClflush at) = let same = act-unique T k (Clflushes l) (Clflushes m) is at in cc

next-unique : (T : Recording) (l n a b : ℕ) → IsNextFlush T l n a → IsNextFlush T l n b → a ≡ b
next-unique T l n a b x y = elim (cases_lt a b) [
  | inl less ↦ absurd (y.none_before a less (x.has (omega (arith, y.within))))
  | inr upto ↦ elim (cases_lt b a) [ inl less ↦ absurd (x.none_before b less (y.has (omega (arith, x.within)))) | inr same ↦ omega arith ]
]

-- a line that the event does not store to nor flush
places-over : (T : Recording) (n l k : ℕ) (places : List ℕ) → ¬ IsFlushOf T l (suc n) → count_at T l (suc n) ≡ count_at T l n → ArePlaces T n places → IsNextFlush T l (suc n) k → k < past_of T →
    AreSafeFrom T l (count_at T l (suc n)) (get_or places k 0)
places-over T n l k places no_flush same old next before =
    subst (λ c. AreSafeFrom T l c (get_or places k 0)) (sym same) (old l k (first-over (IsFlushOf T l) (past_of T) n k no_flush next) before)

-- the place of one line is set at its next flush
places-set : (T : Recording) (n l flush place : ℕ) (places : List ℕ) → past_of T < length places → IsNextFlush T l (suc n) flush → AreSafeFrom T l (count_at T l (suc n)) place →
    ((m : ℕ) → m ≢ l → ¬ IsFlushOf T m (suc n)) → ((m : ℕ) → m ≢ l → count_at T m (suc n) ≡ count_at T m n) → ArePlaces T n places → ArePlaces T (suc n) (set places flush place)
places-set T n l flush place places size next safe no_flush no_store old m k next_m before = elim (cases_eq m l) [
  | inl e ↦
      let own : k ≡ flush = next-unique T l (suc n) k flush (subst (λ j. IsNextFlush T j (suc n) k) e next_m) next in
      let value : get_or (set places flush place) k 0 ≡ place = ap (λ j. get_or (set places flush place) j 0) own ∙ get_or-set_same places flush place 0 (omega (arith, size, own, before)) in
      subst (AreSafeFrom T m (count_at T m (suc n))) (sym value) (subst (λ j. AreSafeFrom T j (count_at T j (suc n)) place) (sym e) safe)
  | inr apart ↦
      let differ : k ≢ flush = λ same. apart (one-line T m l k (next_m.has before).1 (subst (IsFlushOf T l) (sym same) (next.has (omega (arith, same, before))).1)) in
      subst (AreSafeFrom T m (count_at T m (suc n))) (sym (get_or-set_other places flush k place 0 differ)) (places-over T n m k places (no_flush m apart) (no_store m apart) old next_m before)
]

-- after a store
places-store : (T : Recording) (n l flush place : ℕ) (w : Written) (places : List ℕ) → IsAct T (suc n) (Stores l w) → TellsNextFlush T (suc n) flush → TellsSafe T (suc n) place → past_of T < length places →
    ArePlaces T n places → ArePlaces T (suc n) (set places flush place)
places-store T n l flush place w places is next safe size old =
    places-set T n l flush place places size (next l (ByStore w is)) (λ k inside. pending-before T l k (suc n) place inside (safe l w is))
    (λ m apart. no_flush_of T m (suc n) (Stores l w) is (λ t e. cc) (λ e. cc))
    (λ m apart. ap (count m) (history-act T n (Stores l w) is) ∙ count-store_other m l w (history T n) apart) old

-- after a flush
places-flush : (T : Recording) (n l flush : ℕ) (places : List ℕ) → IsFlushOf T l (suc n) → ((m : ℕ) → m ≢ l → ¬ IsFlushOf T m (suc n)) → ((m : ℕ) → count_at T m (suc n) ≡ count_at T m n) →
    TellsNextFlush T (suc n) flush → past_of T < length places → ArePlaces T n places → ArePlaces T (suc n) (set places flush (get_or places (suc n) 0))
places-flush T n l flush places own others same next size old =
    let inside : suc n < past_of T = omega (arith, within-flush T l (suc n) own) in
    let here : IsNextFlush T l n (suc n) = first-here (IsFlushOf T l) (past_of T) n (omega (arith, inside)) own in
    places-set T n l flush (get_or places (suc n) 0) places size (next l (ByFlushOf own)) (subst (λ c. AreSafeFrom T l c (get_or places (suc n) 0)) (sym (same l)) (old l (suc n) here inside)) others (λ m apart. same m) old

-- after an event that is neither
places-other : (T : Recording) (n : ℕ) (a : Act) (places : List ℕ) → IsAct T (suc n) a → ((t l : ℕ) → a ≢ Flushes t l) → ((l : ℕ) → a ≢ Clflushes l) → ((l : ℕ) → count l (a ∷ history T n) ≡ count l (history T n)) →
    ArePlaces T n places → ArePlaces T (suc n) places
places-other T n a places is no_flush no_clflush same old l k next before =
    places-over T n l k places (no_flush_of T l (suc n) a is (λ t. no_flush t l) (no_clflush l)) (ap (count l) (history-act T n a is) ∙ same l) old next before

-- ---- All that stands before a place

-- before any event
pub behind-start : (T : Recording) (b : Behind) (many : ℕ) → past_of T < many → b.places.items ≡ replicate many 0 → b.flushed ≡ replicate 256 false → IsBehind T 0 b
behind-start T b many long none quiet = record {
  size = omega (arith, long, ap (λ (xs : List ℕ). length xs) none, length-replicate {A = ℕ} many 0);
  places = λ l k next before.
      let value : get_or b.places.items k 0 ≡ 0 = ap (λ xs. get_or xs k 0) none ∙ get_or-replicate many k 0 0 (omega (arith, long, before)) in
      let zero_count : count_at T l 0 ≡ 0 = refl in
      subst (AreSafeFrom T l (count_at T l 0)) (sym value) (λ j inside. (λ h. absurd (omega (arith, h)), λ h. absurd (omega (arith, zero_count, h))));
  threads = ap (λ xs. length xs) quiet ∙ length-replicate 256 false;
  flushed = λ t small. (
    λ e. let f = sym e ∙ ap (λ xs. get_or xs t false) quiet ∙ get_or-replicate 256 t false false small in absurd (cc),
    λ h. absurd (omega (arith, h.before, (act-within T h.flush (Flushes t h.line) h.is_flush).0)),
  );
}

-- over a flush by the thread, or a fence, where this says whether it has flushed then
marked : (T : Recording) (n t u : ℕ) (mark : Bool) (a : Act) (flushed : List Bool) → IsAct T (suc n) a → ((v l : ℕ) → v ≢ t → a ≢ Flushes v l) → ((v : ℕ) → v ≢ t → a ≢ Fences v) → length flushed ≡ 256 →
    (mark ≡ true) ↔ HasFlushed T t (suc (suc n)) → u < 256 → (get_or flushed u false ≡ true) ↔ HasFlushed T u (suc n) → (get_or (set flushed t mark) u false ≡ true) ↔ HasFlushed T u (suc (suc n))
marked T n t u mark a flushed is no_flush no_fence size told small old = go (cases_eq u t)
  where
    go : (u ≡ t) ⊎ (u ≢ t) → (get_or (set flushed t mark) u false ≡ true) ↔ HasFlushed T u (suc (suc n))
    go (inl e) =
        let value : get_or (set flushed t mark) u false ≡ mark = ap (λ k. get_or (set flushed t mark) k false) e ∙ get_or-set_same flushed t mark false (omega (arith, size, e, small)) in
        subst (λ v. (get_or (set flushed t mark) u false ≡ true) ↔ HasFlushed T v (suc (suc n))) (sym e) (λ x. told.0 (sym value ∙ x), λ h. value ∙ told.1 h)
    go (inr apart) =
        let value : get_or (set flushed t mark) u false ≡ get_or flushed u false = get_or-set_other flushed t u mark false apart in
        let y = flushed-over T u n a is (λ l. no_flush u l apart) (no_fence u apart) in
        (λ x. y.0 (old.0 (sym value ∙ x)), λ h. value ∙ old.1 (y.1 h))

unmarked : (T : Recording) (n : ℕ) (a : Act) (flushed : List Bool) → IsAct T (suc n) a → ((t l : ℕ) → a ≢ Flushes t l) → ((t : ℕ) → a ≢ Fences t) → ((t : ℕ) → t < 256 → (get_or flushed t false ≡ true) ↔ HasFlushed T t (suc n)) →
    (t : ℕ) → t < 256 → (get_or flushed t false ≡ true) ↔ HasFlushed T t (suc (suc n))
unmarked T n a flushed is no_flush no_fence old t small =
    let x = old t small in
    let y = flushed-over T t n a is (no_flush t) (no_fence t) in
    (λ e. y.0 (x.0 e), λ h. x.1 (y.1 h))

pub behind-store : (T : Recording) (n l flush place : ℕ) (w : Written) (b c : Behind) → IsAct T (suc n) (Stores l w) → TellsNextFlush T (suc n) flush → TellsSafe T (suc n) place → IsBehind T n b →
    c.places.items ≡ set b.places.items flush place → c.flushed ≡ b.flushed → IsBehind T (suc n) c
behind-store T n l flush place w b c is next safe old places flushed = record {
  size = omega (arith, old.size, ap (λ xs. length xs) places, length-set b.places.items flush place);
  places = subst (ArePlaces T (suc n)) (sym places) (places-store T n l flush place w b.places.items is next safe old.size old.places);
  threads = ap (λ xs. length xs) flushed ∙ old.threads;
  flushed = λ u small. rw flushed (unmarked T n (Stores l w) b.flushed is (λ t k e. cc) (λ t e. cc) old.flushed u small);
}

pub behind-clflush : (T : Recording) (n l number flush : ℕ) (b c : Behind) → IsAct T (suc n) (Clflushes l) → number ≡ suc n → TellsNextFlush T (suc n) flush → IsBehind T n b →
    c.places.items ≡ set b.places.items flush (get_or b.places.items number 0) → c.flushed ≡ b.flushed → IsBehind T (suc n) c
behind-clflush T n l number flush b c is same next old places flushed = record {
  size = omega (arith, old.size, ap (λ xs. length xs) places, length-set b.places.items flush (get_or b.places.items number 0));
  places = subst (ArePlaces T (suc n)) (sym (places ∙ ap (λ i. set b.places.items flush (get_or b.places.items i 0)) same))
      (places-flush T n l flush b.places.items (ByClflush is) (λ m apart. no_flush_of T m (suc n) (Clflushes l) is (λ t e. cc) (λ e. apart (cc))) (λ m. ap (count m) (history-act T n (Clflushes l) is)) next old.size old.places);
  threads = ap (λ xs. length xs) flushed ∙ old.threads;
  flushed = λ u small. rw flushed (unmarked T n (Clflushes l) b.flushed is (λ t k e. cc) (λ t e. cc) old.flushed u small);
}

pub behind-flush : (T : Recording) (n t l number flush : ℕ) (b c : Behind) → IsAct T (suc n) (Flushes t l) → number ≡ suc n → TellsNextFlush T (suc n) flush → IsBehind T n b →
    c.places.items ≡ set b.places.items flush (get_or b.places.items number 0) → c.flushed ≡ set b.flushed t true → IsBehind T (suc n) c
behind-flush T n t l number flush b c is same next old places flushed = record {
  size = omega (arith, old.size, ap (λ xs. length xs) places, length-set b.places.items flush (get_or b.places.items number 0));
  places = subst (ArePlaces T (suc n)) (sym (places ∙ ap (λ i. set b.places.items flush (get_or b.places.items i 0)) same))
      (places-flush T n l flush b.places.items (ByFlush t is) (λ m apart. no_flush_of T m (suc n) (Flushes t l) is (λ u e. apart (cc)) (λ e. cc)) (λ m. ap (count m) (history-act T n (Flushes t l) is)) next old.size old.places);
  threads = ap (λ xs. length xs) flushed ∙ length-set b.flushed t true ∙ old.threads;
  flushed = λ u small. rw flushed (marked T n t u true (Flushes t l) b.flushed is (λ v k apart e. apart (cc)) (λ v apart e. cc) old.threads (λ e. flushed-now T t l n is, λ h. refl) small (old.flushed u small));
}

pub behind-fence : (T : Recording) (n t : ℕ) (b c : Behind) → IsAct T (suc n) (Fences t) → IsBehind T n b → c.places.items ≡ b.places.items → c.flushed ≡ set b.flushed t false → IsBehind T (suc n) c
behind-fence T n t b c is old places flushed = record {
  size = omega (arith, old.size, ap (λ xs. length xs) places);
  places = subst (ArePlaces T (suc n)) (sym places) (places-other T n (Fences t) b.places.items is (λ u l e. cc) (λ l e. cc) (λ l. refl) old.places);
  threads = ap (λ xs. length xs) flushed ∙ length-set b.flushed t false ∙ old.threads;
  flushed = λ u small. rw flushed (marked T n t u false (Fences t) b.flushed is (λ v k apart e. cc) (λ v apart e. apart (cc)) old.threads (λ e. absurd (cc), λ h. absurd (flushed-never T t n is h)) small (old.flushed u small));
}

pub behind-assert : (T : Recording) (n : ℕ) (b : Behind) → IsAct T (suc n) Asserts → IsBehind T n b → IsBehind T (suc n) b
behind-assert T n b is old = record {
  size = old.size;
  places = places-other T n Asserts b.places.items is (λ u l e. cc) (λ l e. cc) (λ l. refl) old.places;
  threads = old.threads;
  flushed = unmarked T n Asserts b.flushed is (λ t k e. cc) (λ t e. cc) old.flushed;
}

-- from which place on the stores before a flush are safe
pub flush-place : (T : Recording) (t l i : ℕ) (b : Behind) → IsAct T i (Flushes t l) → IsBehind T (i - 1) b → AreSafeFrom T l (count_at T l i) (get_or b.places.items i 0)
flush-place T t l i b is old =
    let within = act-within T i (Flushes t l) is in
    let e : suc (i - 1) ≡ i = omega (arith, within) in
    let at : IsAct T (suc (i - 1)) (Flushes t l) = subst (λ k. IsAct T k (Flushes t l)) (sym e) is in
    let same : count_at T l (suc (i - 1)) ≡ count_at T l (i - 1) = ap (count l) (history-act T (i - 1) (Flushes t l) at) in
    let here : IsNextFlush T l (i - 1) i = subst (IsNextFlush T l (i - 1)) e (first-here (IsFlushOf T l) (past_of T) (i - 1) (omega (arith, within)) (ByFlush t at)) in
    subst (λ c. AreSafeFrom T l c (get_or b.places.items i 0)) (sym same ∙ ap (count_at T l) e) (old.places l i here (omega (arith, within)))

-- what is told of the thread of a fence, whose number is a thread's
pub flushed-by : (T : Recording) (t i : ℕ) (b : Behind) → t < 256 → IsAct T i (Fences t) → IsBehind T (i - 1) b → (get_or b.flushed t false ≡ false → ¬ HasFlushed T t i) × (get_or b.flushed t false ≡ true → HasFlushed T t i)
flushed-by T t i b small is old =
    let within = (act-within T i (Fences t) is).0 in
    let number : suc (i - 1) ≡ i = omega arith in
    let told = subst (λ k. (get_or b.flushed t false ≡ true) ↔ HasFlushed T t k) number (old.flushed t small) in
    (λ none h. let f = sym none ∙ told.1 h in absurd (cc), told.0)
