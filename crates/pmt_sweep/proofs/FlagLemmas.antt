-- The flags of the events that have come, event by event, and at the end of the trace.
use Rattle.std.proofs.Common.{◌≡◌, ◌≢◌, ℕ, zero, suc, ◌<◌, ◌≤◌, ◌⊎◌, inl, inr, Bool, true, false, List, [], ◌∷◌, ◌++◌, length, get_or, map, refl, sym, ap, subst, ◌∙◌, arith, eqb-true}
use Rattle.std.specs.Prelude.{◌↔◌, ◌==◌}
use Rattle.std.proofs.lemmas.Bool.{cases_eq, cases_lt, eq-eqb, ne_eqb, false≢true, true≢false}
use Rattle.std.proofs.lemmas.List.{get_or_push, get_or_append_left, get_or_past, map-append, length_push}
use Rattle.pmt_laws.specs.Prelude.{Act, Stores, Flushes, Clflushes, Fences, Asserts, count, Recording, IsAct, history, always_stays, IsRising, Has, AllByRecursion}
use Rattle.pmt_model.specs.Keeping.{IsKept, IsKeep, Stays, ByFence, ByFlush, ByClflush}
use Rattle.pmt_laws.specs.Passing.{Flushed, open_flushes}
use Rattle.pmt_laws.proofs.Histories.{act-within, act-unique, history-act, length-history}
use Rattle.pmt_laws.proofs.PassLemmas.{IsOpenOf, are_open}
use Rattle.pmt_laws.proofs.DecidedLemmas.{open_is_dropped}
use Rattle.pmt_tables.specs.Flags.{is_kept_at}
use Rattle.pmt_sweep.specs.Passing.{FlagsKept, number_in, IsOpenAt, AreFlagged, AreFlagsTo, AreFlagsPast}

-- what is kept is an event
kept-there : (T : Recording) (i : ℕ) → IsKept T i → (1 ≤ i) × (i ≤ length T.events)
kept-there T i (Stays a is stays) = act-within T i a is
kept-there T i (ByFence u) = act-within T i (Fences u.thread) u.is_fence
kept-there T i (ByFlush u) = act-within T i (Flushes u.thread u.line) u.is_flush
kept-there T i (ByClflush u) = act-within T i (Clflushes u.line) u.is_clflush

-- ---- Open flushes

-- a number of the list is that of a flush of the list
numbered : (T : Recording) (t n k : ℕ) (flushes : List Flushed) → AllByRecursion (IsOpenOf T t n) flushes → Has (map number_in flushes) k → (f : Flushed) × (f.number ≡ k) × IsOpenOf T t n f
numbered T t n k [] each h = absurd h
numbered T t n k (f ∷ flushes) each (inl e) = (f, e, each.0)
numbered T t n k (f ∷ flushes) each (inr h) = numbered T t n k flushes each.1 h

open-of : (T : Recording) (n k : ℕ) (o : IsOpenAt T n k) → (f : Flushed) × (f.number ≡ k) × IsOpenOf T o.0 n f
open-of T n k o = numbered T o.0 n k (open_flushes o.0 (history T n)) (are_open T o.0 n).each o.1

-- an event that is no flush is never open
never-open : (T : Recording) (n m : ℕ) (a : Act) → IsAct T n a → ((t l : ℕ) → a ≡ Flushes t l → ⊥) → ¬ IsOpenAt T m n
never-open T n m a is none o =
    let x = open-of T m n o in
    none o.0 x.0.line (act-unique T n a (Flushes o.0 x.0.line) is (subst (λ k. IsAct T k (Flushes o.0 x.0.line)) x.1 x.2.is_flush))

-- an open flush of the whole trace is not kept
open-dropped : (T : Recording) (k : ℕ) → IsOpenAt T (length T.events) k → ¬ IsKept T k
open-dropped T k o = open_is_dropped T k (record {
  thread = o.0;
  line = x.0.line;
  is_flush = subst (λ i. IsAct T i (Flushes o.0 x.0.line)) x.1 x.2.is_flush;
  unfenced = λ j after fence. x.2.unfenced j (omega (arith, x.1, after)) (act-within T j (Fences o.0) fence).1 fence;
})
  where
    x : (f : Flushed) × (f.number ≡ k) × IsOpenOf T o.0 (length T.events) f
    x = open-of T (length T.events) k o

-- the same flushes are open after an event that is no flush and no fence
open-same : (T : Recording) (n k : ℕ) (a : Act) → IsAct T (suc n) a → ((t : ℕ) → open_flushes t (a ∷ history T n) ≡ open_flushes t (history T n)) → IsOpenAt T (suc n) k ↔ IsOpenAt T n k
open-same T n k a is same = ((λ o. (o.0, subst (λ fs. Has (map number_in fs) k) (at o.0) o.1)), (λ o. (o.0, subst (λ fs. Has (map number_in fs) k) (sym (at o.0)) o.1)))
  where
    at : (t : ℕ) → open_flushes t (history T (suc n)) ≡ open_flushes t (history T n)
    at t = ap (open_flushes t) (history-act T n a is) ∙ same t

-- the numbers with one more at the end
pub has-push : (ks : List ℕ) (n k : ℕ) → Has (ks ++ n ∷ []) k → Has ks k ⊎ (n ≡ k)
has-push [] n k (inl e) = inr e
has-push [] n k (inr h) = absurd h
has-push (j ∷ ks) n k (inl e) = inl (inl e)
has-push (j ∷ ks) n k (inr h) = elim (has-push ks n k h) [ inl x ↦ inl (inr x) | inr e ↦ inr e ]

pub has-last : (ks : List ℕ) (n : ℕ) → Has (ks ++ n ∷ []) n
has-last [] n = inl refl
has-last (j ∷ ks) n = inr (has-last ks n)

pub has-left : (ks : List ℕ) (n k : ℕ) → Has ks k → Has (ks ++ n ∷ []) k
has-left [] n k h = absurd h
has-left (j ∷ ks) n k (inl e) = inl e
has-left (j ∷ ks) n k (inr h) = inr (has-left ks n k h)

-- a flush adds its number
module _ (T : Recording) (n t l : ℕ) (is : IsAct T (suc n) (Flushes t l)) where
  numbers-own : map number_in (open_flushes t (history T (suc n))) ≡ map number_in (open_flushes t (history T n)) ++ suc n ∷ []
  numbers-own =
      let here : (t == t) ≡ true = eq-eqb t t refl in
      let within : n ≤ length T.events = let h = (act-within T (suc n) (Flushes t l) is).1 in omega arith in
      rw (history-act T n (Flushes t l) is, here, length-history T n within) (map-append number_in (open_flushes t (history T n)) (record { number = suc n; line = l; stores = count l (history T n) } ∷ []))

  flush-open : IsOpenAt T (suc n) (suc n)
  flush-open = (t, subst (λ ks. Has ks (suc n)) (sym numbers-own) (has-last (map number_in (open_flushes t (history T n))) (suc n)))

  numbers-other : (u : ℕ) → (t == u) ≡ false → open_flushes u (history T (suc n)) ≡ open_flushes u (history T n)
  numbers-other u apart = rw (history-act T n (Flushes t l) is, apart) refl

  open-flush : (k : ℕ) → k ≤ n → IsOpenAt T (suc n) k ↔ IsOpenAt T n k
  open-flush k before = ((λ o. there o.0 (t == o.0) refl o.1), (λ o. back o.0 (t == o.0) refl o.1))
    where
      there : (u : ℕ) (b : Bool) → (t == u) ≡ b → Has (map number_in (open_flushes u (history T (suc n)))) k → IsOpenAt T n k
      there u true e h =
          let same : t ≡ u = eqb-true t u e in
          let own = subst (λ v. Has (map number_in (open_flushes v (history T (suc n)))) k) (sym same) h in
          elim (has-push (map number_in (open_flushes t (history T n))) (suc n) k (subst (λ ks. Has ks k) numbers-own own)) [
            | inl x ↦ (t, x)
            | inr last ↦ absurd (omega (arith, last, before))
          ]
      there u false e h = (u, subst (λ fs. Has (map number_in fs) k) (numbers-other u e) h)

      back : (u : ℕ) (b : Bool) → (t == u) ≡ b → Has (map number_in (open_flushes u (history T n))) k → IsOpenAt T (suc n) k
      back u true e h =
          let same : t ≡ u = eqb-true t u e in
          let own = subst (λ v. Has (map number_in (open_flushes v (history T n))) k) (sym same) h in
          (t, subst (λ ks. Has ks k) (sym numbers-own) (has-left (map number_in (open_flushes t (history T n))) (suc n) k own))
      back u false e h = (u, subst (λ fs. Has (map number_in fs) k) (sym (numbers-other u e)) h)

-- ---- Flags

-- the flags tell the same where the same flushes are open
flagged-same : (T : Recording) (n : ℕ) (flags : List Bool) → ((k : ℕ) → k ≤ n → IsOpenAt T (suc n) k ↔ IsOpenAt T n k) → AreFlagged T n n flags → AreFlagged T n (suc n) flags
flagged-same T n flags same just k = (
  (λ e. let x = (just k).0 e in (x.0, x.1, λ o. x.2 ((same k x.0).0 o))),
  (λ x. (just k).1 (x.0, x.1, λ o. x.2 ((same k x.0).1 o))),
)

-- one flag more
flags-next : (T : Recording) (n : ℕ) (flags : List Bool) (b : Bool) → length flags ≡ n → AreFlagged T n (suc n) flags → (b ≡ true) ↔ (IsKept T (suc n) × ¬ IsOpenAt T (suc n) (suc n)) → AreFlagsTo T (suc n) (flags ++ b ∷ [])
flags-next T n flags b all just last = record { all = length_push flags b ∙ omega (arith, all); just = λ k. go k }
  where
    at : (i : ℕ) → (i < n) ⊎ (n ≤ i) → (n < i) ⊎ (i ≤ n) → (get_or (flags ++ b ∷ []) i false ≡ true) ↔ ((suc i ≤ suc n) × IsKept T (suc i) × ¬ IsOpenAt T (suc n) (suc i))
    at i (inl early) other =
        let old = just (suc i) in
        let e = get_or_append_left flags (b ∷ []) false i (omega (arith, all, early)) in
        ((λ m. let x = old.0 (sym e ∙ m) in (omega (arith, early), x.1, x.2)), (λ x. e ∙ old.1 (omega (arith, early), x.1, x.2)))
    at i (inr late) (inl past) =
        let e = get_or_past (flags ++ b ∷ []) i false (omega (arith, length_push flags b, all, past)) in
        ((λ m. absurd (false≢true (sym e ∙ m))), (λ x. absurd (omega (arith, x.0, past))))
    at i (inr late) (inr now) =
        let here : n ≡ i = omega (arith, late, now) in
        let e = get_or_push flags b false i (all ∙ here) in
        let told : (b ≡ true) ↔ (IsKept T (suc i) × ¬ IsOpenAt T (suc n) (suc i)) = subst (λ j. (b ≡ true) ↔ (IsKept T (suc j) × ¬ IsOpenAt T (suc n) (suc j))) here last in
        ((λ m. let x = told.0 (sym e ∙ m) in (omega (arith, now), x.0, x.1)), (λ x. e ∙ told.1 (x.1, x.2)))

    go : (k : ℕ) → (is_kept_at (flags ++ b ∷ []) k ≡ true) ↔ ((k ≤ suc n) × IsKept T k × ¬ IsOpenAt T (suc n) k)
    go zero = ((λ m. absurd (false≢true m)), (λ x. absurd (omega (arith, (kept-there T 0 x.1).0))))
    go (suc i) = at i (cases_lt i n) (cases_lt n i)

-- and an event that is no flush and no fence
flags-decided : (T : Recording) (n : ℕ) (flags : List Bool) (b : Bool) (a : Act) → IsAct T (suc n) a → ((t : ℕ) → open_flushes t (a ∷ history T n) ≡ open_flushes t (history T n)) → ((t l : ℕ) → a ≡ Flushes t l → ⊥) →
    (b ≡ true) ↔ IsKept T (suc n) → AreFlagsTo T n flags → AreFlagsTo T (suc n) (flags ++ b ∷ [])
flags-decided T n flags b a is same none tells are =
    flags-next T n flags b are.all (flagged-same T n flags (λ k before. open-same T n k a is same) are.just)
    ((λ e. (tells.0 e, never-open T (suc n) (suc n) a is none)), (λ x. tells.1 x.0))

pub flags-start : (T : Recording) → AreFlagsTo T 0 []
flags-start T = record { all = refl; just = λ k. go k }
  where
    go : (k : ℕ) → (is_kept_at [] k ≡ true) ↔ ((k ≤ 0) × IsKept T k × ¬ IsOpenAt T 0 k)
    go zero = ((λ m. absurd (false≢true m)), (λ x. absurd (omega (arith, (kept-there T 0 x.1).0))))
    go (suc i) = ((λ m. absurd (false≢true m)), (λ x. absurd (omega (arith, x.0))))

-- a store or an assertion is kept
pub flags-stays : (T : Recording) (n : ℕ) (flags : List Bool) (a : Act) → IsAct T (suc n) a → always_stays a ≡ true → AreFlagsTo T n flags → AreFlagsTo T (suc n) (flags ++ true ∷ [])
flags-stays T n flags a is stays are = flags-decided T n flags true a is (same a stays) (λ t l e. true≢false (sym stays ∙ ap always_stays e)) ((λ e. Stays a is stays), (λ kept. refl)) are
  where
    same : (x : Act) → always_stays x ≡ true → (t : ℕ) → open_flushes t (x ∷ history T n) ≡ open_flushes t (history T n)
    same (Stores l w) e t = refl
    same (Flushes u l) e t = absurd (false≢true e)
    same (Clflushes l) e t = refl
    same (Fences u) e t = absurd (false≢true e)
    same Asserts e t = refl

-- a flush is open
pub flags-flush : (T : Recording) (n t l : ℕ) (flags : List Bool) → IsAct T (suc n) (Flushes t l) → AreFlagsTo T n flags → AreFlagsTo T (suc n) (flags ++ false ∷ [])
flags-flush T n t l flags is are =
    flags-next T n flags false are.all (flagged-same T n flags (open-flush T n t l is) are.just)
    ((λ e. absurd (false≢true e)), (λ x. absurd (x.1 (flush-open T n t l is))))

-- a clflush is kept as it tells itself
pub flags-clflush : (T : Recording) (n l : ℕ) (flags : List Bool) (b : Bool) → IsAct T (suc n) (Clflushes l) → (b ≡ true) ↔ IsKept T (suc n) → AreFlagsTo T n flags → AreFlagsTo T (suc n) (flags ++ b ∷ [])
flags-clflush T n l flags b is tells are = flags-decided T n flags b (Clflushes l) is (λ t. refl) (λ t k e. cc) tells are

-- ---- A fence

cases_has : (ks : List ℕ) (k : ℕ) → Has ks k ⊎ (Has ks k → ⊥)
cases_has [] k = inr (λ has. has)
cases_has (j ∷ ks) k = go (cases_eq j k) (cases_has ks k)
  where
    go : (j ≡ k) ⊎ (j ≡ k → ⊥) → Has ks k ⊎ (Has ks k → ⊥) → Has (j ∷ ks) k ⊎ (Has (j ∷ ks) k → ⊥)
    go (inl e) rest = inl (inl e)
    go (inr other) (inl has) = inl (inr has)
    go (inr other) (inr none) = inr none_here
      where
        none_here : Has (j ∷ ks) k → ⊥
        none_here (inl e) = other e
        none_here (inr has) = none has

module _ (T : Recording) (n t : ℕ) (fence : IsAct T (suc n) (Fences t)) where
  abbrev numbers : List ℕ
  numbers = map number_in (open_flushes t (history T n))

  own-none : open_flushes t (history T (suc n)) ≡ []
  own-none = let e = eq-eqb t t refl in ap (open_flushes t) (history-act T n (Fences t) fence) ∙ rw e refl

  other-same : (u : ℕ) → u ≢ t → open_flushes u (history T (suc n)) ≡ open_flushes u (history T n)
  other-same u other = let e = ne_eqb t u (λ same. other (sym same)) in ap (open_flushes u) (history-act T n (Fences t) fence) ∙ rw e refl

  -- what is open after it was open before, and is no flush of the fence
  still-open : (u k : ℕ) → Has (map number_in (open_flushes u (history T (suc n)))) k → (u ≢ t) × Has (map number_in (open_flushes u (history T n))) k
  still-open u k at = go (cases_eq u t)
    where
      go : (u ≡ t) ⊎ (u ≡ t → ⊥) → (u ≢ t) × Has (map number_in (open_flushes u (history T n))) k
      go (inl same) = absurd (subst (λ fs. Has (map number_in fs) k) (ap (λ v. open_flushes v (history T (suc n))) same ∙ own-none) at)
      go (inr other) = (other, subst (λ fs. Has (map number_in fs) k) (other-same u other) at)

  -- the flushes of the fence are open no more
  own-closed : (k : ℕ) → Has numbers k → (k ≤ n) × ¬ IsOpenAt T (suc n) k
  own-closed k has = (omega (arith, mine.2.by_now, mine.1), closed)
    where
      mine : (f : Flushed) × (f.number ≡ k) × IsOpenOf T t n f
      mine = open-of T n k (t, has)

      closed : ¬ IsOpenAt T (suc n) k
      closed (u, at) =
          let still = still-open u k at in
          let theirs = open-of T n k (u, still.1) in
          let same = act-unique T k (Flushes u theirs.0.line) (Flushes t mine.0.line) (subst (λ i. IsAct T i (Flushes u theirs.0.line)) theirs.1 theirs.2.is_flush) (subst (λ i. IsAct T i (Flushes t mine.0.line)) mine.1 mine.2.is_flush) in
          let thread : u ≡ t = cc in
          still.0 thread

  -- the others are open as before
  other-open : (k : ℕ) → (Has numbers k → ⊥) → IsOpenAt T n k → IsOpenAt T (suc n) k
  other-open k none (u, at) = go (cases_eq u t)
    where
      go : (u ≡ t) ⊎ (u ≡ t → ⊥) → IsOpenAt T (suc n) k
      go (inl same) = absurd (none (subst (λ v. Has (map number_in (open_flushes v (history T n))) k) same at))
      go (inr other) = (u, subst (λ fs. Has (map number_in fs) k) (sym (other-same u other)) at)

  -- the flags tell its flushes once it has flagged them
  flags-past : (old new : List Bool) → length new ≡ length old → AreFlagsTo T n old → FlagsKept T n t old new → AreFlagsPast T n new
  flags-past old new same are kept = record { all = same ∙ are.all; just = λ k. (there k, back k) }
    where
      there : (k : ℕ) → is_kept_at new k ≡ true → (k ≤ n) × IsKept T k × ¬ IsOpenAt T (suc n) k
      there k e = elim ((kept k).0 e) [
        | inl before ↦ let x = (are.just k).0 before in (x.0, x.1, λ o. x.2 (o.0, (still-open o.0 k o.1).1))
        | inr x ↦ let closed = own-closed k x.0 in (closed.0, x.1, closed.1)
      ]

      back : (k : ℕ) → (k ≤ n) × IsKept T k × ¬ IsOpenAt T (suc n) k → is_kept_at new k ≡ true
      back k x = elim (cases_has numbers k) [
        | inl has ↦ (kept k).1 (inr (has, x.1))
        | inr none ↦ (kept k).1 (inl ((are.just k).1 (x.0, x.1, λ o. x.2 (other-open k none o))))
      ]

-- a fence is kept as it tells itself
pub flags-fence :
    (T : Recording) (n t : ℕ) (old flags : List Bool) (b : Bool) → IsAct T (suc n) (Fences t) → length flags ≡ length old → AreFlagsTo T n old → FlagsKept T n t old flags → (b ≡ true) ↔ IsKept T (suc n) →
    AreFlagsTo T (suc n) (flags ++ b ∷ [])
flags-fence T n t old flags b is same are kept tells =
    let past = flags-past T n t is old flags same are kept in
    flags-next T n flags b past.all past.just
    ((λ e. (tells.0 e, never-open T (suc n) (suc n) (Fences t) is (λ u l same. cc))), (λ x. tells.1 x.0))

-- ---- At the end

-- the numbers that are flagged are those that are kept
pub flags-keep : (T : Recording) (flags : List Bool) (K : List ℕ) → AreFlagsTo T (length T.events) flags → IsRising 0 K → ((n : ℕ) → Has K n ↔ (is_kept_at flags n ≡ true)) → IsKeep T K
flags-keep T flags K are rising marked = record {
  rising = rising;
  just = λ k. (
    (λ h. ((are.just k).0 ((marked k).0 h)).1),
    (λ kept. (marked k).1 ((are.just k).1 ((kept-there T k kept).1, kept, λ o. open-dropped T k o kept))),
  );
}
