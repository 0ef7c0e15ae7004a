-- Of which places flushes are told as open at a store.
use Rattle.std.proofs.Common.{◌≡◌, ℕ, inl, inr, Bool, true, false, List, [], ◌∷◌, Option, None, Some, refl, sym, ap, ◌∙◌}
use Rattle.std.specs.Prelude.{◌||◌, not}
use Rattle.std.proofs.lemmas.Bool.{false≢true}
use Rattle.std.proofs.lemmas.Option.{none-some, same_Some}
use Rattle.pmt_laws.specs.Prelude.{Event, Op, Store, Clwb, ClflushOpt, Clflush, Sfence, Mfence, IsPersist, IsOrderedBefore, Layout, line_of, Flushes, Recording, IsAct, act_of, event, Has, IsKept, filter, list_any}
use Rattle.pmt_causes.specs.declared.failure_keys.Origin.{Origin}
use Rattle.pmt_causes.specs.Groups.{origin_of}
use Rattle.pmt_hints.specs.Hints.{AreThose, IsOpenAtStore, IsOpenFlush, IsOpenThroughout}
use Rattle.pmt_hints.specs.declared.places.Places.{Places}
use Rattle.pmt_hints.specs.Contrasts.{AreShut, has_place, is_closed, op_place, place_of, told_so}
use Rattle.pmt_hints.proofs.OpenAtLemmas.{filter-has, filter-rising}

-- a test that some number of a list passes
pub any-has : (f : ℕ → Bool) (ks : List ℕ) (j : ℕ) → Has ks j → f j ≡ true → list_any f ks ≡ true
any-has f [] j h so = absurd h
any-has f (k ∷ ks) j (inl same) so = rw (ap f same ∙ so) refl
any-has f (k ∷ ks) j (inr more) so = later (f k) (any-has f ks j more so)
  where
    later : (b : Bool) → list_any f ks ≡ true → (b || list_any f ks) ≡ true
    later true e = refl
    later false e = e

pub any-none : (f : ℕ → Bool) (ks : List ℕ) → ((j : ℕ) → Has ks j → f j ≡ true → ⊥) → list_any f ks ≡ false
any-none f [] none = refl
any-none f (k ∷ ks) none = first (f k) refl (any-none f ks (λ j h. none j (inr h)))
  where
    first : (b : Bool) → f k ≡ b → list_any f ks ≡ false → (f k || list_any f ks) ≡ false
    first true e rest = absurd (none k (inl refl) e)
    first false e rest = rw e rest

-- the place of a flush
place-act : (f : Layout) (labels : List (Option ℕ)) (i u t l : ℕ) (o : Op) → act_of f u o ≡ Flushes t l → op_place labels i u o ≡ Some (origin_of labels i t)
place-act f labels i u t l (Clwb a) e = let same : u ≡ t = cc in ap (λ v. Some (origin_of labels i v)) same
place-act f labels i u t l (ClflushOpt a) e = let same : u ≡ t = cc in ap (λ v. Some (origin_of labels i v)) same
place-act f labels i u t l (Store w) e = absurd (cc)
place-act f labels i u t l (Clflush a) e = absurd (cc)
place-act f labels i u t l Sfence e = absurd (cc)
place-act f labels i u t l Mfence e = absurd (cc)
place-act f labels i u t l (IsPersist r) e = absurd (cc)
place-act f labels i u t l (IsOrderedBefore r q) e = absurd (cc)

pub flush-place : (T : Recording) (labels : List (Option ℕ)) (i t l : ℕ) → IsAct T i (Flushes t l) → place_of labels i (event T i) ≡ Some (origin_of labels i t)
flush-place T labels i t l is = ap (place_of labels i) is.1 ∙ place-act T.format labels i (is.0).thread t l (is.0).op is.2

-- and only of one
act-place : (f : Layout) (labels : List (Option ℕ)) (i u : ℕ) (o : Op) (q : Origin) → op_place labels i u o ≡ Some q → (t : ℕ) × (l : ℕ) × (act_of f u o ≡ Flushes t l) × (q ≡ origin_of labels i t)
act-place f labels i u (Clwb a) q e = (u, line_of f a, refl, sym (same_Some _ _ e))
act-place f labels i u (ClflushOpt a) q e = (u, line_of f a, refl, sym (same_Some _ _ e))
act-place f labels i u (Store w) q e = absurd (none-some q e)
act-place f labels i u (Clflush a) q e = absurd (none-some q e)
act-place f labels i u Sfence q e = absurd (none-some q e)
act-place f labels i u Mfence q e = absurd (none-some q e)
act-place f labels i u (IsPersist r) q e = absurd (none-some q e)
act-place f labels i u (IsOrderedBefore r s) q e = absurd (none-some q e)

pub place-flush : (T : Recording) (labels : List (Option ℕ)) (i : ℕ) (q : Origin) → place_of labels i (event T i) ≡ Some q → (t : ℕ) × (l : ℕ) × IsAct T i (Flushes t l) × (q ≡ origin_of labels i t)
place-flush T labels i q e = go (event T i) refl e
  where
    go : (o : Option Event) → event T i ≡ o → place_of labels i o ≡ Some q → (t : ℕ) × (l : ℕ) × IsAct T i (Flushes t l) × (q ≡ origin_of labels i t)
    go None at e = absurd (none-some q e)
    go (Some d) at e = let x = act-place T.format labels i d.thread d.op q e in (x.0, x.1, (d, at, x.2), x.3)

-- one number more
pub closed-more : (a b c d : Bool) → a ≡ (b || c) → b ≡ d → a ≡ (d || c)
closed-more a b c d is same = is ∙ ap (λ x. x || c) same

pub not-true-false : (b : Bool) → not b ≡ true → b ≡ false
not-true-false true e = sym e
not-true-false false e = refl

pub not-true : (b : Bool) → (b ≡ true → ⊥) → b ≡ false
not-true true off = absurd (off refl)
not-true false off = refl

-- an event that is told, and one that is to be told
module _ (T : Recording) (labels : List (Option ℕ)) (passed : List ℕ) (closed : Places) (those : AreThose (IsOpenAtStore T) passed) (x : AreShut T labels closed) where
  there : (i : ℕ) → Has passed i → told_so T labels closed i ≡ true → IsOpenThroughout T labels i
  there i has told = record { is_open = (those.just i).0 has; all = λ j t l is_kept is_flush place. all j t l is_kept is_flush place }
    where
      o : IsOpenFlush T i
      o = ((those.just i).0 has).1

      p : Origin
      p = origin_of labels i o.thread

      off : has_place closed p ≡ false
      off = ap (is_closed closed) (sym (flush-place T labels i o.thread o.line o.is_flush)) ∙ not-true-false (is_closed closed (place_of labels i (event T i))) told

      all : (j t l : ℕ) → IsKept T j → IsAct T j (Flushes t l) → origin_of labels j t ≡ p → IsOpenFlush T j
      all j t l is_kept is_flush place = elim (x.each j t l is_kept is_flush) [ inl open_so ↦ open_so | inr shut ↦ absurd (false≢true (sym off ∙ ap (has_place closed) (sym place) ∙ shut)) ]

  back : (i : ℕ) → IsOpenThroughout T labels i → Has passed i × (told_so T labels closed i ≡ true)
  back i h = ((those.just i).1 h.is_open, ap (λ b. not b) (ap (is_closed closed) (flush-place T labels i o.thread o.line o.is_flush) ∙ not-true (has_place closed p) never))
    where
      o : IsOpenFlush T i
      o = h.is_open.1

      p : Origin
      p = origin_of labels i o.thread

      never : has_place closed p ≡ true → ⊥
      never e = let f = x.just p e in f.6 (h.all f.0 f.1 f.2 f.3 f.4 (sym f.5))

  pub told-those : (numbers : List ℕ) → numbers ≡ filter (told_so T labels closed) passed → AreThose (IsOpenThroughout T labels) numbers
  told-those numbers is = rw is (record {
    rising = filter-rising (told_so T labels closed) 0 passed those.rising;
    just = λ i. (λ h. let found = (filter-has (told_so T labels closed) passed i).0 h in there i found.0 found.1, λ h. (filter-has (told_so T labels closed) passed i).1 (back i h));
  })
