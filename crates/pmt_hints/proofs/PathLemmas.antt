-- Flushes that are told of a call path alone.
use Rattle.std.proofs.Common.{◌≡◌, ℕ, Bool, true, false, List, [], Option, None, Some, refl, sym, ap, subst, ◌∙◌}
use Rattle.std.specs.Prelude.{nat_eq}
use Rattle.std.specs.Bool.{Decides}
use Rattle.std.proofs.lemmas.Bool.{eq-eqb, eqb-true, false≢true}
use Rattle.std.proofs.lemmas.Option.{none-some, same_Some}
use Rattle.pmt_laws.specs.Prelude.{Flushes, Recording, event, Has, option_eq, filter, list_any}
use Rattle.pmt_laws.proofs.Histories.{act-unique}
use Rattle.pmt_causes.specs.declared.failure_keys.Origin.{Origin}
use Rattle.pmt_causes.specs.Groups.{origin_of}
use Rattle.pmt_causes.proofs.ExactFailures.{origin-exact}
use Rattle.pmt_hints.specs.declared.places.Places.{Places}
use Rattle.pmt_hints.specs.Hints.{AreThose, IsOpenFlush, IsOpenThroughout, IsToldOnPath, IsToldOpen}
use Rattle.pmt_hints.specs.Contrasts.{AreClosed, is_closed, is_place, place_of, told_so}
use Rattle.pmt_hints.proofs.OpenAtLemmas.{filter-has, filter-rising}
use Rattle.pmt_hints.proofs.SplitLemmas.{origin-same}
use Rattle.pmt_hints.proofs.TellingLemmas.{any-has, any-none, flush-place, not-true-false, place-flush}

-- when two labels are the same
pub option-decides : (a b : Option ℕ) → Decides (option_eq nat_eq a b) (a ≡ b)
option-decides None None = (λ e. refl, λ e. refl)
option-decides None (Some y) = (λ e. absurd (false≢true e), λ e. absurd (none-some y e))
option-decides (Some x) None = (λ e. absurd (false≢true e), λ e. absurd (none-some x (sym e)))
option-decides (Some x) (Some y) = (λ e. ap Some (eqb-true x y e), λ e. eq-eqb x y (same_Some x y e))

-- no path alone, if each path is a place
pub none-same : (T : Recording) (labels paths : List (Option ℕ)) (told : List ℕ) → labels ≡ paths → told ≡ [] → AreThose (IsToldOnPath T labels paths) told
none-same T labels paths told same is = rw is (record { rising = tt; just = λ i. (λ h. absurd h, λ h. absurd (h.1 (subst (λ ls. IsOpenThroughout T ls i) (sym same) (h.0).throughout))) })

module _ (T : Recording) (labels paths : List (Option ℕ)) (told whole : List ℕ) (closed : Places) (those : AreThose (IsToldOpen T paths) told) (all : AreThose (IsOpenThroughout T labels) whole) (c : AreClosed T labels whole closed) where
  abbrev closes : Origin → ℕ → Bool
  closes p j = is_place p (place_of labels j (event T j))

  there : (i : ℕ) → Has told i → told_so T labels closed i ≡ true → IsToldOnPath T labels paths i
  there i has left = (h, λ throughout. false≢true (sym none ∙ any-has (closes p) whole i ((all.just i).1 throughout) own))
    where
      h : IsToldOpen T paths i
      h = (those.just i).0 has

      o : IsOpenFlush T i
      o = h.throughout.is_open.1

      p : Origin
      p = origin_of labels i o.thread

      own : closes p i ≡ true
      own = ap (is_place p) (flush-place T labels i o.thread o.line o.is_flush) ∙ origin-same p

      none : list_any (closes p) whole ≡ false
      none = sym (c p) ∙ ap (is_closed closed) (sym (flush-place T labels i o.thread o.line o.is_flush)) ∙ not-true-false (is_closed closed (place_of labels i (event T i))) left

  back : (i : ℕ) → IsToldOnPath T labels paths i → Has told i × (told_so T labels closed i ≡ true)
  back i h = ((those.just i).1 h.0, rw unclosed refl)
    where
      o : IsOpenFlush T i
      o = (h.0).throughout.is_open.1

      p : Origin
      p = origin_of labels i o.thread

      -- one of the place that is open throughout has i so too
      never : (j : ℕ) → Has whole j → closes p j ≡ true → ⊥
      never j has e = by_place (place_of labels j (event T j)) refl e
        where
          own : IsOpenThroughout T labels j
          own = (all.just j).0 has

          by_place : (q : Option Origin) → place_of labels j (event T j) ≡ q → is_place p q ≡ true → ⊥
          by_place None at e = false≢true e
          by_place (Some q) at e =
              let f = place-flush T labels j q at in
              let thread : own.is_open.1.thread ≡ f.0 = (let same = act-unique T j (Flushes own.is_open.1.thread own.is_open.1.line) (Flushes f.0 f.1) own.is_open.1.is_flush f.2 in cc) in
              let place : p ≡ origin_of labels j own.is_open.1.thread = sym (origin-exact q p e) ∙ f.3 ∙ ap (origin_of labels j) (sym thread) in
              h.1 (record { is_open = (h.0).throughout.is_open; all = λ k t l kept flush same. own.all k t l kept flush (same ∙ place) })

      unclosed : is_closed closed (place_of labels i (event T i)) ≡ false
      unclosed = ap (is_closed closed) (flush-place T labels i o.thread o.line o.is_flush) ∙ c p ∙ any-none (closes p) whole never

  pub on-paths : (numbers : List ℕ) → numbers ≡ filter (told_so T labels closed) told → AreThose (IsToldOnPath T labels paths) numbers
  on-paths numbers is = rw is (record {
    rising = filter-rising (told_so T labels closed) 0 told those.rising;
    just = λ i. (λ h. let found = (filter-has (told_so T labels closed) told i).0 h in there i found.0 found.1, λ h. (filter-has (told_so T labels closed) told i).1 (back i h));
  })
