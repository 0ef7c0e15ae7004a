-- Findings in groups.
use Rattle.std.proofs.Common.{◌≡◌, ℕ, inl, inr, List, [], ◌∷◌, length, take, map, Option, slice_index, refl, sym, ap, subst, ◌∙◌, arith}
use Rattle.std.specs.List.{All, AllByRecursion, slice_index_or}
use Rattle.std.proofs.lemmas.List.Sorted.{All-permutation, IsPermutation-refl}
use Rattle.std.proofs.lemmas.Option.{none-some, same_Some}
use Rattle.pmt_model.specs.Traces.{Recording}
use Rattle.pmt_explanation.specs.Prelude.{Picks, AreGroups, FailureKey, Group, Keyed, AreFailureGroups, IsKeyed, AreGrouped, IsIn, Tells, first_in, Fails, AreShown, ShownFailure}
use Rattle.pmt_causes.proofs.KeyLemmas.{keyed-none}
use Rattle.pmt_causes.proofs.MemberLemmas.{each-map, from-each, picks-each, to-each}
use Rattle.pmt_explanation.specs.Explaining.{first_members}
use Rattle.pmt_failures.proofs.ShowingLemmas.{all-picked, all-take, failure-fails, number_of}

-- ---- The first members of groups

module _ {K : Type 0} where
  pub grouped-none : AreGrouped {K = K} [] []
  grouped-none = record {
    by_first = [];
    partition = refl;
    same = IsPermutation-refl [];
    order = λ k g h at next. absurd (none-some g at);
  }

  first-is : (g : Group K) (x : Keyed K) (xs ms : List (Keyed K)) → IsIn g x → Picks (IsIn g) (x ∷ xs) ms → Tells g ms → first_in g ≡ x.number
  first-is g x xs ms inside (inl (own, (zs, is, rest))) told = ap (λ (ns : List ℕ). slice_index ns 0) (told ∙ ap (map (λ (y : Keyed K). y.number)) is)
  first-is g x xs ms inside (inr (other, rest)) told = absurd (other inside)

  firsts-each : (P : ℕ → Type 0) (xs : List (Keyed K)) (gs : List (Group K)) → AreGroups IsIn Tells xs gs → AllByRecursion (λ (x : Keyed K). P x.number) xs →
      AllByRecursion (λ (g : Group K). P (first_in g)) gs
  firsts-each P xs [] h each = tt
  firsts-each P [] (g ∷ gs) (others, one, rest) each = absurd (none-some one.head one.first)
  firsts-each P (x ∷ xs) (g ∷ gs) (others, one, rest) each =
      let same : x ≡ one.head = same_Some x one.head one.first in
      let inside : IsIn g x = subst (IsIn g) (sym same) one.inside in (
        subst P (sym (first-is g x xs one.members inside one.picked one.told)) each.0,
        firsts-each P others gs rest (picks-each (λ (y : Keyed K). P y.number) (λ (y : Keyed K). ¬ IsIn g y) (x ∷ xs) others one.left each),
      )

-- ---- Groups of failed assertions

no-numbers : (ns : List ℕ) → length ns ≡ 0 → ns ≡ []
no-numbers [] e = refl
no-numbers (n ∷ ns) e = absurd (omega (arith, e))

pub causes-none : (T : Recording) (labels : List (Option ℕ)) (numbers : List ℕ) (groups : List (Group FailureKey)) → length numbers ≡ 0 → groups ≡ [] →
    AreFailureGroups T labels numbers groups
causes-none T labels numbers groups none is =
    subst (λ (ns : List ℕ). AreFailureGroups T labels ns groups) (sym (no-numbers numbers none))
    (subst (λ (gs : List (Group FailureKey)). AreFailureGroups T labels [] gs) (sym is) ([], keyed-none T labels, grouped-none))

item-fails : (T : Recording) (labels : List (Option ℕ)) (x : Keyed FailureKey) → IsKeyed T labels x → Fails T x.number
item-fails T labels x h = failure-fails T x.number h.failure h.fails

firsts-fail : (T : Recording) (labels : List (Option ℕ)) (numbers : List ℕ) (groups : List (Group FailureKey)) → AreFailureGroups T labels numbers groups →
    AllByRecursion (Fails T) (first_members groups)
firsts-fail T labels numbers groups (items, keyed, grouped) =
    let P : Group FailureKey → Type 0 = λ (g : Group FailureKey). Fails T (first_in g) in
    let each : All (λ (x : Keyed FailureKey). Fails T x.number) items = λ k d within. item-fails T labels (slice_index_or items k d) (keyed.each k d within) in
    let by_first : AllByRecursion P grouped.by_first = firsts-each (Fails T) items grouped.by_first grouped.partition (to-each (λ (x : Keyed FailureKey). Fails T x.number) items each) in
    let all : All P groups = All-permutation P grouped.by_first groups grouped.same (from-each P grouped.by_first by_first) in
    each-map first_in (Fails T) groups (to-each P groups all)

-- The first members of the first groups all fail, so they are all shown.
pub shown-firsts : (T : Recording) (labels : List (Option ℕ)) (numbers : List ℕ) (groups : List (Group FailureKey)) (limit : ℕ) (shown : List ShownFailure) →
    AreFailureGroups T labels numbers groups → AreShown T (take limit (first_members groups)) shown → map (λ (s : ShownFailure). s.event) shown ≡ take limit (first_members groups)
shown-firsts T labels numbers groups limit shown right told =
    all-picked (Fails T) (take limit (first_members groups)) (map number_of shown) told.picked
    (all-take (Fails T) limit (first_members groups) (firsts-fail T labels numbers groups right))
