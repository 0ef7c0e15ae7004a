-- Groups of stores that are written over, with one more pair.
use Rattle.std.proofs.Common.{◌≡◌, ℕ, suc, zero, ◌+◌, ◌-◌, ◌^◌, ◌<◌, ◌≤◌, ◌⊎◌, ◌↔◌, inl, inr, Bool, true, false, List, [], ◌∷◌, ◌++◌, length, length-append, get_or, drop, Option, None, Some, refl, sym, ap, subst, ◌∙◌, arith}
use Rattle.std.specs.Prelude.{slice_get, take, nat_eq, All, IsTrue, nat_le, nat_lt}
use mir.Val.{bool_byte}
use Rattle.std.specs.Map.{lookup}
use Rattle.std.proofs.lemmas.Bool.Decides.{Decides-eqb}
use Rattle.std.proofs.lemmas.Slice.Eq.{starts_is}
use Rattle.std.proofs.lemmas.List.{take_rest}
use Rattle.std.proofs.lemmas.Bool.{cases_eq, cases_Bool, and_parts, and_from, ltb-true, lt-ltb, leb-true, le-leb}
use Rattle.std.proofs.lemmas.Option.{none-some, slice_get-get_or, slice_get_within}
use Rattle.indexmap.specs.IndexMap.{get, IsEmpty}
use Rattle.pmt_laws.specs.Prelude.{Written, Stores, writes, Recording, IsAct, starts_with}
use Rattle.pmt_laws.proofs.Histories.{act-unique}
use Rattle.pmt_explain.specs.declared.overwritten_grouping.Overwriting.{Overwriting}
use Rattle.pmt_explain.specs.declared.overwritten_grouping.OverwrittenGroup.{OverwrittenGroup}
use Rattle.pmt_explain.specs.Grouping.{Picks, Adds}
use Rattle.pmt_explain.specs.OverwrittenGroups.{IsPairOf, IsPair, IsRepeatedBy, IsSame, IsInGroup, TellsPairs, AreOverwrittenGroups, IsPairAlone, LinePlaces, group_line, with_pair}
use Rattle.pmt_explain.proofs.GroupingLemmas.{picks-more, picks-other, picks-length, groups-told, first-more, IsGathered, places-within, gathered-adds}

-- a pair has one line
one-line : (T : Recording) (l m : ℕ) (p : Overwriting) → IsPairOf T l p → IsPairOf T m p → l ≡ m
one-line T l m p x y = let act = act-unique T p.earlier (Stores l x.earlier) (Stores m y.earlier) x.is_earlier y.is_earlier in cc

-- a group tells of one more pair
tells-more : (T : Recording) (g one : OverwrittenGroup) (ps : List Overwriting) (p : Overwriting) → TellsPairs T one (p ∷ []) → TellsPairs T g ps → TellsPairs T (with_pair g one) (ps ++ p ∷ [])
tells-more T g one ps p alone told = go alone.picked
  where
    count : g.count + 1 ≡ length (ps ++ p ∷ [])
    count = ap (λ n. n + 1) told.count ∙ sym (length-append ps (p ∷ []))

    go : Picks (IsSame T) (p ∷ []) alone.alike → TellsPairs T (with_pair g one) (ps ++ p ∷ [])
    go (inl (same, (zs, is, none))) =
        let once : length alone.alike ≡ 1 = ap (λ (qs : List Overwriting). length qs) (is ∙ ap (λ (qs : List Overwriting). p ∷ qs) none) in
        record {
          first = first-more ps p g.first told.first;
          count = count;
          alike = told.alike ++ p ∷ [];
          picked = picks-more (IsSame T) ps told.alike p told.picked same;
          same = omega (arith, told.same, alone.same, once, length-append told.alike (p ∷ []));
        }
    go (inr (other, none)) =
        let never : length alone.alike ≡ 0 = ap (λ (qs : List Overwriting). length qs) none in
        record {
          first = first-more ps p g.first told.first;
          count = count;
          alike = told.alike;
          picked = picks-other (IsSame T) ps told.alike p told.picked other;
          same = omega (arith, told.same, alone.same, never);
        }

-- the groups of the first pairs, and where they stand
pub record IsPairsGathered (T : Recording) (given : List Overwriting) (gs : List OverwrittenGroup) (find : ℕ → Option ℕ) : Type 0 where
  pub pairs : List Overwriting
  pub picked : Picks (IsPair T) given pairs
  pub gathered : IsGathered (IsInGroup T) (TellsPairs T) group_line pairs gs find

pub pairs-start : (T : Recording) (places : LinePlaces) → IsEmpty places → IsPairsGathered T [] [] (get nat_eq places)
pairs-start T places empty = record {
  pairs = [];
  picked = refl;
  gathered = record { groups = refl; places = record { found = λ k p e. let never : None ≡ Some p = sym (none k) ∙ e in cc; placed = λ k p e. absurd (none-some k e) } };
}
  where
    none : (k : ℕ) → get nat_eq places k ≡ None
    none k = ap (λ (es : List (ℕ × ℕ)). lookup (nat_eq k) es) empty

-- one more pair, which is not of two stores to one line
pub pairs-other : (T : Recording) (given : List Overwriting) (gs : List OverwrittenGroup) (find : ℕ → Option ℕ) (p : Overwriting) → ¬ IsPair T p → IsPairsGathered T given gs find →
    IsPairsGathered T (given ++ p ∷ []) gs find
pairs-other T given gs find p none s = record { pairs = s.pairs; picked = picks-other (IsPair T) given s.pairs p s.picked none; gathered = s.gathered }

-- one more pair
pub pairs-more : (T : Recording) (given : List Overwriting) (gs hs : List OverwrittenGroup) (old new : ℕ → Option ℕ) (p : Overwriting) (one : OverwrittenGroup) → IsPairAlone T p one →
    Adds group_line with_pair gs old one hs new → IsPairsGathered T given gs old → IsPairsGathered T (given ++ p ∷ []) hs new
pairs-more T given gs hs old new p one alone adds s = record {
  pairs = s.pairs ++ p ∷ [];
  picked = picks-more (IsPair T) given s.pairs p s.picked (one.line, alone.inside);
  gathered =
      gathered-adds (IsInGroup T) (TellsPairs T) group_line (λ g h x y own inside same. subst (λ l. IsPairOf T l x) (sym same) inside) (λ g h x. one-line T g.line h.line x) with_pair s.pairs gs hs old new p
      one cases_eq (λ g. refl) (λ g y inside. inside) (λ g y inside. inside) (λ g ps told. tells-more T g one ps p alone.told told) alone.inside alone.told s.gathered adds;
}

-- a place that is told is in the list
pub pairs-stands : (T : Recording) (given : List Overwriting) (gs : List OverwrittenGroup) (find : ℕ → Option ℕ) (l p : ℕ) → IsPairsGathered T given gs find → find l ≡ Some p → p < length gs
pairs-stands T given gs find l p s e = places-within group_line gs find l p s.gathered.places e

-- the counts are small
pub pairs-room : (T : Recording) (given : List Overwriting) (gs : List OverwrittenGroup) (find : ℕ → Option ℕ) (n : ℕ) → length given + 1 < 2 ^ 64 → n < 2 → IsPairsGathered T given gs find →
    All (λ g. (g.count + 1 < 2 ^ 64) × (g.same + n < 2 ^ 64)) gs
pairs-room T given gs find n few once s p d within =
    let g = get_or gs p d in
    let told = groups-told (IsInGroup T) (TellsPairs T) s.pairs gs p g s.gathered.groups (slice_get-get_or gs p d within) in
    let all = picks-length (IsPair T) given s.pairs s.picked in
    let alike = picks-length (IsSame T) told.0 told.1.alike told.1.picked in
    (omega (arith, told.1.count, told.2), omega (arith, told.1.same, told.2))

-- what a store writes
writes-range : (w : Written) (a : ℕ) → writes w a ≡ true → (w.addr ≤ a) × (a - w.addr < length w.bytes)
writes-range w a h =
    let both = and_parts (nat_le w.addr a) (nat_lt (a - w.addr) (length w.bytes)) h in
    (leb-true w.addr a both.0, ltb-true (a - w.addr) (length w.bytes) both.1)

range-writes : (w : Written) (a : ℕ) → w.addr ≤ a → a - w.addr < length w.bytes → writes w a ≡ true
range-writes w a low high = and_from (nat_le w.addr a) (nat_lt (a - w.addr) (length w.bytes)) (le-leb w.addr a low) (lt-ltb (a - w.addr) (length w.bytes) high)

-- the elements after a prefix
get-drop : (k : ℕ) (xs : List ℕ) (j : ℕ) → slice_get (drop k xs) j ≡ slice_get xs (k + j)
get-drop zero xs j = let e : 0 + j ≡ j = omega arith in sym (ap (λ n. slice_get xs n) e)
get-drop (suc k) [] j = refl
get-drop (suc k) (x ∷ xs) j = let e : suc k + j ≡ suc (k + j) = omega arith in get-drop k xs j ∙ sym (ap (λ n. slice_get (x ∷ xs) n) e)

-- a list that begins with another
get-front : (ys rest : List ℕ) (j : ℕ) → j < length ys → slice_get (ys ++ rest) j ≡ slice_get ys j
get-front [] rest j within = absurd (omega arith)
get-front (y ∷ ys) rest zero within = refl
get-front (y ∷ ys) rest (suc j) within = get-front ys rest j (omega arith)

front-get : (xs ys : List ℕ) → ((j : ℕ) → j < length ys → slice_get xs j ≡ slice_get ys j) → (rest : List ℕ) × (xs ≡ ys ++ rest)
front-get xs [] same = (xs, refl)
front-get [] (y ∷ ys) same = let never : None ≡ Some y = same 0 (omega arith) in absurd (cc)
front-get (x ∷ xs) (y ∷ ys) same =
    let rest = front-get xs ys (λ j within. same (suc j) (omega arith)) in
    let head : Some x ≡ Some y = same 0 (omega arith) in
    let e = rest.1 in
    (rest.0, cc)

-- a later store that does not reach over the first byte of the earlier one does not repeat it
pub not-repeated : (w v : Written) → 1 ≤ length w.bytes → (w.addr < v.addr) ⊎ (length v.bytes < w.addr - v.addr) → ¬ IsRepeatedBy w v
not-repeated w v some apart is =
    let there = writes-range v w.addr (is w.addr (range-writes w w.addr (omega arith) (omega arith))).0 in
    elim apart [ inl before ↦ omega (arith, there) | inr past ↦ omega (arith, there) ]

-- the later store repeats the earlier one where its bytes from there on begin with it
pub repeated-from : (w v : Written) (k : ℕ) (rest : List ℕ) → k + v.addr ≡ w.addr → k ≤ length v.bytes → drop k v.bytes ≡ w.bytes ++ rest → IsRepeatedBy w v
repeated-from w v k rest offset within is a writes_a =
    let range = writes-range w a writes_a in
    let place : a - v.addr ≡ k + (a - w.addr) = omega (arith, range.0) in
    let same : slice_get v.bytes (a - v.addr) ≡ slice_get w.bytes (a - w.addr) =
    ap (λ n. slice_get v.bytes n) place ∙ sym (get-drop k v.bytes (a - w.addr)) ∙ ap (λ xs. slice_get xs (a - w.addr)) is ∙ get-front w.bytes rest (a - w.addr) range.1 in
    let there : slice_get v.bytes (a - v.addr) ≡ Some (get_or w.bytes (a - w.addr) 0) = same ∙ slice_get-get_or w.bytes (a - w.addr) 0 range.1 in
    (range-writes v a (omega (arith, range.0)) (slice_get_within v.bytes (a - v.addr) (get_or w.bytes (a - w.addr) 0) there), same)

pub repeated-front : (w v : Written) (k : ℕ) → k + v.addr ≡ w.addr → IsRepeatedBy w v → (rest : List ℕ) × (drop k v.bytes ≡ w.bytes ++ rest)
repeated-front w v k offset is =
    front-get (drop k v.bytes) w.bytes
    (λ j within.
    let own : writes w (w.addr + j) ≡ true = range-writes w (w.addr + j) (omega arith) (omega arith) in
    let here : w.addr + j - w.addr ≡ j = omega arith in
    let there : w.addr + j - v.addr ≡ k + j = omega arith in
    get-drop k v.bytes j ∙ ap (λ n. slice_get v.bytes n) (sym there) ∙ (is (w.addr + j) own).1 ∙ ap (λ n. slice_get w.bytes n) here)

-- and else it does not
pub repeated-is : (w v : Written) (k : ℕ) (bs ps : List ℕ) (r : Bool) → bs ≡ v.bytes → ps ≡ w.bytes → k + v.addr ≡ w.addr → k ≤ length v.bytes →
    r ≡ starts_with nat_eq (take (length bs - k) (drop k bs)) ps → IsTrue r ↔ IsRepeatedBy w v
repeated-is w v k bs ps r later earlier offset within tests = (
  λ holds. repeated-from w v k (drop (length ps) s) offset within (sym whole ∙ says.0 holds ∙ ap (λ xs. xs ++ drop (length ps) s) earlier),
  λ is. let rest = repeated-front w v k offset is in says.1 rest.0 (whole ∙ rest.1 ∙ ap (λ xs. xs ++ rest.0) (sym earlier)),
)
  where
    s : List ℕ
    s = take (length bs - k) (drop k bs)

    whole : s ≡ drop k v.bytes
    whole = take_rest bs k ∙ ap (λ xs. drop k xs) later

    says : (r ≡ true → s ≡ ps ++ drop (length ps) s) × ((rest : List ℕ) → s ≡ ps ++ rest → r ≡ true)
    says = starts_is Decides-eqb s ps r tests

-- two stores to one line are a pair, alone in this group
pub pair-alone : (T : Recording) (p : Overwriting) (l m same : ℕ) (w v : Written) (b : Bool) → IsAct T p.earlier (Stores l w) → IsAct T p.later (Stores m v) → m ≡ l →
    (IsTrue b ↔ IsRepeatedBy w v) → same ≡ bool_byte b → IsPairAlone T p (record { line = l; first = p; count = 1; same = same })
pair-alone T p l m same w v b earlier later line repeated told = record { inside = pair; told = tells (cases_Bool b) }
  where
    pair : IsPairOf T l p
    pair = record { earlier = w; later = v; is_earlier = earlier; is_later = subst (λ k. IsAct T p.later (Stores k v)) line later }

    not-same : ¬ IsRepeatedBy w v → ¬ IsSame T p
    not-same none s =
        let first = act-unique T p.earlier (Stores s.line s.pair.earlier) (Stores l w) s.pair.is_earlier earlier in
        let second = act-unique T p.later (Stores s.line s.pair.later) (Stores m v) s.pair.is_later later in
        let e : s.pair.earlier ≡ w = cc in
        let f : s.pair.later ≡ v = cc in
        none (subst (λ x. IsRepeatedBy w x) f (subst (λ x. IsRepeatedBy x s.pair.later) e s.repeated))

    tells : (b ≡ true) ⊎ (b ≡ false) → TellsPairs T (record { line = l; first = p; count = 1; same = same }) (p ∷ [])
    tells (inl holds) = record {
      first = refl;
      count = refl;
      alike = p ∷ [];
      picked = inl (record { line = l; pair = pair; repeated = repeated.0 holds }, ([], refl, refl));
      same = told ∙ ap bool_byte holds;
    }
    tells (inr fails) = record {
      first = refl;
      count = refl;
      alike = [];
      picked = inr (not-same (λ r. let e : b ≡ true = repeated.1 r in let f : false ≡ true = sym fails ∙ e in cc), refl);
      same = told ∙ ap bool_byte fails;
    }

-- events of which one is no store are no pair
pub earlier-none : (T : Recording) (p : Overwriting) → ((l : ℕ) (w : Written) → ¬ IsAct T p.earlier (Stores l w)) → ¬ IsPair T p
earlier-none T p none (k, x) = none k x.earlier x.is_earlier

pub later-none : (T : Recording) (p : Overwriting) → ((l : ℕ) (w : Written) → ¬ IsAct T p.later (Stores l w)) → ¬ IsPair T p
later-none T p none (k, x) = none k x.later x.is_later

-- the groups are as they should be
pub pair-groups : (T : Recording) (given : List Overwriting) (gs : List OverwrittenGroup) (find : ℕ → Option ℕ) → IsPairsGathered T given gs find → AreOverwrittenGroups T given gs
pair-groups T given gs find s = (s.pairs, s.picked, s.gathered.groups)
