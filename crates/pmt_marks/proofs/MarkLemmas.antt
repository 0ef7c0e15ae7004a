-- The marks of the threads: what a search finds among them, and what a write, an insert and a removal leave.
use Rattle.std.proofs.Common.{◌≡◌, ◌≢◌, ℕ, zero, suc, ◌+◌, ◌-◌, ◌<◌, ◌≤◌, Bool, true, false, List, [], ◌∷◌, length, get_or, set, Option, Some, None, Result, Ok, Err, IfOk, IfErr, refl, sym, ap, subst, arith}
use Rattle.std.specs.Prelude.{◌==◌, if◌then◌else◌, unwrap_or}
use Rattle.pmt_laws.specs.Prelude.{insert, refill, remove, IsSearchInRange, IsBinarySearchResult, IsNonDecreasingBy}
use Rattle.std.specs.Ordering.{nat_cmp, ordering_index}
use Rattle.std.proofs.lemmas.Bool.Decides.{nat_tests}
use Rattle.std.proofs.lemmas.Cmp.{ranked}
use Rattle.std.proofs.lemmas.Grind.{common_steps}
use Rattle.std.proofs.lemmas.List.{append-nil, drop_all, take_all}
use Rattle.std.proofs.lemmas.List.Edits.{length-insert, get_or-insert_below, get_or-insert_at, get_or-insert_above, length-remove, get_or-remove_below, get_or-remove_above}
use Rattle.std.proofs.lemmas.List.Sorted.{IsNonDecreasingBy-from_default}
use Rattle.pmt_marks.specs.declared.mark.Mark.{Mark}
use Rattle.pmt_marks.specs.Lines.{mark_in, thread_at, ThreadsRise, IsPlaceOf, IsGapFor, NoneAbove, ChangesMark, KeepsMarks}

abbrev pub unmarked : Mark
unmarked = record { thread = 0; stores = 0 }

-- what is written over all of a list is the list then
pub refill-all : (old new : List Mark) → length new ≡ length old → refill (length old) old new ≡ new
refill-all old new same = rw (drop_all (length new) old (omega arith), append-nil new) (take_all (length old) new (omega arith))

-- no mark before this place is the thread's
abbrev NoneBefore : ℕ → List Mark → ℕ → Type 0
NoneBefore t marks place = (k : ℕ) → k < place → thread_at marks k ≢ t

none_before-tail : (t : ℕ) (m : Mark) (marks : List Mark) (place : ℕ) → NoneBefore t (m ∷ marks) (suc place) → NoneBefore t marks place
none_before-tail t m marks place none k h = none (suc k) (omega arith)

-- the changes of one thread's mark, as one equation for every thread
abbrev MarksAfter : List Mark → List Mark → ℕ → Option ℕ → Type 0
MarksAfter old new t stores = (u : ℕ) → mark_in u new ≡ (if t == u then stores else mark_in u old)

changes-from_marks : (old new : List Mark) (t : ℕ) (stores : Option ℕ) → MarksAfter old new t stores → ChangesMark t stores old new
changes-from_marks old new t stores after = record { mark = grind (arith, nat_tests, after t); others = λ u other. grind (arith, nat_tests, after u) }

-- a thread that no mark is of has none
mark_in-absent : (t : ℕ) (marks : List Mark) → NoneBefore t marks (length marks) → mark_in t marks ≡ None
mark_in-absent t [] none = refl
mark_in-absent t (m ∷ marks) none = grind (arith, nat_tests, none 0 (omega arith), mark_in-absent t marks (none_before-tail t m marks _ none))

-- the first mark of the thread is its mark
mark_in-present : (t : ℕ) (marks : List Mark) (place : ℕ) → IsPlaceOf t marks place → NoneBefore t marks place → mark_in t marks ≡ Some (get_or marks place unmarked).stores
mark_in-present t [] place at none = absurd (omega (arith, at.within))
mark_in-present t (m ∷ marks) zero at none = grind (arith, nat_tests, at.thread)
mark_in-present t (m ∷ marks) (suc place) at none =
    grind (arith, nat_tests, none 0 (omega arith), mark_in-present t marks place (record { within = omega (arith, at.within); thread = at.thread }) (none_before-tail t m marks place none))

-- a new mark over the first one of the thread
mark_in-set : (marks : List Mark) (m : Mark) (place : ℕ) → IsPlaceOf m.thread marks place → NoneBefore m.thread marks place → MarksAfter marks (set marks place m) m.thread (Some m.stores)
mark_in-set [] m place at none u = absurd (omega (arith, at.within))
mark_in-set (x ∷ marks) m zero at none u = grind (arith, nat_tests, at.thread)
mark_in-set (x ∷ marks) m (suc place) at none u =
    grind (arith, nat_tests, none 0 (omega arith), mark_in-set marks m place (record { within = omega (arith, at.within); thread = at.thread }) (none_before-tail m.thread x marks place none) u)

-- a new mark before any of the thread
mark_in-insert : (marks : List Mark) (m : Mark) (place : ℕ) → NoneBefore m.thread marks place → MarksAfter marks (insert marks place m) m.thread (Some m.stores)
mark_in-insert marks m zero none u = refl
mark_in-insert [] m (suc place) none u = refl
mark_in-insert (x ∷ marks) m (suc place) none u =
    grind (arith, nat_tests, none 0 (omega arith), mark_in-insert marks m place (none_before-tail m.thread x marks place none) u)

-- without a mark of the thread, what the other threads have
mark_in-remove_other : (t : ℕ) (marks : List Mark) (place u : ℕ) → IsPlaceOf t marks place → u ≢ t → mark_in u (remove marks place) ≡ mark_in u marks
mark_in-remove_other t [] place u at other = absurd (omega (arith, at.within))
mark_in-remove_other t (x ∷ marks) zero u at other = grind (arith, nat_tests, at.thread)
mark_in-remove_other t (x ∷ marks) (suc place) u at other =
    ap (λ (rest : Option ℕ). if x.thread == u then Some x.stores else rest) (mark_in-remove_other t marks place u (record { within = omega (arith, at.within); thread = at.thread }) other)

-- marks within a limit
none_above-set : (limit : ℕ) (marks : List Mark) (place : ℕ) (m : Mark) → m.stores ≤ limit → NoneAbove limit marks → NoneAbove limit (set marks place m)
none_above-set limit [] place m h none = tt
none_above-set limit (x ∷ marks) zero m h none = (h, none.1)
none_above-set limit (x ∷ marks) (suc place) m h none = (none.0, none_above-set limit marks place m h none.1)

none_above-insert : (limit : ℕ) (marks : List Mark) (place : ℕ) (m : Mark) → m.stores ≤ limit → NoneAbove limit marks → NoneAbove limit (insert marks place m)
none_above-insert limit marks zero m h none = (h, none)
none_above-insert limit [] (suc place) m h none = (h, tt)
none_above-insert limit (x ∷ marks) (suc place) m h none = (none.0, none_above-insert limit marks place m h none.1)

none_above-remove : (limit : ℕ) (marks : List Mark) (place : ℕ) → NoneAbove limit marks → NoneAbove limit (remove marks place)
none_above-remove limit [] zero none = tt
none_above-remove limit [] (suc place) none = tt
none_above-remove limit (x ∷ marks) zero none = none.1
none_above-remove limit (x ∷ marks) (suc place) none = (none.0, none_above-remove limit marks place none.1)

-- a higher limit holds too
pub none_above-more : (low high : ℕ) (marks : List Mark) → low ≤ high → NoneAbove low marks → NoneAbove high marks
none_above-more low high [] h none = tt
none_above-more low high (m ∷ marks) h none = (omega (arith, none.0), none_above-more low high marks h none.1)

-- a mark is within the limit of all marks
pub mark_in-le : (limit t : ℕ) (marks : List Mark) → NoneAbove limit marks → unwrap_or (mark_in t marks) 0 ≤ limit
mark_in-le limit t [] none = omega arith
mark_in-le limit t (m ∷ marks) none = go (m.thread == t) (mark_in-le limit t marks none.1)
  where
    go : (b : Bool) → unwrap_or (mark_in t marks) 0 ≤ limit → unwrap_or (if b then Some m.stores else mark_in t marks) 0 ≤ limit
    go true h = none.0
    go false h = h

module _ (t : ℕ) (marks : List Mark) (rise : ThreadsRise marks) where
  -- the comparisons with the thread rise along the marks, as a binary search asks
  comparisons-rise : IsNonDecreasingBy (λ (m : Mark). ordering_index (nat_cmp m.thread t)) marks
  comparisons-rise = IsNonDecreasingBy-from_default (λ (m : Mark). ordering_index (nat_cmp m.thread t)) marks unmarked (λ i j le within.
      let threads : thread_at marks i ≤ thread_at marks j = grind (arith, rise i j, λ (same : i ≡ j). ap (thread_at marks) same) in
      grind (arith, nat_tests))

  -- a binary search ends at the thread's mark, or in the gap for it
  pub searched : (r : Result ℕ ℕ) → IsSearchInRange r (length marks) → IsBinarySearchResult (λ (m : Mark). nat_cmp m.thread t) marks r → record { found : IfOk r (IsPlaceOf t marks); absent : IfErr r (IsGapFor t marks) }
  searched (Ok place) within equal = record { found = record { within = within; thread = ranked _ t _ (sym (equal unmarked)) }; absent = tt }
  searched (Err place) within parted = record {
    found = tt;
    absent = record {
      within = within;
      smaller = λ k h. ranked _ t _ (sym ((parted comparisons-rise).0 k unmarked (omega arith) h));
      greater = λ k from h. ranked _ t _ (sym ((parted comparisons-rise).1 k unmarked from h));
    };
  }

module _ (t : ℕ) (marks : List Mark) (place : ℕ) (rise : ThreadsRise marks) (at : IsPlaceOf t marks place) where
  -- the threads before the place are smaller
  none_before-at : NoneBefore t marks place
  none_before-at k h same = omega (arith, rise k place h at.within, at.thread)

  -- the mark at the thread's place is its mark
  pub mark_in-at : mark_in t marks ≡ Some (get_or marks place unmarked).stores
  mark_in-at = mark_in-present t marks place at none_before-at

  rise-remove : ThreadsRise (remove marks place)
  rise-remove i j h within =
      let new = remove marks place in
      let thread = λ (m : Mark). m.thread in
      let shorter = length-remove marks place at.within in
      let below : (k : ℕ) → k < place → thread_at new k ≡ thread_at marks k = λ k to. ap thread (get_or-remove_below marks place unmarked k to at.within) in
      let above : (k : ℕ) → place ≤ k → thread_at new k ≡ thread_at marks (k + 1) = λ k from. ap thread (get_or-remove_above marks place unmarked k from at.within) in
      grind (arith, shorter, below i, above i, below j, above j, rise i j, rise i (j + 1), rise (i + 1) (j + 1))

  -- no other mark is the thread's
  none-left : NoneBefore t (remove marks place) (length (remove marks place))
  none-left k h same =
      let new = remove marks place in
      let thread = λ (m : Mark). m.thread in
      let shorter = length-remove marks place at.within in
      let below : k < place → thread_at new k ≡ thread_at marks k = λ to. ap thread (get_or-remove_below marks place unmarked k to at.within) in
      let above : place ≤ k → thread_at new k ≡ thread_at marks (k + 1) = λ from. ap thread (get_or-remove_above marks place unmarked k from at.within) in
      grind (arith, shorter, same, at.thread, at.within, below, above, rise k place, rise place (k + 1))

  pub changes-remove : ChangesMark t None marks (remove marks place)
  changes-remove = record { mark = mark_in-absent t (remove marks place) none-left; others = λ u other. mark_in-remove_other t marks place u at other }

module _ (m : Mark) (marks : List Mark) (place : ℕ) (rise : ThreadsRise marks) (at : IsPlaceOf m.thread marks place) where
  pub changes-set : ChangesMark m.thread (Some m.stores) marks (set marks place m)
  changes-set = changes-from_marks _ _ _ _ (mark_in-set marks m place at (none_before-at m.thread marks place rise at))

  rise-set : ThreadsRise (set marks place m)
  rise-set i j h within = grind (arith, common_steps, rise i j, rise i place, rise place j, at.within, at.thread)

  pub keeps-set : (limit : ℕ) → m.stores ≤ limit → KeepsMarks limit marks (set marks place m)
  keeps-set limit h = record { rising = λ _. rise-set; within = none_above-set limit marks place m h }

-- a thread that has a gap has no mark
pub mark_in-gap : (t : ℕ) (marks : List Mark) (place : ℕ) → IsGapFor t marks place → mark_in t marks ≡ None
mark_in-gap t marks place gap = mark_in-absent t marks (λ k h same. grind (arith, same, gap.smaller k, gap.greater k))

module _ (m : Mark) (marks : List Mark) (place : ℕ) (gap : IsGapFor m.thread marks place) where
  pub changes-insert : ChangesMark m.thread (Some m.stores) marks (insert marks place m)
  changes-insert = changes-from_marks _ _ _ _ (mark_in-insert marks m place (λ k h same. omega (arith, gap.smaller k h)))

  -- each mark of the new list is an old one below the gap, the new one in it, or an old one moved up by one
  rise-insert : ThreadsRise marks → ThreadsRise (insert marks place m)
  rise-insert rise i j h within =
      let new = insert marks place m in
      let thread = λ (x : Mark). x.thread in
      let longer = length-insert marks place m gap.within in
      let below : (k : ℕ) → k < place → thread_at new k ≡ thread_at marks k = λ k to. ap thread (get_or-insert_below marks place m unmarked k to gap.within) in
      let here : (k : ℕ) → k ≡ place → thread_at new k ≡ m.thread = λ k is. rw is (ap thread (get_or-insert_at marks place m unmarked gap.within)) in
      let above : (k : ℕ) → place < k → thread_at new k ≡ thread_at marks (k - 1) = λ k from. subst (λ q. thread_at new q ≡ thread_at marks (k - 1)) {x = k - 1 + 1} (omega arith) (ap thread (get_or-insert_above marks place m unmarked (k - 1) (omega arith) gap.within)) in
      grind (arith, below i, here i, above i, below j, here j, above j, rise i j, rise i (j - 1), rise (i - 1) (j - 1), gap.smaller i, gap.greater (j - 1))

  pub keeps-insert : (limit : ℕ) → m.stores ≤ limit → KeepsMarks limit marks (insert marks place m)
  keeps-insert limit h = record { rising = rise-insert; within = none_above-insert limit marks place m h }

pub keeps-remove : (limit t : ℕ) (marks : List Mark) (place : ℕ) → IsPlaceOf t marks place → KeepsMarks limit marks (remove marks place)
keeps-remove limit t marks place at = record { rising = λ rise. rise-remove t marks place rise at; within = none_above-remove limit marks place }
