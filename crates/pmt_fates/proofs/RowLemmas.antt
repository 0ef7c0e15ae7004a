-- The rows of all places, with one more event, and the groups that they tell of.
use Rattle.pmt_fates.proofs.Prelude.{◌≡◌, ℕ, zero, suc, ◌-◌, ◌^◌, ◌<◌, ◌≤◌, ◌⊎◌, inl, inr, Bool, true, false, cond, List, [], ◌∷◌, ◌++◌, length, length-append, set, get_or, Option, None, Some, refl, sym, ap, subst, ◌∙◌, arith, if◌then◌else◌, reverse, slice_get, slice_index, unwrap_or, none-some, same_Some, slice_get-get_or, slice_get-map, reverse-append, count_by-le-length, sum_by_push, Event, Recording, event, find, option_map, IsGathered, get-last, gathered-join, gathered-new, groups-told, places-within, Origin, Keyed, origin_of, origin-exact, map-length, Fate, PlaceRow, SavedBefore, count_in, fate_at, find_in, find_last_in, is_fence_fate, is_flush_fate, is_in_time, is_missed, is_same, is_store_fate, origin_in, place_items, saved_at, Finds, IsThere, IsNew, same_place, AreSmall, else_first, else_saved, more, row_at, with_fate}
use Rattle.pmt_fates.specs.declared.fate.Fate.TheVariants as fate
use Rattle.pmt_fates.proofs.PlaceLemmas.{numbers, numbers-more}
use Rattle.pmt_fates.proofs.RowPlaceLemmas.{same-itself}

find-more : (P : ℕ → Bool) (xs : List ℕ) (i : ℕ) → else_first (P i) i (find P xs) ≡ find P (xs ++ i ∷ [])
find-more P [] i = go (P i)
  where
    go : (b : Bool) → else_first b i None ≡ cond b (Some i) None
    go true = refl
    go false = refl
find-more P (x ∷ xs) i = go (P x) (find-more P xs i)
  where
    go : (b : Bool) → else_first (P i) i (find P xs) ≡ find P (xs ++ i ∷ []) → else_first (P i) i (cond b (Some x) (find P xs)) ≡ cond b (Some x) (find P (xs ++ i ∷ []))
    go true later = refl
    go false later = later

last-more : (P : ℕ → Bool) (xs : List ℕ) (i : ℕ) → (if P i then Some i else find P (reverse xs)) ≡ find P (reverse (xs ++ i ∷ []))
last-more P xs i = sym (ap (find P) (reverse-append xs (i ∷ [])))

saved-more : (saved : ℕ → Option SavedBefore) (is : Bool) (i : ℕ) (first : Option ℕ) → else_saved saved is i first (saved_at saved first) ≡ saved_at saved (else_first is i first)
saved-more saved is i (Some j) = refl
saved-more saved true i None = refl
saved-more saved false i None = refl

set-last : {A : Type 0} (xs : List A) (x y : A) → set (xs ++ x ∷ []) (length xs) y ≡ xs ++ y ∷ []
set-last [] x y = refl
set-last (z ∷ xs) x y = ap (λ zs. z ∷ zs) (set-last xs x y)

-- two places are the same or not
place-dec : (k q : Origin) → (k ≡ q) ⊎ (k ≡ q → ⊥)
place-dec k q = go (same_place k q) refl
  where
    go : (b : Bool) → same_place k q ≡ b → (k ≡ q) ⊎ (k ≡ q → ⊥)
    go true is = inl (origin-exact k q is)
    go false is = inr (λ e. let yes_same : same_place k q ≡ true = subst (λ z. same_place k z ≡ true) e (same-itself k) in cc)

-- the item is of the row's place
abbrev pub IsOf : PlaceRow → Keyed Origin → Type 0
IsOf r x = x.key ≡ r.place

abbrev pub place_of : PlaceRow → Origin
place_of r = r.place

keyed : (r s : PlaceRow) (x y : Keyed Origin) → IsOf r y → IsOf s x → place_of r ≡ place_of s → IsOf r x
keyed r s x y in_r in_s e = in_s ∙ sym e

apart : (r s : PlaceRow) (x : Keyed Origin) → IsOf r x → IsOf s x → place_of r ≡ place_of s
apart r s x in_r in_s = sym in_r ∙ in_s

module _ (fates : List Fate) (saved : ℕ → Option SavedBefore) where
  -- the row of a place with this first event and these events
  abbrev pub row_of : Origin → ℕ → List ℕ → PlaceRow
  row_of place first members = record {
    place = place;
    first = first;
    stores = count_in fates is_store_fate members;
    lost = count_in fates (is_same fate.Lost) members;
    ignored = count_in fates (is_same fate.Ignored) members;
    late = count_in fates (is_same fate.Late) members;
    in_time = count_in fates is_in_time members;
    left = count_in fates (is_same fate.Left) members;
    flushes = count_in fates is_flush_fate members;
    idle_flushes = count_in fates (is_same fate.IdleFlush) members;
    fences = count_in fates is_fence_fate members;
    idle_fences = count_in fates (is_same fate.IdleFence) members;
    first_lost = find_in fates (is_same fate.Lost) members;
    first_late = find_in fates (is_same fate.Late) members;
    last_missed = find_last_in fates is_missed members;
    first_left = find_in fates (is_same fate.Left) members;
    saved_before = saved_at saved (find_in fates (is_same fate.Left) members);
  }

  -- one more event at the end
  row-more : (place : Origin) (first i : ℕ) (members : List ℕ) → with_fate saved i (fate_at fates i) (row_of place first members) ≡ row_of place first (members ++ i ∷ [])
  row-more place first i members =
      let one : (is : Fate → Bool) → more (is (fate_at fates i)) (count_in fates is members) ≡ count_in fates is (members ++ i ∷ []) =
      λ is. let e = sum_by_push (λ (k : ℕ). cond (is (fate_at fates k)) 1 0) members i in omega (arith, e) in
      let first_one : (is : Fate → Bool) → else_first (is (fate_at fates i)) i (find_in fates is members) ≡ find_in fates is (members ++ i ∷ []) = λ is. find-more (λ k. is (fate_at fates k)) members i in
      let kept = saved-more saved (is_same fate.Left (fate_at fates i)) i (find_in fates (is_same fate.Left) members) ∙ ap (saved_at saved) (first_one (is_same fate.Left)) in
      rw (one is_store_fate, one (is_same fate.Lost), one (is_same fate.Ignored), one (is_same fate.Late), one is_in_time, one (is_same fate.Left), one is_flush_fate, one (is_same fate.IdleFlush), one is_fence_fate, one (is_same fate.IdleFence), first_one (is_same fate.Lost), first_one (is_same fate.Late), last-more (λ k. is_missed (fate_at fates k)) members i, first_one (is_same fate.Left), kept) refl

  -- the row tells of these items
  abbrev pub TellsOf : PlaceRow → List (Keyed Origin) → Type 0
  TellsOf r xs = (1 ≤ length xs) × (r ≡ row_of r.place (slice_index (numbers xs) 0) (numbers xs))

  -- the rows of the first items, and where they stand
  abbrev pub AreSoFar : List (Keyed Origin) → List PlaceRow → (Origin → Option ℕ) → Type 0
  AreSoFar xs rows find = IsGathered IsOf TellsOf place_of xs rows find

  -- no item
  pub far-start : (find : Origin → Option ℕ) → ((k : Origin) → find k ≡ None) → AreSoFar [] [] find
  far-start find none = record {
    groups = refl;
    places = record { found = λ k p e. let never : None ≡ Some p = sym (none k) ∙ e in cc; placed = λ k p e. absurd (none-some k e) };
  }

  -- a row that is found is in the list
  pub finds-within : (xs : List (Keyed Origin)) (rows all : List PlaceRow) (old new : Origin → Option ℕ) (k : Origin) (number p : ℕ) → Finds k number rows old all new p → AreSoFar xs rows old → p < length all
  finds-within xs rows all old new k number p (IsThere there is kept) s = rw is (places-within place_of rows old k p s.places there)
  finds-within xs rows all old new k number p (IsNew none end is added others) s = rw is (omega (arith, end, length-append rows (row_at k number ∷ [])))

  pub finds-at : (xs : List (Keyed Origin)) (rows all : List PlaceRow) (old new : Origin → Option ℕ) (k : Origin) (number p : ℕ) (r : PlaceRow) → Finds k number rows old all new p → AreSoFar xs rows old →
      r ≡ get_or all p r → slice_get all p ≡ Some r
  finds-at xs rows all old new k number p r found s is = slice_get-get_or all p r (finds-within xs rows all old new k number p found s) ∙ ap Some (sym is)

  -- and has room for one more event
  small-of : (place : Origin) (first : ℕ) (members : List ℕ) → length members < 2 ^ 64 - 1 → AreSmall (row_of place first members)
  small-of place first members few =
      let upto : (is : Fate → Bool) → count_in fates is members < 2 ^ 64 - 1 = λ is. let e = count_by-le-length (λ (i : ℕ). is (fate_at fates i)) members in omega (arith, e) in
      record {
        stores = upto is_store_fate;
        lost = upto (is_same fate.Lost);
        ignored = upto (is_same fate.Ignored);
        late = upto (is_same fate.Late);
        in_time = upto is_in_time;
        left = upto (is_same fate.Left);
        flushes = upto is_flush_fate;
        idle_flushes = upto (is_same fate.IdleFlush);
        fences = upto is_fence_fate;
        idle_fences = upto (is_same fate.IdleFence);
      }

  pub finds-small : (xs : List (Keyed Origin)) (rows all : List PlaceRow) (old new : Origin → Option ℕ) (k : Origin) (number p : ℕ) (r : PlaceRow) → Finds k number rows old all new p → AreSoFar xs rows old →
      length xs < 2 ^ 64 - 1 → slice_get all p ≡ Some r → AreSmall r
  finds-small xs rows all old new k number p r (IsThere there is kept) s few at =
      let told = groups-told IsOf TellsOf xs rows p r s.groups (ap (λ rs. slice_get rs p) (sym is) ∙ at) in
      subst AreSmall (sym (told.1).1) (small-of r.place (slice_index (numbers told.0) 0) (numbers told.0) (omega (arith, told.2, map-length (λ (y : Keyed Origin). y.number) told.0)))
  finds-small xs rows all old new k number p r (IsNew none end is added others) s few at =
      let last : row_at k number ≡ r = same_Some (row_at k number) r (sym (get-last rows (row_at k number)) ∙ ap (slice_get (rows ++ row_at k number ∷ [])) (sym end) ∙ ap (λ rs. slice_get rs p) (sym is) ∙ at) in
      subst AreSmall last (small-of k number [] (omega arith))

  -- one more item, whose event is put into the row that was found
  pub far-more : (xs : List (Keyed Origin)) (rows all : List PlaceRow) (old new : Origin → Option ℕ) (x : Keyed Origin) (p : ℕ) (r f : PlaceRow) → Finds x.key x.number rows old all new p → AreSoFar xs rows old →
      slice_get all p ≡ Some r → f ≡ with_fate saved x.number (fate_at fates x.number) r → AreSoFar (xs ++ x ∷ []) (set all p f) new
  far-more xs rows all old new x p r f (IsThere there is kept) s at made =
      let here : slice_get rows p ≡ Some r = ap (λ rs. slice_get rs p) (sym is) ∙ at in
      let own : x.key ≡ r.place = same_Some x.key r.place (sym (s.places.found x.key p there) ∙ slice_get-map place_of rows p ∙ ap (option_map place_of) here) in
      let same : f.place ≡ r.place = ap place_of made in
      subst (λ rs. AreSoFar (xs ++ x ∷ []) (set rs p f) new) (sym is)
      (gathered-join IsOf TellsOf place_of keyed apart xs rows old new x r p r f s own (ap old (sym own) ∙ there) here same (λ y e. e ∙ sym same) (λ y e. e ∙ same) (λ ms told. joined ms told) kept)
    where
      joined : (ms : List (Keyed Origin)) → TellsOf r ms → TellsOf f (ms ++ x ∷ [])
      joined ms (some, told) = (
        omega (arith, length-append ms (x ∷ [])),
        made ∙ ap (with_fate saved x.number (fate_at fates x.number)) told ∙ row-more r.place (slice_index (numbers ms) 0) x.number (numbers ms)
            ∙ ap (λ n. row_of r.place n (numbers ms ++ x.number ∷ [])) (first ms some)
            ∙ ap (λ ns. row_of r.place (slice_index ns 0) ns) (sym (numbers-more ms x))
            ∙ ap (λ k. row_of k (slice_index (numbers (ms ++ x ∷ [])) 0) (numbers (ms ++ x ∷ []))) (sym (ap place_of made)),
      )
        where
          first : (ms : List (Keyed Origin)) → 1 ≤ length ms → slice_index (numbers ms) 0 ≡ slice_index (numbers ms ++ x.number ∷ []) 0
          first [] none = absurd (omega arith)
          first (y ∷ ms) some = refl
  far-more xs rows all old new x p r f (IsNew none end is added others) s at made =
      let last : row_at x.key x.number ≡ r = same_Some (row_at x.key x.number) r (sym (get-last rows (row_at x.key x.number)) ∙ ap (slice_get (rows ++ row_at x.key x.number ∷ [])) (sym end) ∙ ap (λ rs. slice_get rs p) (sym is) ∙ at) in
      let whole : f ≡ row_of x.key x.number (x.number ∷ []) = made ∙ ap (with_fate saved x.number (fate_at fates x.number)) (sym last) ∙ row-more x.key x.number x.number [] in
      let key : f.place ≡ x.key = ap place_of whole in
      let put : set all p f ≡ rows ++ f ∷ [] = ap (λ rs. set rs p f) is ∙ ap (λ n. set (rows ++ row_at x.key x.number ∷ []) n f) end ∙ set-last rows (row_at x.key x.number) f in
      subst (λ rs. AreSoFar (xs ++ x ∷ []) rs new) (sym put)
      (gathered-new IsOf TellsOf place_of keyed apart xs rows old new x f s (place-dec f.place) (sym key) (omega arith, whole ∙ ap (λ k. row_of k x.number (x.number ∷ [])) (sym key)) (ap old key ∙ none) (ap new key ∙ added ∙ ap Some end)
      (λ q other. others q (λ e. other (key ∙ e))))

-- the event after the first n ones, with its place
abbrev item : Origin → ℕ → Keyed Origin
item key number = record { key = key; number = number }

abbrev pub item_at : Recording → List (Option ℕ) → ℕ → Keyed Origin
item_at T labels n = record { key = origin_in labels (suc n) (event T (suc n)); number = suc n }

pub items-length : (T : Recording) (labels : List (Option ℕ)) (n : ℕ) → length (place_items T labels n) ≡ n
items-length T labels zero = refl
items-length T labels (suc n) = length-append (place_items T labels n) (item_at T labels n ∷ []) ∙ omega (arith, items-length T labels n)

-- that event as it is read
pub item-is : (T : Recording) (labels : List (Option ℕ)) (n number : ℕ) (e : Event) (key : Origin) → event T (suc n) ≡ Some e → number ≡ suc n → key ≡ origin_of labels number e.thread → item_at T labels n ≡ item key number
item-is T labels n number e key here same own =
    let value : key ≡ origin_in labels (suc n) (event T (suc n)) = own ∙ ap (λ m. origin_of labels m e.thread) same ∙ sym (ap (origin_in labels (suc n)) here) in
    sym (ap (λ k. item k number) value ∙ ap (item (origin_in labels (suc n) (event T (suc n)))) same)

-- what becomes of it
pub fate-is : (fates : List Fate) (n number : ℕ) (d : Fate) → n < length fates → number ≡ suc n → get_or fates n d ≡ fate_at fates number
fate-is fates n number d within same = sym (ap (fate_at fates) same ∙ ap (λ o. unwrap_or o fate.Claim) (slice_get-get_or fates n d within))
