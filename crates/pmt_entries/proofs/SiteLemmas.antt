-- Sites by what is known of all of them.
use Rattle.std.proofs.Common.{◌≡◌, ℕ, ◌-◌, Bool, true, false, List, [], ◌∷◌, length, Option, refl, sym, ap, subst, ◌∙◌}
use Rattle.std.specs.Prelude.{◌==◌, ◌&&◌, ◌||◌, map, nat_eq, nat_lt, not, slice_index}
use Rattle.pmt_laws.specs.Prelude.{filter, list_any, Recording, event}
use Rattle.std.specs.HashSet.{IsFromIterResult, contains}
use Rattle.std.specs.Set.{is_member}
use Rattle.std.proofs.lemmas.Bool.{and_from, eqb-true, false≢true}
use Rattle.pmt_entries.specs.Prelude.{PlaceRow, PlaceTable, misses, standing, same_place, Hint}
use Rattle.pmt_entries.specs.declared.sites.Facts.{Facts}
use Rattle.pmt_entries.specs.declared.sites.Site.{Site}
use Rattle.pmt_entries.specs.Sites.{AreAt, claimed_by, contrast_by, lone_by, scratch_by, site_by, first_line, is_all, is_touched, loses_one_address, sign_in, first_missed, has_contrast, is_among, is_claimed, is_lone_scratch, is_only_late, is_scratch, is_touched_at, misses_few, mixed_paths, scratch_lines, site_in, thread_in, unclaimed_in}
use Rattle.pmt_entries.proofs.SignLemmas.{AreSigns, sign-same}

-- These are the lines of the rows that are scratch by themselves.
abbrev pub AreLines : Recording → Facts → List PlaceRow → Type 0
AreLines T facts rows = IsFromIterResult nat_eq (map (first_line T) (filter (lone_by T facts.touched) rows)) facts.scratch

filter-same : (p q : PlaceRow → Bool) (rows : List PlaceRow) → ((r : PlaceRow) → p r ≡ q r) → filter p rows ≡ filter q rows
filter-same p q rows same = λ i. filter (λ r. same r i) rows

-- no row passes the test t, nor then p
pub filter-none : (p t : PlaceRow → Bool) (rows : List PlaceRow) → ((r : PlaceRow) → t r ≡ false → p r ≡ false) → list_any t rows ≡ false → filter p rows ≡ []
filter-none p t [] off none = refl
filter-none p t (r ∷ rows) off none = go (t r) refl none (filter-none p t rows off)
  where
    go : (b : Bool) → t r ≡ b → (b || list_any t rows) ≡ false → (list_any t rows ≡ false → filter p rows ≡ []) → filter p (r ∷ rows) ≡ []
    go true e some rest = absurd (false≢true (sym some))
    go false e none rest = rw (off r e) (rest none)

-- of each row that passes p both tell the same, if W holds where it passes t, as it does where some row does
map-same : (f g : PlaceRow → Site) (p t : PlaceRow → Bool) (W : Type 0) (rows : List PlaceRow) → (list_any t rows ≡ true → W) → ((r : PlaceRow) → p r ≡ true → (t r ≡ true → W) → f r ≡ g r) → map f (filter p rows) ≡ map g (filter p rows)
map-same f g p t W [] some same = refl
map-same f g p t W (r ∷ rows) some same = go (p r) refl (map-same f g p t W rows (λ e. some (later (t r) e)) same)
  where
    later : (b : Bool) → list_any t rows ≡ true → (b || list_any t rows) ≡ true
    later true e = refl
    later false e = e

    go : (b : Bool) → p r ≡ b → map f (filter p rows) ≡ map g (filter p rows) → map f (filter p (r ∷ rows)) ≡ map g (filter p (r ∷ rows))
    go true e rest = rw e (ap (λ y. y ∷ map f (filter p rows)) (same r e (λ x. some (ap (λ b. b || list_any t rows) x))) ∙ ap (λ ys. g r ∷ ys) rest)
    go false e rest = rw e rest

none-false : (a b c : Bool) → c ≡ false → (a && b && c) ≡ false
none-false true true c e = e
none-false true false c e = refl
none-false false b c e = refl

abbrev sited : PlaceRow → ℕ → List ℕ → Option ℕ → Bool → Bool → Bool → Site
sited r t fences sign contrast scratch claimed = record {
  row = r;
  first = first_missed r;
  thread = t;
  fence = slice_index fences (first_missed r - 1);
  sign = sign;
  has_contrast = contrast;
  is_scratch = scratch;
  is_claimed = claimed;
}

module _ (T : Recording) (frames : List (Option ℕ)) (table : PlaceTable) (hints : List Hint) (told waited : List ℕ) (claimed : List Bool) (facts : Facts) (mixed : List ℕ) (are_signs : AreSigns T facts.fences.items hints facts.signs)
    (are_paths : facts.has_paths ≡ not (length table.paths.items == 0)) (is_mixed : mixed ≡ mixed_paths table.paths.items) (are_mixed : AreAt T frames mixed facts.mixed)
    (are_touched : list_any (loses_one_address T) table.places.items ≡ true → AreAt T frames (filter (is_touched T told) told) facts.touched) (are_lines : AreLines T facts table.places.items)
    (are_unclaimed : list_any is_only_late table.places.items ≡ true → AreAt T frames (unclaimed_in waited claimed) facts.unclaimed) where
  abbrev rows : List PlaceRow
  rows = table.places.items

  mixed-same : (r : PlaceRow) → contains same_place facts.mixed r.place ≡ is_among T frames (mixed_paths table.paths.items) r.place
  mixed-same r = are_mixed.0 r.place ∙ ap (λ numbers. is_among T frames numbers r.place) is_mixed

  scratch-same : (r : PlaceRow) → scratch_by T facts r ≡ is_scratch T frames told rows r
  scratch-same r = go (list_any (loses_one_address T) rows) refl
    where
      l : ℕ
      l = first_line T r

      go : (b : Bool) → list_any (loses_one_address T) rows ≡ b → scratch_by T facts r ≡ is_scratch T frames told rows r
      go true some =
          let touched : (s : PlaceRow) → contains same_place facts.touched s.place ≡ is_touched_at T frames told s = λ s. (are_touched some).0 s.place in
          let lone : (s : PlaceRow) → lone_by T facts.touched s ≡ is_lone_scratch T frames told s = λ s. ap (λ b. loses_one_address T s && not b) (touched s) in
          ap (λ b. is_all (standing r) && not b && contains nat_eq facts.scratch l) (touched r)
          ∙ ap (λ b. is_all (standing r) && not (is_touched_at T frames told r) && b)
          (are_lines.0 l ∙ ap (λ rs. is_member nat_eq (map (first_line T) rs) l) (filter-same (lone_by T facts.touched) (is_lone_scratch T frames told) rows lone))
      go false none =
          let by : filter (lone_by T facts.touched) rows ≡ [] = filter-none (lone_by T facts.touched) (loses_one_address T) rows (λ s e. ap (λ b. b && not (contains same_place facts.touched s.place)) e) none in
          let of : filter (is_lone_scratch T frames told) rows ≡ [] = filter-none (is_lone_scratch T frames told) (loses_one_address T) rows (λ s e. ap (λ b. b && not (is_touched_at T frames told s)) e) none in
          none-false (is_all (standing r)) (not (contains same_place facts.touched r.place)) (contains nat_eq facts.scratch l) (are_lines.0 l ∙ ap (λ rs. is_member nat_eq (map (first_line T) rs) l) by)
          ∙ sym (none-false (is_all (standing r)) (not (is_touched_at T frames told r)) (is_member nat_eq (scratch_lines T frames told rows) l) (ap (λ rs. is_member nat_eq (map (first_line T) rs) l) of))

  claimed-same : (r : PlaceRow) → misses r ≡ true → (is_only_late r ≡ true → list_any is_only_late rows ≡ true) → claimed_by facts r ≡ is_claimed T frames waited claimed r
  claimed-same r missed known = go (r.lost == 0) refl
    where
      go : (b : Bool) → (r.lost == 0) ≡ b → (b && not (contains same_place facts.unclaimed r.place)) ≡ (b && not (is_among T frames (unclaimed_in waited claimed) r.place))
      go false e = refl
      go true e =
          let late : nat_lt 0 r.late ≡ true = subst (λ n. (nat_lt 0 n || nat_lt 0 r.late) ≡ true) (eqb-true r.lost 0 e) missed in
          ap not ((are_unclaimed (known (and_from _ _ e late))).0 r.place)

  site-same : (r : PlaceRow) → misses r ≡ true → (is_only_late r ≡ true → list_any is_only_late rows ≡ true) → site_by T facts r ≡ site_in T frames table hints told waited claimed facts.fences.items r
  site-same r missed known =
      let fences = facts.fences.items in
      let t = thread_in (event T (first_missed r)) in
      let sign = sign_in T fences hints r.place (first_missed r) in
      ap (λ s. sited r t fences s (contrast_by facts r) (scratch_by T facts r) (claimed_by facts r)) (sign-same T fences hints facts.signs r.place (first_missed r) are_signs)
      ∙ ap (λ b. sited r t fences sign (b && misses_few r && not (contains same_place facts.mixed r.place)) (scratch_by T facts r) (claimed_by facts r)) are_paths
      ∙ ap (λ b. sited r t fences sign (not (length table.paths.items == 0) && misses_few r && not b) (scratch_by T facts r) (claimed_by facts r)) (mixed-same r)
      ∙ ap (λ b. sited r t fences sign (has_contrast T frames table.paths.items r) b (claimed_by facts r)) (scratch-same r)
      ∙ ap (sited r t fences sign (has_contrast T frames table.paths.items r) (is_scratch T frames told rows r)) (claimed-same r missed known)

  pub sites-same : map (site_by T facts) (filter misses rows) ≡ map (site_in T frames table hints told waited claimed facts.fences.items) (filter misses rows)
  sites-same = map-same (site_by T facts) (site_in T frames table hints told waited claimed facts.fences.items) misses is_only_late (list_any is_only_late rows ≡ true) rows (λ e. e) site-same
