-- The two assertions, line by line.
use Rattle.std.proofs.Common.{◌≡◌, ◌≢◌, ℕ, ◌<◌, ◌≤◌, ◌⊎◌, inl, inr, List, Option, Some, None, refl, sym, ap, subst, ◌∙◌, arith}
use Rattle.std.specs.Prelude.{◌↔◌, slice_index}
use Rattle.std.proofs.lemmas.Bool.{cases_lt, cases_eq}
use Rattle.pmt_laws.specs.Prelude.{Span, line_of, Stores, Recording, IsTrace, IsAct, history, InSpan, PersistPasses, OrderedPasses}
use Rattle.pmt_safety.specs.Safety.{safe_store_at}
use Rattle.pmt_rows.specs.Known.{AreLinkedAt}
use Rattle.pmt_tables.specs.Lasts.{last_number}
use Rattle.pmt_sweep.specs.Judged.{IsByteSafe, IsNoLaterThan, IsLatestBut, AreSafeFrom, EachIn, IsLineBefore, IsLineOrdered, IsLineSafe, IsLineSafeFrom, IsLineTold, IsPendingApart, no_place}
use Rattle.pmt_sweep.proofs.JudgedLemmas.{persist_by_bytes, ordered_by_links}
use Rattle.pmt_sweep.specs.declared.latest.Latest.{Latest}
use Rattle.pmt_sweep.proofs.LineLemmas.{IsLineBare}
use Rattle.pmt_sweep.proofs.EntryLemmas.{last-at, entry-after, entries-rise}

pub persist-by_lines : (T : Recording) (n : ℕ) (A : Span) → IsTrace T → ((l : ℕ) → IsLineSafe T n A l) ↔ PersistPasses (history T n) A
persist-by_lines T n A trace = (
  λ each. (persist_by_bytes T n A trace).1 (λ b own. each (line_of T.format b) b own refl),
  λ passes l b own here. (persist_by_bytes T n A trace).0 passes b own,
)

pub ordered-by_lines : (T : Recording) (n : ℕ) (entries : List ℕ) (A B : Span) → IsTrace T → AreLinkedAt T n entries → ((l : ℕ) → IsLineOrdered T n entries A B l) ↔ OrderedPasses (history T n) A B
ordered-by_lines T n entries A B trace linked = (
  λ each. (ordered_by_links T n A B entries trace linked).1 (λ a b own other first second. each (line_of T.format b) b other refl second a own first),
  λ passes l b other here second a own first. (ordered_by_links T n A B entries trace linked).0 passes a b own other first second,
)

-- a line without stores to the second range asks nothing
pub bare-ordered : (T : Recording) (n l : ℕ) (entries : List ℕ) (A B : Span) → IsLineBare T n B l → IsLineOrdered T n entries A B l
bare-ordered T n l entries A B bare b other here some = absurd (omega (arith, bare b other here, some))

module _ (T : Recording) (n l : ℕ) (entries : List ℕ) (A B : Span) (trace : IsTrace T) (linked : AreLinkedAt T n entries) where
  -- the last store to a byte of another line is safe by a place that comes after all of them
  told-before : (a k place store : ℕ) → line_of T.format a ≡ k → InSpan A a → 0 < last_number T n a → IsLineSafeFrom T n entries A k place → place ≤ store → store < no_place → IsByteSafe T n a × (slice_index entries (last_number T n a) ≤ store)
  told-before a k place store here own some it le small = go (cases_lt (safe_store_at T k n) it.newest)
    where
      go : (safe_store_at T k n < it.newest) ⊎ (it.newest ≤ safe_store_at T k n) → IsByteSafe T n a × (slice_index entries (last_number T n a) ≤ store)
      go (inl pending) = absurd (omega (arith, it.told.pending pending, le, small))
      go (inr safe) =
          let r = it.reached in
          let first = last-at T n a trace some in
          let last = last-at T n r.0 trace (omega (arith, r.3, it.some)) in
          let at : last_number T n a ≤ it.newest = it.greatest a own here in
          let by : last_number T n r.0 ≤ safe_store_at T (line_of T.format a) n = omega (arith, safe, r.3, ap (λ m. safe_store_at T m n) here) in
          let rise = entries-rise T n (line_of T.format a) entries linked (last_number T n a) (last_number T n r.0) first.what last.what first.is_store (subst (λ m. IsAct T (last_number T n r.0) (Stores m last.what)) (r.2 ∙ sym here) last.is_store) (omega (arith, at, r.3)) last.by_now by in
          (omega (arith, at, r.3, by), omega (arith, rise, it.told.safe safe, ap (slice_index entries) r.3, le))

  -- no store is safe before the first event
  told-later : (k place : ℕ) → IsLineSafeFrom T n entries A k place → 0 < place
  told-later k place it = elim (cases_lt (safe_store_at T k n) it.newest) [
    | inl pending ↦ omega (arith, it.told.pending pending)
    | inr safe ↦
        let r = it.reached in
        let last = last-at T n r.0 trace (omega (arith, r.3, it.some)) in
        let is_store : IsAct T (last_number T n r.0) (Stores k last.what) = subst (λ m. IsAct T (last_number T n r.0) (Stores m last.what)) r.2 last.is_store in
        let after = entry-after T n k entries linked (last_number T n r.0) last.what is_store last.by_now (omega (arith, r.3, safe)) in
        omega (arith, after, r.3, ap (slice_index entries) r.3, it.told.safe safe, it.some)
  ]

  -- where no line of the first range has such a place, none of its bytes is stored
  pub ordered-none : (x : Latest) → AreSafeFrom T n entries A B x → x.first ≡ 0 → OrderedPasses (history T n) A B
  ordered-none x is none = (ordered-by_lines T n entries A B trace linked).0 (λ l b other here second a own first. absurd (go a own first b other is.all))
    where
      never : (l p : ℕ) → is.told l ≡ Some p → 0 < p → ⊥
      never l p e some = elim (is.latest.all l p e) [ inl own_line ↦ omega (arith, some, own_line.1, none) | inr other ↦ omega (arith, some, other, is.latest.falling, none) ]

      go : (a : ℕ) → InSpan A a → 0 < last_number T n a → (b : ℕ) → InSpan B b → IsPendingApart T B is.told ⊎ ((l : ℕ) → IsLineTold T n entries A l (is.told l)) → ⊥
      go a own first b other (inl pending) = let p = pending b other in never p.0 no_place p.2 (omega arith)
      go a own first b other (inr each) = told (is.told (line_of T.format a)) refl
        where
          told : (o : Option ℕ) → is.told (line_of T.format a) ≡ o → ⊥
          told None e = let bare = subst (IsLineTold T n entries A (line_of T.format a)) e (each (line_of T.format a)) in omega (arith, bare a own refl, first)
          told (Some p) e = never (line_of T.format a) p e (told-later (line_of T.format a) p (is.some (line_of T.format a) p e))

  -- where the oldest last store to the second range's bytes comes after all places of other lines, and after all last stores of the line
  pub ordered-from : (x : Latest) (others oldest : ℕ) → (is : AreSafeFrom T n entries A B x) → IsLatestBut is.told l others → EachIn T B l (λ b. 0 < last_number T n b → (0 < oldest) × (oldest ≤ last_number T n b)) →
      others ≤ oldest → IsLineBefore T n A l oldest → IsLineOrdered T n entries A B l
  ordered-from x others oldest is but least le before b other here second a own first = go (cases_eq (line_of T.format a) l)
    where
      go : (line_of T.format a ≡ l) ⊎ (line_of T.format a ≡ l → ⊥) → IsNoLaterThan T n entries a b
      go (inl same) = inl (same ∙ sym here, omega (arith, before a own same, (least b other here second).1))
      go (inr apart) = elim is.all [
        | inl pending ↦
            let p = pending b other in
            let most = but.all p.0 no_place p.2 (λ same. p.1 (same ∙ sym here)) in
            absurd (omega (arith, most, le, (least b other here second).1, (last-at T n b trace second).small))
        | inr each ↦ told (is.told (line_of T.format a)) refl (each (line_of T.format a))
      ]
        where
          told : (o : Option ℕ) → is.told (line_of T.format a) ≡ o → IsLineTold T n entries A (line_of T.format a) (is.told (line_of T.format a)) → IsNoLaterThan T n entries a b
          told None e it = let bare = subst (IsLineTold T n entries A (line_of T.format a)) e it in absurd (omega (arith, bare a own refl, first))
          told (Some p) e it =
              let safe = subst (IsLineTold T n entries A (line_of T.format a)) e it in
              let most = but.all (line_of T.format a) p e apart in
              inr (told-before a (line_of T.format a) p (last_number T n b) refl own first safe (omega (arith, most, le, (least b other here second).1)) (last-at T n b trace second).small)

  -- and only there
  pub ordered-others : (x : Latest) (others oldest : ℕ) → (is : AreSafeFrom T n entries A B x) → IsLatestBut is.told l others → (b : ℕ) × InSpan B b × (line_of T.format b ≡ l) × (last_number T n b ≡ oldest) → 0 < oldest →
      IsLineOrdered T n entries A B l → others ≤ oldest
  ordered-others x others oldest is but y some ordered = go but.reached
    where
      go : (others ≡ 0) ⊎ ((k : ℕ) × (k ≢ l) × (is.told k ≡ Some others)) → others ≤ oldest
      go (inl none) = omega (arith, none)
      go (inr z) =
          let it = is.some z.0 others z.2 in
          let r = it.reached in
          elim (ordered y.0 y.1 y.2 (omega (arith, y.3, some)) r.0 r.1 (omega (arith, r.3, it.some))) [
            | inl same ↦ absurd (z.1 (sym r.2 ∙ same.0 ∙ y.2))
            | inr safe ↦
                let now : it.newest ≤ safe_store_at T z.0 n = omega (arith, safe.0, r.3, ap (λ m. safe_store_at T m n) r.2) in
                omega (arith, it.told.safe now, safe.1, y.3, ap (slice_index entries) r.3)
          ]

  pub ordered-before : (oldest : ℕ) → (b : ℕ) × InSpan B b × (line_of T.format b ≡ l) × (last_number T n b ≡ oldest) → 0 < oldest → IsLineOrdered T n entries A B l → IsLineBefore T n A l oldest
  ordered-before oldest y some ordered a own here = go (cases_lt 0 (last_number T n a))
    where
      go : (0 < last_number T n a) ⊎ (last_number T n a ≤ 0) → last_number T n a ≤ oldest
      go (inr none) = omega (arith, none)
      go (inl first) = elim (ordered y.0 y.1 y.2 (omega (arith, y.3, some)) a own first) [
        | inl same ↦ omega (arith, same.1, y.3)
        | inr safe ↦
            let at = last-at T n a trace first in
            let after = entry-after T n (line_of T.format a) entries linked (last_number T n a) at.what at.is_store at.by_now safe.0 in
            omega (arith, after, safe.1, y.3)
      ]
