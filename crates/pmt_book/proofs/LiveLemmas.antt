-- What is known of lines: one more line, and what an act does.
use Rattle.std.proofs.Common.{◌≡◌, ◌≢◌, ℕ, suc, ◌<◌, ◌≤◌, Bool, true, false, List, [], ◌∷◌, ◌++◌, length, max, map, get_or, refl, sym, ap, subst, ◌∙◌, eqb-true, arith}
use Rattle.std.specs.Prelude.{◌==◌, if◌then◌else◌, All}
use Rattle.std.proofs.lemmas.List.{length-map, map-append}
use Rattle.std.proofs.lemmas.Option.{get_or_from_slice_get, slice_get-get_or, slice_get_within}
use Rattle.pmt_laws.specs.Prelude.{Act, Stores, Flushes, Clflushes, Fences, Asserts, count, Written, with_line, front}
use Rattle.pmt_laws.specs.Passing.{Flushed, open_flushes, most}
use Rattle.pmt_laws.proofs.PassLemmas.{fence_raises}
use Rattle.pmt_rows.specs.declared.rows.Rows.{Rows}
use Rattle.pmt_rows.specs.declared.open.OpenFlush.{OpenFlush}
use Rattle.pmt_rows.specs.Known.{raised, AreRows, row_by}
use Rattle.pmt_tables.specs.Slots.{IsSlotOf}
use Rattle.pmt_rows.specs.Waiting.{Waiting, waiting_by, list_at, raise_all, waits_all}
use Rattle.pmt_rows.proofs.RowLemmas.{rows-same}
use Rattle.pmt_rows.proofs.WaitingLemmas.{raise-max}
use Rattle.pmt_rows.proofs.OpenLemmas.{waits-on}
use Rattle.pmt_book.specs.declared.live.LiveLines.{LiveLines}
use Rattle.pmt_book.specs.Live.{IsLiveWith}

-- a line has no more stores than there are acts
pub count-le-length : (l : ℕ) (h : List Act) → count l h ≤ length h
count-le-length l [] = omega arith
count-le-length l (Stores k w ∷ h) = go (k == l) (count-le-length l h)
  where
    go : (b : Bool) → count l h ≤ length h → (if b then suc (count l h) else count l h) ≤ suc (length h)
    go true le = omega arith
    go false le = omega arith
count-le-length l (a ∷ h) = omega (arith, count-le-length l h)

-- rows of counts, however they are said
counts-same : (lines : List ℕ) (h : List Act) (last safe flush : ℕ → ℕ) (r : Rows) → ((l : ℕ) → count l h ≡ last l) → ((l : ℕ) → front l h ≡ safe l) → ((l : ℕ) → 0 ≡ flush l) → AreRows lines last safe flush r →
    AreRows lines (λ l. count l h) (λ l. front l h) (λ l. 0) r
counts-same lines h last safe flush r counts fronts none is = rows-same lines last safe flush (λ l. count l h) (λ l. front l h) (λ l. 0) r (λ l. rw (counts l, fronts l, sym (none l)) refl) is

-- ---- The front after a fence

abbrev as_waiting : Flushed → Waiting
as_waiting f = record { number = f.number; line = f.line; store = f.stores }

waits-open : (t : ℕ) (h : List Act) → waiting_by count t h ≡ map as_waiting (open_flushes t h)
waits-open t [] = refl
waits-open t (Flushes u k ∷ h) = go (u == t) (waits-open t h)
  where
    go : (b : Bool) → waiting_by count t h ≡ map as_waiting (open_flushes t h) →
        (if b then waiting_by count t h ++ record { number = suc (length h); line = k; store = count k h } ∷ [] else waiting_by count t h)
        ≡ map as_waiting (if b then open_flushes t h ++ record { number = suc (length h); line = k; stores = count k h } ∷ [] else open_flushes t h)
    go true ih =
        ap (λ ws. ws ++ record { number = suc (length h); line = k; store = count k h } ∷ []) ih ∙ sym (map-append as_waiting (open_flushes t h) (record { number = suc (length h); line = k; stores = count k h } ∷ []))
    go false ih = ih
waits-open t (Fences u ∷ h) = go (u == t) (waits-open t h)
  where
    go : (b : Bool) → waiting_by count t h ≡ map as_waiting (open_flushes t h) → (if b then [] else waiting_by count t h) ≡ map as_waiting (if b then [] else open_flushes t h)
    go true ih = refl
    go false ih = ih
waits-open t (a ∷ h) = waits-open t h

raise-most : (flushes : List Flushed) (safe : ℕ → ℕ) (l : ℕ) → raise_all (map as_waiting flushes) safe l ≡ max (safe l) (most l flushes)
raise-most [] safe l = omega arith
raise-most (f ∷ flushes) safe l = raise-max (as_waiting f) (raise_all (map as_waiting flushes) safe) l ∙ go (f.line == l) refl (raise-most flushes safe l)
  where
    go : (b : Bool) → (f.line == l) ≡ b → raise_all (map as_waiting flushes) safe l ≡ max (safe l) (most l flushes) →
        (if b then max (raise_all (map as_waiting flushes) safe f.line) f.stores else raise_all (map as_waiting flushes) safe l) ≡ max (safe l) (if b then max f.stores (most l flushes) else most l flushes)
    go true own ih = let same = ap (raise_all (map as_waiting flushes) safe) (eqb-true f.line l own) in omega (arith, same, ih)
    go false other ih = ih

front-fenced : (t l : ℕ) (h : List Act) → front l (Fences t ∷ h) ≡ raise_all (waiting_by count t h) (λ k. front k h) l
front-fenced t l h = fence_raises t l h ∙ sym (raise-most (open_flushes t h) (λ k. front k h) l) ∙ ap (λ ws. raise_all ws (λ k. front k h) l) (sym (waits-open t h))

-- ---- What the calls leave

pub live-new : (r : Rows) → AreRows [] (λ l. 0) (λ l. 0) (λ l. 0) r → (live : LiveLines) → live.rows ≡ r → live.waiting ≡ [] → IsLiveWith [] [] live
live-new r is live rows none = record { rows = rw rows is; waiting = rw none ((waits-on count).none []) }

module _ (lines : List ℕ) (h : List Act) (live : LiveLines) (is : IsLiveWith lines h live) where
  -- an assertion changes nothing
  pub live-assert : IsLiveWith lines (Asserts ∷ h) live
  live-assert = record { rows = is.rows; waiting = (waits-on count).others lines h live.waiting Asserts (λ t l e. cc) (λ t e. cc) is.waiting }

  pub live-placed : (l : ℕ) (new : LiveLines) → AreRows (with_line l lines) (λ k. count k h) (λ k. front k h) (λ k. 0) new.rows → new.waiting ≡ live.waiting → IsLiveWith (with_line l lines) h new
  live-placed l new rows same = record { rows = rows; waiting = rw same ((waits-on count).line l lines h live.waiting is.waiting) }

  pub live-store : (l number : ℕ) (w : Written) (new : LiveLines) → number ≡ suc (count l h) → AreRows lines (raised l number (λ k. count k h)) (λ k. front k h) (λ k. 0) new.rows → new.waiting ≡ live.waiting →
      IsLiveWith lines (Stores l w ∷ h) new
  live-store l number w new counted rows same = record {
    rows = counts-same lines (Stores l w ∷ h) (raised l number (λ k. count k h)) (λ k. front k h) (λ k. 0) new.rows (λ k. go k (l == k) refl) (λ k. refl) (λ k. refl) rows;
    waiting = rw same ((waits-on count).others lines h live.waiting (Stores l w) (λ t k e. cc) (λ t e. cc) is.waiting);
  }
    where
      go : (k : ℕ) (b : Bool) → (l == k) ≡ b → (if b then suc (count k h) else count k h) ≡ (if b then number else count k h)
      go k true own = let here = ap (λ j. count j h) (eqb-true l k own) in omega (arith, here, counted)
      go k false other = refl

  pub live-clflush : (l : ℕ) (new : LiveLines) → AreRows lines (λ k. count k h) (raised l (count l h) (λ k. front k h)) (raised l 0 (λ k. 0)) new.rows → new.waiting ≡ live.waiting → IsLiveWith lines (Clflushes l ∷ h) new
  live-clflush l new rows same = record {
    rows = counts-same lines (Clflushes l ∷ h) (λ k. count k h) (raised l (count l h) (λ k. front k h)) (raised l 0 (λ k. 0)) new.rows (λ k. refl) (λ k. go k (l == k) refl) (λ k. none (l == k)) rows;
    waiting = rw same ((waits-on count).others lines h live.waiting (Clflushes l) (λ t k e. cc) (λ t e. cc) is.waiting);
  }
    where
      go : (k : ℕ) (b : Bool) → (l == k) ≡ b → (if b then count k h else front k h) ≡ (if b then count l h else front k h)
      go k true own = ap (λ j. count j h) (sym (eqb-true l k own))
      go k false other = refl

      none : (b : Bool) → ◌≡◌ {A = ℕ} 0 (if b then 0 else 0)
      none true = refl
      none false = refl

  pub live-flush : (t l p : ℕ) (f : OpenFlush) (new : LiveLines) → f.number ≡ suc (length h) → f.slot ≡ p → f.store ≡ count l h → IsSlotOf l p lines → new.rows ≡ live.rows →
      (list_at t new.waiting ≡ list_at t live.waiting ++ f ∷ []) →
      ((u : ℕ) → u ≢ t → list_at u new.waiting ≡ list_at u live.waiting) → IsLiveWith lines (Flushes t l ∷ h) new
  live-flush t l p f new number slot stores at same own others = record {
    rows = rw same is.rows;
    waiting =
        (waits-on count).flush lines t l h f live.waiting new.waiting (omega (arith, slot, slice_get_within lines p l at)) (ap (λ i. get_or lines i 0) slot ∙ get_or_from_slice_get lines p l 0 at) number stores own others
        is.waiting;
  }

  pub live-fence : (t : ℕ) (flushes : List OpenFlush) (new : LiveLines) → flushes ≡ list_at t live.waiting → AreRows lines (λ k. count k h) (raise_all (waits_all lines flushes) (λ k. front k h)) (λ k. 0) new.rows →
      list_at t new.waiting ≡ [] → ((u : ℕ) → u ≢ t → list_at u new.waiting ≡ list_at u live.waiting) → IsLiveWith lines (Fences t ∷ h) new
  live-fence t flushes new of rows own others =
      let waited : waits_all lines flushes ≡ waiting_by count t h = ap (waits_all lines) of ∙ is.waiting.each t in
      record {
        rows = counts-same lines (Fences t ∷ h) (λ k. count k h) (raise_all (waits_all lines flushes) (λ k. front k h)) (λ k. 0) new.rows (λ k. refl)
            (λ k. front-fenced t k h ∙ ap (λ ws. raise_all ws (λ j. front j h) k) (sym waited)) (λ k. refl) rows;
        waiting = (waits-on count).fence lines t h live.waiting new.waiting own others is.waiting;
      }

  -- nor does a call that leaves the lists as they are
  pub live-kept : (new : LiveLines) → new.rows ≡ live.rows → ((t : ℕ) → list_at t new.waiting ≡ list_at t live.waiting) → IsLiveWith lines h new
  live-kept new rows lists = record {
    rows = rw rows is.rows;
    waiting = record { each = λ t. rw (lists t) (is.waiting.each t); within = λ t. rw (lists t) (is.waiting.within t) };
  }

  -- each open flush is of a line
  pub all-within : (t : ℕ) (flushes : List OpenFlush) → flushes ≡ list_at t live.waiting → All (λ f. f.slot < length lines) flushes
  all-within t flushes of = rw of (is.waiting.within t)

  -- the line of the row at a slot
  pub row-at : (p : ℕ) → p < length live.rows.rows.items → IsSlotOf (get_or lines p 0) p lines
  row-at p within = slice_get-get_or lines p 0 (omega (arith, within, ap length is.rows.rows, length-map lines (row_by (λ k. count k h) (λ k. front k h) (λ k. 0))))

-- a line's slot is that of a row
pub has-slot : (lines : List ℕ) (h : List Act) (l p : ℕ) (live : LiveLines) → IsSlotOf l p live.rows.slots → IsLiveWith lines h live → p < length live.rows.rows.items
has-slot lines h l p live at is = Rattle.pmt_rows.proofs.RowLemmas.has-slot lines (λ k. count k h) (λ k. front k h) (λ k. 0) live.rows is.rows l p at

-- and one of the lines that are known
pub slot-in : (lines : List ℕ) (h : List Act) (l p : ℕ) (live : LiveLines) → IsSlotOf l p live.rows.slots → IsLiveWith lines h live → IsSlotOf l p lines
slot-in lines h l p live at is = subst (IsSlotOf l p) is.rows.placed at
