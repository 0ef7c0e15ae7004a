-- What is known of lines: one more line, and what changes a row.
use Rattle.std.proofs.Common.{◌≡◌, ◌≢◌, ℕ, suc, ◌<◌, Bool, true, false, List, [], ◌∷◌, ◌++◌, length, max, get_or, set, map, refl, sym, ap, subst, ◌∙◌, eqb-true, arith}
use Rattle.std.specs.Prelude.{◌==◌, not, nat_eq, slice_get, if◌then◌else◌}
use Rattle.std.proofs.lemmas.Bool.{eq-eqb, ne_eqb, both_ways}
use Rattle.std.proofs.lemmas.List.{get_or-map, length-map, map-append}
use Rattle.std.proofs.lemmas.Option.{get_or_from_slice_get, slice_get_within}
use Rattle.pmt_laws.specs.Prelude.{Act, Stores, Flushes, Clflushes, Written, has_line, with_line, last_flush, list_any, IsDistinct}
use Rattle.pmt_safety.specs.Safety.{last_line_store, safe_store}
use Rattle.pmt_rows.specs.Known.{raised, row_by, empty_row, AreRows, IsKnownWith, RowsBySame}
use Rattle.pmt_tables.specs.Slots.{IsSlotOf, insert_line}
use Rattle.pmt_tables.proofs.ListLemmas.{among, map-same, map-set_one, list_any-has_line, has_line-less}
use Rattle.pmt_rows.specs.declared.rows.Row.{Row}
use Rattle.pmt_rows.specs.declared.rows.Rows.{Rows}

abbrev row_of : ℕ → ℕ → ℕ → Row
row_of last safe flush = record { last_store = last; safe = safe; last_flush = flush }

pub rows-same : RowsBySame
rows-same lines last safe flush last_now safe_now flush_now r same is = record {
  placed = is.placed;
  once = is.once;
  rows = is.rows ∙ sym (map-same (row_by last safe flush) (row_by last_now safe_now flush_now) lines (λ p l at. same l));
  others = λ l none. same l ∙ is.others l none;
}

-- by numbers, and told another last safe store of each line
pub kept-same : (lines : List ℕ) (h : List Act) (safe now : ℕ → ℕ) (r : Rows) → ((l : ℕ) → now l ≡ safe l) → IsKnownWith lines h safe r → IsKnownWith lines h now r
kept-same lines h safe now r same is =
    rows-same lines (λ l. last_line_store l h) safe (λ l. last_flush l h) (λ l. last_line_store l h) now (λ l. last_flush l h) r (λ l. ap (λ s. row_of (last_line_store l h) s (last_flush l h)) (same l)) is

-- ---- By numbers, after an act on a line

pub stored-known : (lines : List ℕ) (h : List Act) (l number : ℕ) (w : Written) (r : Rows) → number ≡ suc (length h) →
    AreRows lines (raised l number (λ k. last_line_store k h)) (λ k. safe_store k h) (λ k. last_flush k h) r → IsKnownWith lines (Stores l w ∷ h) (λ k. safe_store k (Stores l w ∷ h)) r
stored-known lines h l number w r e is = subst (λ m. AreRows lines (raised l m (λ k. last_line_store k h)) (λ k. safe_store k h) (λ k. last_flush k h) r) e is

pub flushed-known : (lines : List ℕ) (h : List Act) (t l number : ℕ) (r : Rows) → number ≡ suc (length h) →
    AreRows lines (λ k. last_line_store k h) (λ k. safe_store k h) (raised l number (λ k. last_flush k h)) r → IsKnownWith lines (Flushes t l ∷ h) (λ k. safe_store k (Flushes t l ∷ h)) r
flushed-known lines h t l number r e is = subst (λ m. AreRows lines (λ k. last_line_store k h) (λ k. safe_store k h) (raised l m (λ k. last_flush k h)) r) e is

pub cleared-known : (lines : List ℕ) (h : List Act) (l number : ℕ) (r : Rows) → number ≡ suc (length h) →
    AreRows lines (λ k. last_line_store k h) (raised l (last_line_store l h) (λ k. safe_store k h)) (raised l number (λ k. last_flush k h)) r → IsKnownWith lines (Clflushes l ∷ h) (λ k. safe_store k (Clflushes l ∷ h)) r
cleared-known lines h l number r e is =
    kept-same lines (Clflushes l ∷ h) (raised l (last_line_store l h) (λ k. safe_store k h)) (λ k. safe_store k (Clflushes l ∷ h)) r (λ k. go k (l == k) refl)
    (subst (λ m. AreRows lines (λ k. last_line_store k h) (raised l (last_line_store l h) (λ k. safe_store k h)) (raised l m (λ k. last_flush k h)) r) e is)
  where
    go : (k : ℕ) (b : Bool) → (l == k) ≡ b → (if b then last_line_store k h else safe_store k h) ≡ (if b then last_line_store l h else safe_store k h)
    go k true same = ap (λ j. last_line_store j h) (sym (eqb-true l k same))
    go k false other = refl

-- ---- Rows in general

line-has : (l p : ℕ) (lines : List ℕ) → IsSlotOf l p lines → has_line l lines ≡ true
line-has l p lines at = sym (list_any-has_line l lines) ∙ among lines l p at

module _ (lines : List ℕ) (last safe flush : ℕ → ℕ) (r : Rows) (is : AreRows lines last safe flush r) where
  -- a call that leaves slots and rows as they are
  pub known-same : (new : Rows) → new.slots ≡ r.slots → new.rows.items ≡ r.rows.items → AreRows lines last safe flush new
  known-same new slots rows = record { placed = slots ∙ is.placed; once = is.once; rows = rows ∙ is.rows; others = is.others }

  -- ---- A slot for a line

  -- the line at a slot is among them
  pub known-there : (l p : ℕ) (new : Rows) → IsSlotOf l p r.slots → new.slots ≡ r.slots → new.rows.items ≡ r.rows.items → AreRows (with_line l lines) last safe flush new
  known-there l p new at slots rows =
      let has : has_line l lines ≡ true = line-has l p lines (ap (λ ls. slice_get ls p) (sym is.placed) ∙ at) in
      rw has (known-same new slots rows)

  pub known-old : (l : ℕ) (new : Rows) → false ≡ not (list_any (nat_eq l) r.slots) → new.slots ≡ insert_line r.slots l → new.rows.items ≡ r.rows.items → AreRows (with_line l lines) last safe flush new
  known-old l new known inserted rows =
      let had : list_any (nat_eq l) r.slots ≡ true = not-false (list_any (nat_eq l) r.slots) known in
      let has : has_line l lines ≡ true = sym (list_any-has_line l lines) ∙ ap (list_any (nat_eq l)) (sym is.placed) ∙ had in
      let same : new.slots ≡ r.slots = inserted ∙ rw had refl in
      rw has (known-same new same rows)
    where
      not-false : (b : Bool) → false ≡ not b → b ≡ true
      not-false true e = refl
      not-false false e = absurd (cc)

  pub known-new : (l : ℕ) (new : Rows) → true ≡ not (list_any (nat_eq l) r.slots) → new.slots ≡ insert_line r.slots l → IsDistinct nat_eq new.slots → new.rows.items ≡ r.rows.items ++ empty_row ∷ [] →
      AreRows (with_line l lines) last safe flush new
  known-new l new fresh inserted unique rows =
      let absent : list_any (nat_eq l) r.slots ≡ false = not-true (list_any (nat_eq l) r.slots) fresh in
      let hasnt : has_line l lines ≡ false = sym (list_any-has_line l lines) ∙ ap (list_any (nat_eq l)) (sym is.placed) ∙ absent in
      let same : new.slots ≡ lines ++ l ∷ [] = inserted ∙ rw absent (ap (λ ks. ks ++ l ∷ []) is.placed) in
      let row : empty_row ≡ row_by last safe flush l = sym (is.others l hasnt) in
      rw hasnt
      (record {
        placed = same;
        once = subst (IsDistinct nat_eq) same unique;
        rows = rows ∙ ap (λ rs. rs ++ empty_row ∷ []) is.rows ∙ ap (λ x. map (row_by last safe flush) lines ++ x ∷ []) row ∙ sym (map-append (row_by last safe flush) lines (l ∷ []));
        others = λ k absent_too. is.others k (has_line-less k l lines absent_too);
      })
    where
      not-true : (b : Bool) → true ≡ not b → b ≡ false
      not-true true e = absurd (cc)
      not-true false e = refl

  -- a line's slot is that of a row
  pub has-slot : (l p : ℕ) → IsSlotOf l p r.slots → p < length r.rows.items
  has-slot l p at = omega (arith, slice_get_within r.slots p l at, ap length is.placed, ap length is.rows, length-map lines (row_by last safe flush))

  -- ---- A line that has a slot

  module _ (l p : ℕ) (at : IsSlotOf l p lines) where
    -- the row at the slot
    pub row-there : (x : Row) → x ≡ get_or r.rows.items p x → x ≡ row_by last safe flush l
    row-there x read =
        read ∙ ap (λ rows. get_or rows p x) is.rows ∙ get_or-map (row_by last safe flush) lines p 0 x (slice_get_within lines p l at) ∙ ap (row_by last safe flush) (get_or_from_slice_get lines p l 0 at)

    own : (number : ℕ) (f : ℕ → ℕ) → raised l number f l ≡ number
    own number f = let e : (l == l) ≡ true = eq-eqb l l refl in rw e refl

    other : (number : ℕ) (f : ℕ → ℕ) (k : ℕ) → k ≢ l → raised l number f k ≡ f k
    other number f k apart = let e = ne_eqb l k (λ same. apart (sym same)) in rw e refl

    -- a change of one row
    changed : (last_now safe_now flush_now : ℕ → ℕ) (row : Row) (new : Rows) → new.slots ≡ r.slots → new.rows.items ≡ set r.rows.items p row → row ≡ row_by last_now safe_now flush_now l →
        ((k : ℕ) → k ≢ l → row_by last_now safe_now flush_now k ≡ row_by last safe flush k) → AreRows lines last_now safe_now flush_now new
    changed last_now safe_now flush_now row new slots rows here apart = record {
      placed = slots ∙ is.placed;
      once = is.once;
      rows = rows ∙ ap (λ rs. set rs p row) is.rows ∙ ap (set (map (row_by last safe flush) lines) p) here
          ∙ sym (map-set_one (row_by last safe flush) (row_by last_now safe_now flush_now) lines l p is.once at apart);
      others = λ k none. apart k (λ e. absurd (both_ways (has_line k lines) none (ap (λ j. has_line j lines) e ∙ line-has l p lines at))) ∙ is.others k none;
    }

    pub known-store : (number : ℕ) (x : Row) (new : Rows) → x ≡ get_or r.rows.items p x → new.slots ≡ r.slots → new.rows.items ≡ set r.rows.items p (row_of number x.safe x.last_flush) →
        AreRows lines (raised l number last) safe flush new
    known-store number x new read slots rows =
        let row = row-there x read in
        changed (raised l number last) safe flush (row_of number x.safe x.last_flush) new slots rows
        (rw (own number last, ap (λ (y : Row). y.safe) row, ap (λ (y : Row). y.last_flush) row) refl)
        (λ k apart. rw (other number last k apart) refl)

    pub known-flush : (number : ℕ) (x : Row) (new : Rows) → x ≡ get_or r.rows.items p x → new.slots ≡ r.slots → new.rows.items ≡ set r.rows.items p (row_of x.last_store x.safe number) →
        AreRows lines last safe (raised l number flush) new
    known-flush number x new read slots rows =
        let row = row-there x read in
        changed last safe (raised l number flush) (row_of x.last_store x.safe number) new slots rows
        (rw (own number flush, ap (λ (y : Row). y.last_store) row, ap (λ (y : Row). y.safe) row) refl)
        (λ k apart. rw (other number flush k apart) refl)

    pub known-clflush : (number : ℕ) (x : Row) (new : Rows) → x ≡ get_or r.rows.items p x → new.slots ≡ r.slots → new.rows.items ≡ set r.rows.items p (row_of x.last_store x.last_store number) →
        AreRows lines last (raised l (last l) safe) (raised l number flush) new
    known-clflush number x new read slots rows =
        let row = row-there x read in
        changed last (raised l (last l) safe) (raised l number flush) (row_of x.last_store x.last_store number) new slots rows
        (rw (own (last l) safe, own number flush, ap (λ (y : Row). y.last_store) row) refl)
        (λ k apart. rw (other (last l) safe k apart, other number flush k apart) refl)

    pub known-raise : (store now : ℕ) (x : Row) (new : Rows) → now ≡ max x.safe store → x ≡ get_or r.rows.items p x → new.slots ≡ r.slots → new.rows.items ≡ set r.rows.items p (row_of x.last_store now x.last_flush) →
        AreRows lines last (raised l (max (safe l) store) safe) flush new
    known-raise store now x new greater read slots rows =
        let row = row-there x read in
        changed last (raised l (max (safe l) store) safe) flush (row_of x.last_store now x.last_flush) new slots rows
        (rw (own (max (safe l) store) safe, greater, ap (λ (y : Row). y.safe) row, ap (λ (y : Row). y.last_store) row, ap (λ (y : Row). y.last_flush) row) refl)
        (λ k apart. rw (other (max (safe l) store) safe k apart) refl)
