-- The numbers of lines: reading one, writing one, and one line more.
use Rattle.std.proofs.Common.{◌≡◌, ◌≢◌, ℕ, zero, suc, ◌<◌, ◌⊎◌, inl, inr, Bool, true, false, not, List, [], ◌∷◌, ◌++◌, length, get_or, set, map, Option, None, Some, refl, sym, ap, subst, ◌∙◌, arith}
use Rattle.std.specs.Prelude.{◌==◌, nat_eq, if◌then◌else◌, slice_get, unwrap_or}
use Rattle.std.specs.List.{list_any, IsDistinct}
use Rattle.std.proofs.lemmas.Bool.{cases_eq, cases_order, eq-eqb, ne_eqb}
use Rattle.std.proofs.lemmas.Bool.Decides.{Decides-eqb}
use Rattle.std.proofs.lemmas.List.{get_or-map, get_or-set_same, length-map, map-append, map-set}
use Rattle.std.proofs.lemmas.Map.Made.{AllPairs-from_IsDistinct}
use Rattle.std.proofs.lemmas.Option.{get_or_from_slice_get, slice_get_within, same_Some}
use Rattle.indexmap.specs.IndexSet.{insert_key}
use Rattle.pmt_tables.specs.Slots.{IsFound, IsSlotOf}
use Rattle.pmt_explain.specs.declared.numbers.Numbered.{Numbered}
use Rattle.pmt_explain.specs.Numbers.{Numbers, number_in, number_at, line_in, IsTable, Puts, Reaches}

-- The line stands at this place.
abbrev pub IsAt : ℕ → ℕ → Numbers → Type 0
IsAt l p rows = slice_get (map line_in rows) p ≡ Some l

-- No line has two places.
abbrev IsApart : Numbers → Type 0
IsApart rows = (l p q : ℕ) → IsAt l p rows → IsAt l q rows → p ≡ q

apart : (lines : List ℕ) (rows : Numbers) → IsTable lines rows → IsApart rows
apart lines rows table l p q at_p at_q = go (cases_order p q)
  where
    ls : List ℕ
    ls = map line_in rows

    differ : (i j : ℕ) → i < j → slice_get ls i ≡ Some l → slice_get ls j ≡ Some l → ⊥
    differ i j before at_i at_j =
        AllPairs-from_IsDistinct Decides-eqb ls (subst (IsDistinct nat_eq) table.same table.distinct) i j 0 before (slice_get_within ls j l at_j)
        (get_or_from_slice_get ls i l 0 at_i ∙ sym (get_or_from_slice_get ls j l 0 at_j))

    go : (p ≡ q) ⊎ ((p < q) ⊎ (q < p)) → p ≡ q
    go (inl same) = same
    go (inr (inl before)) = absurd (differ p q before at_p at_q)
    go (inr (inr after)) = absurd (differ q p after at_q at_p)

-- the number at the place of a line
number-read : (rows : Numbers) (l p : ℕ) (d : Numbered) → IsApart rows → IsAt l p rows → number_in rows l ≡ Some (get_or rows p d).number
number-read [] l p d once at = absurd (cc)
number-read (r ∷ rows) l zero d once at = let e = eq-eqb r.line l (same_Some r.line l at) in rw e refl
number-read (r ∷ rows) l (suc p) d once at = go (cases_eq r.line l) (number-read rows l p d (λ k i j x y. let e = once k (suc i) (suc j) x y in omega arith) at)
  where
    go : (r.line ≡ l) ⊎ (r.line ≡ l → ⊥) → number_in rows l ≡ Some (get_or rows p d).number → (if r.line == l then Some r.number else number_in rows l) ≡ Some (get_or rows p d).number
    go (inl same) rest = absurd (omega (arith, once l zero (suc p) (ap Some same) at))
    go (inr other) rest = let e = ne_eqb r.line l other in rw e rest

-- a line that stands nowhere has none
pub number-none : (rows : Numbers) (l : ℕ) → ((p : ℕ) → IsAt l p rows → ⊥) → number_in rows l ≡ None
number-none [] l none = refl
number-none (r ∷ rows) l none = let e = ne_eqb r.line l (λ same. none zero (ap Some same)) in rw e (number-none rows l (λ p at. none (suc p) at))

pub at-within : (rows : Numbers) (l p : ℕ) → IsAt l p rows → p < length rows
at-within rows l p at = omega (arith, slice_get_within (map line_in rows) p l at, length-map rows line_in)

set-same : (ks : List ℕ) (p l : ℕ) → slice_get ks p ≡ Some l → set ks p l ≡ ks
set-same [] p l at = absurd (cc)
set-same (k ∷ ks) zero l at = ap (λ j. j ∷ ks) (sym (same_Some k l at))
set-same (k ∷ ks) (suc p) l at = ap (λ js. k ∷ js) (set-same ks p l at)

number-set_other : (rows : Numbers) (l p k : ℕ) (r : Numbered) → IsAt l p rows → r.line ≡ l → k ≢ l → number_in (set rows p r) k ≡ number_in rows k
number-set_other [] l p k r at line other = refl
number-set_other (x ∷ rows) l zero k r at line other =
    let old = ne_eqb x.line k (λ e. other (sym e ∙ same_Some x.line l at)) in
    let new = ne_eqb r.line k (λ e. other (sym e ∙ line)) in
    rw (old, new) refl
number-set_other (x ∷ rows) l (suc p) k r at line other = ap (λ (o : Option ℕ). if x.line == k then Some x.number else o) (number-set_other rows l p k r at line other)

-- a number is read and written at its line's place
module _ (lines : List ℕ) (rows : Numbers) (l p : ℕ) (x : Numbered) (table : IsTable lines rows) (at : IsAt l p rows) (read : x ≡ get_or rows p x) where
  pub number-there : number_in rows l ≡ Some x.number
  number-there = number-read rows l p x (apart lines rows table) at ∙ ap (λ (y : Numbered). Some y.number) (sym read)

  line-there : x.line ≡ l
  line-there =
      let within : p < length rows = at-within rows l p at in
      ap line_in read ∙ sym (get_or-map line_in rows p x 0 within) ∙ get_or_from_slice_get (map line_in rows) p l 0 at

  abbrev with_number : ℕ → Numbered
  with_number n = record { line = x.line; number = n }

  lines-set : (n : ℕ) → map line_in (set rows p (with_number n)) ≡ map line_in rows
  lines-set n = map-set line_in rows p (with_number n) ∙ ap (set (map line_in rows) p) line-there ∙ set-same (map line_in rows) p l at

  pub table-put : (n : ℕ) → IsTable lines (set rows p (record { line = x.line; number = n }))
  table-put n = record { same = table.same ∙ sym (lines-set n); distinct = table.distinct }

  pub number-put : (n : ℕ) → number_in (set rows p (record { line = x.line; number = n })) l ≡ Some n
  number-put n =
      number-read (set rows p (with_number n)) l p (with_number n) (apart lines (set rows p (with_number n)) (table-put n)) (ap (λ ls. slice_get ls p) (lines-set n) ∙ at)
      ∙ ap (λ (y : Numbered). Some y.number) (get_or-set_same rows p (with_number n) (with_number n) (at-within rows l p at))

  pub number-others : (n k : ℕ) → k ≢ l → number_in (set rows p (record { line = x.line; number = n })) k ≡ number_in rows k
  number-others n k other = number-set_other rows l p k (with_number n) at line-there other

-- a line is reached, and its number is read and written
pub puts-reached : (lines : List ℕ) (old rows : Numbers) (l other p n : ℕ) (x : Numbered) → IsTable lines rows → Reaches l other p old rows → x ≡ get_or rows p x → Puts l n old (set rows p (record { line = x.line; number = n }))
puts-reached lines old rows l other p n x table reached read = record {
  here = λ o. ap (λ (m : Option ℕ). unwrap_or m o) (number-put lines rows l p x table reached.here read n);
  others = λ o k apart. ap (λ (m : Option ℕ). unwrap_or m o) (number-others lines rows l p x table reached.here read n k apart ∙ reached.others k apart);
}

pub read-reached : (lines : List ℕ) (old rows : Numbers) (l other p : ℕ) (x : Numbered) → IsTable lines rows → Reaches l other p old rows → x ≡ get_or rows p x → x.number ≡ number_at other old l
read-reached lines old rows l other p x table reached read = same_Some x.number (number_at other old l) (sym (number-there lines rows l p x table reached.here read) ∙ reached.number)

-- ---- One line more

-- The numbers, with the line's if it is new.
abbrev pub rows_with : Bool → ℕ → ℕ → Numbers → Numbers
rows_with is_new l other rows = if is_new then rows ++ record { line = l; number = other } ∷ [] else rows

number-more : (rows : Numbers) (l n k : ℕ) → k ≢ l → number_in (rows ++ record { line = l; number = n } ∷ []) k ≡ number_in rows k
number-more [] l n k apart = let e = ne_eqb l k (λ same. apart (sym same)) in rw e refl
number-more (r ∷ rows) l n k apart = ap (λ (o : Option ℕ). if r.line == k then Some r.number else o) (number-more rows l n k apart)

number-new : (rows : Numbers) (l n : ℕ) → number_in rows l ≡ None → number_in (rows ++ record { line = l; number = n } ∷ []) l ≡ Some n
number-new [] l n none = let e = eq-eqb l l refl in rw e refl
number-new (r ∷ rows) l n none = go (cases_eq r.line l) none (number-new rows l n)
  where
    go : (r.line ≡ l) ⊎ (r.line ≡ l → ⊥) → (if r.line == l then Some r.number else number_in rows l) ≡ None →
        (number_in rows l ≡ None → number_in (rows ++ record { line = l; number = n } ∷ []) l ≡ Some n) →
        (if r.line == l then Some r.number else number_in (rows ++ record { line = l; number = n } ∷ []) l) ≡ Some n
    go (inl same) is rest = let e = eq-eqb r.line l same in let never : ◌≡◌ {A = Option ℕ} (Some r.number) None = rw e at is in absurd (cc)
    go (inr other) is rest = let e = ne_eqb r.line l other in rw e (rest (rw e at is))

-- a line that is not among the others has no number, and one that is has one
number-absent : (rows : Numbers) (l : ℕ) → list_any (nat_eq l) (map line_in rows) ≡ false → number_in rows l ≡ None
number-absent [] l absent = refl
number-absent (r ∷ rows) l absent = go (cases_eq r.line l) absent (number-absent rows l)
  where
    go : (r.line ≡ l) ⊎ (r.line ≡ l → ⊥) → list_any (nat_eq l) (map line_in (r ∷ rows)) ≡ false → (list_any (nat_eq l) (map line_in rows) ≡ false → number_in rows l ≡ None) → number_in (r ∷ rows) l ≡ None
    go (inl same) is rest = let e = eq-eqb l r.line (sym same) in let never : true ≡ false = rw e at is in absurd (cc)
    go (inr other) is rest = let e = ne_eqb r.line l other in let f = ne_eqb l r.line (λ same. other (sym same)) in rw e (rest (rw f at is))

-- the numbers after the look-up of a line
module _ (lines : List ℕ) (rows : Numbers) (l other p : ℕ) (is_new : Bool) (table : IsTable lines rows) (added : is_new ≡ not (list_any (nat_eq l) lines))
    (distinct : IsDistinct nat_eq (insert_key nat_eq lines l)) (here : slice_get (insert_key nat_eq lines l) p ≡ Some l) where
  keys-with : insert_key nat_eq lines l ≡ map line_in (rows_with is_new l other rows)
  keys-with = go is_new (list_any (nat_eq l) lines) added
    where
      go : (b c : Bool) → b ≡ not c → (if c then lines else lines ++ l ∷ []) ≡ map line_in (rows_with b l other rows)
      go true true e = absurd (cc)
      go true false e = ap (λ ks. ks ++ l ∷ []) table.same ∙ sym (map-append line_in rows (record { line = l; number = other } ∷ []))
      go false true e = table.same
      go false false e = absurd (cc)

  pub reaches : Reaches l other p rows (rows_with is_new l other rows)
  reaches = record { here = at is_new keys-with; number = number is_new added keys-with; others = λ k apart. others is_new k apart }
    where
      at : (b : Bool) → insert_key nat_eq lines l ≡ map line_in (rows_with b l other rows) → IsAt l p (rows_with b l other rows)
      at b e = ap (λ ls. slice_get ls p) (sym e) ∙ here

      number : (b : Bool) → b ≡ not (list_any (nat_eq l) lines) → insert_key nat_eq lines l ≡ map line_in (rows_with b l other rows) → number_in (rows_with b l other rows) l ≡ Some (number_at other rows l)
      number true new e =
          let none : number_in rows l ≡ None = number-absent rows l (ap (λ ls. list_any (nat_eq l) ls) (sym table.same) ∙ absent (list_any (nat_eq l) lines) new) in
          number-new rows l other none ∙ ap (λ (o : Option ℕ). Some (unwrap_or o other)) (sym none)
        where
          absent : (c : Bool) → true ≡ not c → c ≡ false
          absent true e = absurd (cc)
          absent false e = refl
      number false new e =
          let some = number-read rows l p (record { line = l; number = other }) (apart lines rows table) (at false e) in
          some ∙ ap (λ (o : Option ℕ). Some (unwrap_or o other)) (sym some)

      others : (b : Bool) (k : ℕ) → k ≢ l → number_in (rows_with b l other rows) k ≡ number_in rows k
      others true k apart = number-more rows l other k apart
      others false k apart = refl

-- where a line stands among the lines, it stands among the rows
pub at-place : (lines : List ℕ) (rows : Numbers) (l p : ℕ) → IsTable lines rows → IsSlotOf l p lines → IsAt l p rows
at-place lines rows l p table at = ap (λ ls. slice_get ls p) (sym table.same) ∙ at

-- a line that is found nowhere has no number
pub number-unfound : (lines : List ℕ) (rows : Numbers) (l : ℕ) → IsTable lines rows → IsFound l lines None → number_in rows l ≡ None
number-unfound lines rows l table none = number-none rows l (λ p at. none p (ap (λ ls. slice_get ls p) table.same ∙ at))

-- a line that stands there already
pub reaches-known : (lines : List ℕ) (rows : Numbers) (l other p : ℕ) → IsTable lines rows → IsSlotOf l p lines → Reaches l other p rows rows
reaches-known lines rows l other p table there =
    let at : IsAt l p rows = at-place lines rows l p table there in
    let some = number-read rows l p (record { line = l; number = other }) (apart lines rows table) at in
    record { here = at; number = some ∙ ap (λ (o : Option ℕ). Some (unwrap_or o other)) (sym some); others = λ k apart. refl }
