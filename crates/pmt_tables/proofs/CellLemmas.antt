-- Cells in which lines are looked up.
use Rattle.std.proofs.Common.{◌≡◌, ◌≢◌, ℕ, suc, ◌+◌, ◌-◌, ◌<◌, ◌≤◌, ◌⊎◌, inl, inr, false, List, [], ◌∷◌, ◌++◌, length, get_or, Some, sym, ap, subst, ◌∙◌, arith}
use Rattle.std.specs.Prelude.{nat_eq, slice_get, slice_index, slice_set}
use Rattle.std.specs.List.{IsDistinct, list_any}
use Rattle.std.proofs.lemmas.Bool.{cases_lt}
use Rattle.std.proofs.lemmas.Cmp.{nat_eq_equiv}
use Rattle.std.proofs.lemmas.Grind.{get_or_default_zero}
use Rattle.std.proofs.lemmas.List.{get_or-set_same, get_or-set_other, length-set}
use Rattle.std.proofs.lemmas.Map.Keys.{IsDistinct-push}
use Rattle.std.proofs.lemmas.Option.{same_Some}
use Rattle.pmt_tables.specs.Slots.{AreIndexed, IsSlotOf, IsReached, cell_at}
use Rattle.pmt_tables.proofs.ListLemmas.{push-cases}

-- the entry to which this look for a line comes
abbrev pub seen_at : List ℕ → ℕ → ℕ → ℕ
seen_at cells line k = slice_index cells (cell_at (length cells) line k)

pub read-is : (cells : List ℕ) (cell entry : ℕ) → cell < length cells → entry ≡ get_or cells cell entry → slice_index cells cell ≡ entry
read-is cells cell entry within read = sym (read ∙ get_or_default_zero cells cell entry within)

-- these looks come to entries, and to none of the line
abbrev pub ArePast : List ℕ → List ℕ → ℕ → ℕ → Type 0
ArePast lines cells line look = (k : ℕ) → k < look → (seen_at cells line k ≢ 0) × (IsSlotOf line (seen_at cells line k - 1) lines → ⊥)

pub past-next : (lines cells : List ℕ) (line look entry : ℕ) → ArePast lines cells line look → seen_at cells line look ≡ entry → entry ≢ 0 → (IsSlotOf line (entry - 1) lines → ⊥) → ArePast lines cells line (look + 1)
past-next lines cells line look entry past is taken other k less = elim (cases_lt k look) [
  | inl before ↦ past k before
  | inr last ↦
      let e : look ≡ k = omega (arith, less, last) in
      subst (λ j. (seen_at cells line j ≢ 0) × (IsSlotOf line (seen_at cells line j - 1) lines → ⊥)) e (subst (λ n. (n ≢ 0) × (IsSlotOf line (n - 1) lines → ⊥)) (sym is) (taken, other))
]

-- a line without an entry before the first free cell has no slot
pub none-past : (lines cells : List ℕ) (line look : ℕ) → AreIndexed lines cells → ArePast lines cells line look → (seen_at cells line look ≡ 0) ⊎ (length cells ≤ look) → (slot : ℕ) → IsSlotOf line slot lines → ⊥
none-past lines cells line look are past end slot at = go (are.1 slot line at)
  where
    go : IsReached cells line (suc slot) → ⊥
    go r = elim (cases_lt r.0 look) [
      | inl before ↦
          let e : seen_at cells line r.0 - 1 ≡ slot = omega (arith, r.2) in
          (past r.0 before).1 (subst (λ n. IsSlotOf line n lines) (sym e) at)
      | inr after ↦ elim end [
        | inl free ↦ elim (cases_lt look r.0) [
          | inl less ↦ r.3 look less free
          | inr same ↦ let e : r.0 ≡ look = omega (arith, after, same) in absurd (omega (arith, r.2, free, ap (seen_at cells line) e))
        ]
        | inr all ↦ absurd (omega (arith, r.1, after, all))
      ]
    ]

-- an entry is put at a free cell
module _ (cells : List ℕ) (cell entry : ℕ) (within : cell < length cells) (free : slice_index cells cell ≡ 0) where
  -- a look in so many cells
  abbrev Reached : ℕ → List ℕ → ℕ → ℕ → Type 0
  Reached size new l e = (d : ℕ) × (d < size) × (slice_index new (cell_at size l d) ≡ e) × ((k : ℕ) → k < d → slice_index new (cell_at size l k) ≢ 0)

  kept : (c : ℕ) → slice_index cells c ≢ 0 → slice_index (slice_set cells cell entry) c ≡ slice_index cells c
  kept c taken = get_or-set_other cells cell c entry 0 (λ e. taken (ap (slice_index cells) e ∙ free))

  pub put-others : (l e : ℕ) → 0 < e → IsReached cells l e → IsReached (slice_set cells cell entry) l e
  put-others l e some r = subst (λ n. Reached n (slice_set cells cell entry) l e) (sym (length-set cells cell entry)) (
    r.0,
    r.1,
    kept _ (λ none. absurd (omega (arith, some, r.2, none))) ∙ r.2,
    λ k less none. r.3 k less (sym (kept _ (r.3 k less)) ∙ none),
  )

  pub put-reached : (l look : ℕ) → cell ≡ cell_at (length cells) l look → look < length cells → ((k : ℕ) → k < look → seen_at cells l k ≢ 0) → IsReached (slice_set cells cell entry) l entry
  put-reached l look at less before = subst (λ n. Reached n (slice_set cells cell entry) l entry) (sym (length-set cells cell entry)) (
    look,
    less,
    subst (λ c. slice_index (slice_set cells cell entry) c ≡ entry) at (get_or-set_same cells cell entry 0 within),
    λ k earlier none. before k earlier (sym (kept _ (before k earlier)) ∙ none),
  )

-- an entry of one line more, where all others are kept
module _ (cells new : List ℕ) (others : (l e : ℕ) → 0 < e → IsReached cells l e → IsReached new l e) where
  pub indexed-next : (lines : List ℕ) (slot line : ℕ) → IsSlotOf line slot lines → ((p l : ℕ) → p < slot → IsSlotOf l p lines → IsReached cells l (suc p)) → IsReached new line (suc slot) →
      (p l : ℕ) → p < slot + 1 → IsSlotOf l p lines → IsReached new l (suc p)
  indexed-next lines slot line is all here p l less at = elim (cases_lt p slot) [
    | inl before ↦ others l (suc p) (omega arith) (all p l before at)
    | inr last ↦
        let e : slot ≡ p = omega (arith, less, last) in
        let same : line ≡ l = same_Some line l (sym is ∙ ap (slice_get lines) e ∙ at) in
        subst (λ k. IsReached new k (suc p)) same (subst (λ q. IsReached new line (suc q)) e here)
  ]

  pub indexed-push : (lines : List ℕ) (line : ℕ) → AreIndexed lines cells → list_any (nat_eq line) lines ≡ false → IsReached new line (suc (length lines)) → AreIndexed (lines ++ line ∷ []) new
  indexed-push lines line are absent here = (IsDistinct-push nat_eq_equiv lines line are.0 absent, λ slot l at. go slot l (push-cases lines line l slot at))
    where
      go : (slot l : ℕ) → (slice_get lines slot ≡ Some l) ⊎ ((slot ≡ length lines) × (line ≡ l)) → IsReached new l (suc slot)
      go slot l (inl before) = others l (suc slot) (omega arith) (are.1 slot l before)
      go slot l (inr last) = subst (λ k. IsReached new k (suc slot)) last.1 (subst (λ p. IsReached new line (suc p)) (sym last.0) here)

-- before the first line
pub indexed-none : (cells : List ℕ) → AreIndexed [] cells
unfolding IsDistinct
indexed-none cells = (tt, λ slot l at. absurd (cc))
