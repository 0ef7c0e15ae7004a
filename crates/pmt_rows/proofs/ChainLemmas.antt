-- A walk over a chain, and what its entries are afterwards.
use Rattle.std.proofs.Common.{◌≡◌, ◌≢◌, ℕ, ◌<◌, ◌≤◌, inl, inr, List, [], ◌∷◌, length, refl, sym, ap, subst, ◌∙◌, arith}
use Rattle.std.specs.Prelude.{slice_index, slice_set}
use Rattle.std.proofs.lemmas.Bool.{cases_eq}
use Rattle.std.proofs.lemmas.List.{get_or-set_same, get_or-set_other, length-set}
use Rattle.pmt_model.specs.Selections.{Has}
use Rattle.pmt_rows.specs.Known.{IsChain, with_place}

-- the chain of a number above low begins with it
pub record IsStep (entries : List ℕ) (low number : ℕ) (stores : List ℕ) : Type 0 where
  pub rest : List ℕ
  pub is : stores ≡ number ∷ rest
  pub within : number < length entries
  pub less : slice_index entries number < number
  pub chain : IsChain entries low (slice_index entries number) rest

pub step : (entries : List ℕ) (low number : ℕ) (stores : List ℕ) → low < number → IsChain entries low number stores → IsStep entries low number stores
step entries low number [] above chain = absurd (omega (arith, above, chain))
step entries low number (j ∷ js) above chain =
    let P : ℕ → Type 0 = λ k. (k < length entries) × (slice_index entries k < k) × IsChain entries low (slice_index entries k) js in
    let at : P number = subst P chain.0 (chain.2, chain.3, chain.4) in
    record { rest = js; is = ap (λ k. k ∷ js) chain.0; within = at.0; less = at.1; chain = at.2 }

-- an entry above a chain is none of it
pub chain-set : (entries : List ℕ) (low number k place : ℕ) (stores : List ℕ) → number < k → IsChain entries low number stores → IsChain (slice_set entries k place) low number stores
chain-set entries low number k place [] above chain = chain
chain-set entries low number k place (j ∷ js) above chain =
    let other : j ≢ k = omega (arith, above, chain.0) in
    let same : slice_index (slice_set entries k place) j ≡ slice_index entries j = get_or-set_other entries k j place 0 other in
    let rest = chain-set entries low (slice_index entries j) k place js (omega (arith, above, chain.0, chain.3)) chain.4 in
    let P : ℕ → Type 0 = λ e. (e < j) × IsChain (slice_set entries k place) low e js in
    let at : P (slice_index (slice_set entries k place) j) = subst P (sym same) (chain.3, rest) in
    (chain.0, chain.1, omega (arith, chain.2, length-set entries k place), at.0, at.1)

-- As far as a walk has come: setting the entries of what is left gives what setting all of them would have given.
pub record IsWalking (first : List ℕ) (low : ℕ) (stores entries : List ℕ) (number place : ℕ) : Type 0 where
  pub rest : List ℕ
  pub chain : IsChain entries low number rest
  pub same : with_place entries rest place ≡ with_place first stores place

pub walk-starts : (entries : List ℕ) (low number place : ℕ) (stores : List ℕ) → IsChain entries low number stores → IsWalking entries low stores entries number place
walk-starts entries low number place stores chain = record { rest = stores; chain = chain; same = refl }

pub walk-step : (first : List ℕ) (low : ℕ) (stores entries : List ℕ) (number place : ℕ) → low < number → (w : IsWalking first low stores entries number place) → IsStep entries low number w.rest
walk-step first low stores entries number place above w = step entries low number w.rest above w.chain

pub walk-on : (first : List ℕ) (low : ℕ) (stores entries : List ℕ) (number place : ℕ) → low < number → IsWalking first low stores entries number place →
    IsWalking first low stores (slice_set entries number place) (slice_index entries number) place
walk-on first low stores entries number place above w =
    let s = walk-step first low stores entries number place above w in
    record {
      rest = s.rest;
      chain = chain-set entries low (slice_index entries number) number place s.rest s.less s.chain;
      same = ap (λ js. with_place entries js place) (sym s.is) ∙ w.same;
    }

pub walk-ends : (first : List ℕ) (low : ℕ) (stores entries : List ℕ) (number place : ℕ) → number ≤ low → IsWalking first low stores entries number place → entries ≡ with_place first stores place
walk-ends first low stores entries number place done w = go w.rest w.chain w.same
  where
    go : (rest : List ℕ) → IsChain entries low number rest → with_place entries rest place ≡ with_place first stores place → entries ≡ with_place first stores place
    go [] chain same = same
    go (j ∷ js) chain same = absurd (omega (arith, done, chain.0, chain.1))

-- ---- The entries afterwards

pub length-with_place : (entries stores : List ℕ) (place : ℕ) → length (with_place entries stores place) ≡ length entries
length-with_place entries [] place = refl
length-with_place entries (j ∷ js) place = length-with_place (slice_set entries j place) js place ∙ length-set entries j place

-- an entry that is the place stays so
placed-stays : (entries stores : List ℕ) (place k : ℕ) → k < length entries → slice_index entries k ≡ place → slice_index (with_place entries stores place) k ≡ place
placed-stays entries [] place k within is = is
placed-stays entries (j ∷ js) place k within is = placed-stays (slice_set entries j place) js place k (omega (arith, within, length-set entries j place)) (elim (cases_eq k j) [
  | inl same ↦ subst (λ i. slice_index (slice_set entries i place) k ≡ place) same (get_or-set_same entries k place 0 within)
  | inr other ↦ get_or-set_other entries j k place 0 other ∙ is
])

-- the entries of the chain are the place
pub placed-in : (entries stores : List ℕ) (place k : ℕ) → k < length entries → Has stores k → slice_index (with_place entries stores place) k ≡ place
placed-in entries [] place k within has = absurd has
placed-in entries (j ∷ js) place k within (inl same) =
    placed-stays (slice_set entries j place) js place k (omega (arith, within, length-set entries j place)) (subst (λ i. slice_index (slice_set entries i place) k ≡ place) (sym same) (get_or-set_same entries k place 0 within))
placed-in entries (j ∷ js) place k within (inr has) = placed-in (slice_set entries j place) js place k (omega (arith, within, length-set entries j place)) has

-- and all others are as they were
pub placed-out : (entries stores : List ℕ) (place k : ℕ) → (Has stores k → ⊥) → slice_index (with_place entries stores place) k ≡ slice_index entries k
placed-out entries [] place k none = refl
placed-out entries (j ∷ js) place k none = placed-out (slice_set entries j place) js place k (λ has. none (inr has)) ∙ get_or-set_other entries j k place 0 (λ same. none (inl (sym same)))
