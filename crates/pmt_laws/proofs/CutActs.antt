-- Acts of a cut trace and the acts that they come from, in the same order.
use Rattle.std.proofs.Common.{◌≡◌, ℕ, zero, suc, ◌<◌, List, sym, ap, ◌∙◌, lt_of_not-le, arith}
use Rattle.pmt_laws.specs.Prelude.{Act, Recording, IsAct, count_at, Has, IsSelection, cut, matching_place}
use Rattle.pmt_laws.proofs.CutLemmas.{place-kept, place-mono, cut-from, count-cut}
use Rattle.pmt_laws.proofs.Histories.{act-within}

-- Act number i of the cut trace is act number `before` + 1 of the trace.
pub record IsOrigin (T : Recording) (K : List ℕ) (i : ℕ) (a : Act) : Type 0 where
  pub before : ℕ
  pub has : Has K (suc before)
  pub place : suc (matching_place K before) ≡ i
  pub is_act : IsAct T (suc before) a

-- each act of a cut trace has an origin
pub act-origin : (T : Recording) (K : List ℕ) (i : ℕ) (a : Act) → IsSelection T K → IsAct (cut T K) i a → IsOrigin T K i a
act-origin T K zero a selection x = absurd (omega (arith, (act-within (cut T K) 0 a x).0))
act-origin T K (suc m) a selection x =
    let from = cut-from T K m x.0 selection x.1 in
    record { before = from.0; has = from.1; place = ap suc from.2; is_act = (x.0, from.3, x.2) }

-- what comes from an earlier place is earlier
pub earlier-origin : (K : List ℕ) (m n : ℕ) → matching_place K m < matching_place K n → m < n
earlier-origin K m n less = lt_of_not-le (λ h. absurd (omega (arith, place-mono K n m h)))

-- what is selected earlier comes earlier
pub earlier-selected : (T : Recording) (K : List ℕ) (m n : ℕ) → IsSelection T K → Has K (suc m) → m < n → matching_place K m < matching_place K n
earlier-selected T K m n selection has less = omega (arith, place-kept K m selection.rising has, place-mono K (suc m) n less)

-- a selected act has as many stores to each line before it as it has in the cut trace
pub count-selected : (T : Recording) (K : List ℕ) (l n : ℕ) → IsSelection T K → Has K (suc n) → count_at (cut T K) l (suc (matching_place K n)) ≡ count_at T l (suc n)
count-selected T K l n selection has = ap (count_at (cut T K) l) (sym (place-kept K n selection.rising has)) ∙ count-cut T K l (suc n) selection

-- an act of the cut trace has as many stores to each line before it as its origin
pub count-origin : (T : Recording) (K : List ℕ) (l i : ℕ) (a : Act) → IsSelection T K → (o : IsOrigin T K i a) → count_at T l (suc o.before) ≡ count_at (cut T K) l i
count-origin T K l i a selection o = sym (count-selected T K l o.before selection o.has) ∙ ap (count_at (cut T K) l) o.place

-- an act of the cut trace before another has the earlier origin
pub origin-earlier : (T : Recording) (K : List ℕ) (i j : ℕ) (a b : Act) → (o : IsOrigin T K i a) → (p : IsOrigin T K j b) → i < j → o.before < p.before
origin-earlier T K i j a b o p less = earlier-origin K o.before p.before (omega (arith, o.place, p.place))
