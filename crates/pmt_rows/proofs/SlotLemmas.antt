-- Lines that are inserted in their order.
use Rattle.std.proofs.Common.{◌≡◌, ℕ, suc, ◌+◌, ◌<◌, Bool, true, false, List, length, take, drop, get_or, Some, refl, sym, subst, arith}
use Rattle.std.specs.Prelude.{nat_eq, slice_get}
use Rattle.std.specs.List.{list_any, IsDistinct}
use Rattle.std.proofs.lemmas.List.{length-take-le, take-append-drop}
use Rattle.std.proofs.lemmas.Option.{slice_get_within, slice_get-get_or}
use Rattle.std.proofs.Math.Seq.{take-suc}
use Rattle.pmt_tables.specs.Slots.{insert_line}
use Rattle.pmt_tables.proofs.ListLemmas.{one-slot, get-left, list_any-slot}

-- the first lines, and the next one inserted
pub inserted-next : (lines : List ℕ) (i : ℕ) → IsDistinct nat_eq lines → i < length lines → insert_line (take i lines) (get_or lines i 0) ≡ take (i + 1) lines
inserted-next lines i once within =
    let next : i + 1 ≡ suc i = omega arith in
    rw (absent (list_any (nat_eq l) (take i lines)) refl, next) (sym (take-suc lines i 0 within))
  where
    l : ℕ
    l = get_or lines i 0

    absent : (b : Bool) → list_any (nat_eq l) (take i lines) ≡ b → list_any (nat_eq l) (take i lines) ≡ false
    absent false none = none
    absent true had =
        let there = list_any-slot (take i lines) l had in
        let before = slice_get_within (take i lines) there.0 l there.1 in
        let here : slice_get lines there.0 ≡ Some l = subst (λ ls. slice_get ls there.0 ≡ Some l) (take-append-drop i lines) (get-left (take i lines) (drop i lines) there.0 l there.1) in
        let same : there.0 ≡ i = one-slot lines l there.0 i once here (slice_get-get_or lines i 0 within) in
        absurd (omega (arith, before, length-take-le i lines (omega (arith, within)), same))
