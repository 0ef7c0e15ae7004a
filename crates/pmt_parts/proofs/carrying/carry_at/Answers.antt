use Rattle.pmt_parts.proofs.Prelude.{◌≡◌, min, sym, ap, subst, ◌∙◌, true, arith, is_kept_at}
use Rattle.pmt_parts.proofs.CarryLemmas.{carry-marked}
use Rattle.pmt_parts.proofs.carrying.carry_at.Goals as goal

pub carried_flags-requires : goal.carried_flags-requires
carried_flags-requires c = omega (arith, c.at_most-last.ensures, c.len.ensures.value)

pub returns : goal.returns
returns c =
    let T = c.args.trace.now in
    let marked = c.in_ok-carried.carried.items in
    let seen = c.as_slice.ensures.value in
    carry-marked T c.args.place c.at_most-last.result marked c.in_ok-numbers.numbers (c.at_most-last.ensures ∙ ap (min c.args.place) c.len.ensures.value) c.in_ok-carried.ensures.size c.in_ok-carried.ensures.marks c.in_ok-numbers.ensures.rising
    (λ k. let just = c.in_ok-numbers.ensures.just k in (λ has. subst (λ xs. is_kept_at xs k ≡ true) seen (just.0 has), λ own. just.1 (subst (λ xs. is_kept_at xs k ≡ true) (sym seen) own)))
