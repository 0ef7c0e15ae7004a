use Rattle.pmt_slices.proofs.Prelude.{◌≡◌, length, refl, sym, ap, subst, ◌∙◌, arith, act, act-within, IsChosen, HasChosen}
use Rattle.pmt_slices.proofs.TakenLemmas.{refill-all}
use Rattle.pmt_slices.proofs.ChosenLemmas.{persist-slice}
use Rattle.pmt_slices.proofs.slicing.persist_slice.Goals as goal

pub only-requires : goal.only-requires
only-requires c = let T = c.args.trace.now in (act-within T c.args.number (act T.format c.requires.0) (c.requires.0, c.requires.1, refl)).0

pub choose_for_range-requires-clause-number : goal.choose_for_range-requires-clause-number
choose_for_range-requires-clause-number c = let T = c.args.trace.now in (act-within T c.args.number (act T.format c.requires.0) (c.requires.0, c.requires.1, refl)).1

pub returns : goal.returns
returns c =
    let T = c.args.trace.now in
    let n = c.args.number in
    let flags = c.in_ok-chosen.chosen in
    let ws = c.choose_for_range.new.chosen in
    let had = subst (λ xs. HasChosen T c.args.range 0 n xs ws) c.as_mut_slice.ensures.value c.in_ok-choose_for_range.ensures.chosen in
    let same = refill-all flags.len flags.items ws (omega (arith, c.as_mut_slice.ensures.len, ap (λ xs. length xs) c.as_mut_slice.ensures.value)) (c.in_ok-choose_for_range.ensures.size ∙ sym c.in_ok-chosen.ensures.size) in
    let seen : c.as_slice.result.now ≡ ws = c.as_slice.ensures.value ∙ same in
    persist-slice T n c.requires.0 c.args.range c.in_ok-numbers.numbers flags.items ws c.requires.1 c.requires.2 c.in_ok-numbers.ensures.rising
    (λ k. let just = c.in_ok-numbers.ensures.just k in (λ has. subst (λ xs. IsChosen xs k) seen (just.0 has), λ own. just.1 (subst (λ xs. IsChosen xs k) (sym seen) own))) c.in_ok-chosen.ensures.just had
