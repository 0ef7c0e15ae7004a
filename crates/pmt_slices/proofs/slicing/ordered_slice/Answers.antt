use Rattle.pmt_slices.proofs.Prelude.{◌≡◌, length, refl, sym, ap, subst, ◌∙◌, arith, refill, act, act-within, IsChosen, HasChosen}
use Rattle.pmt_slices.proofs.TakenLemmas.{refill-all}
use Rattle.pmt_slices.proofs.ChosenLemmas.{ordered-slice}
use Rattle.pmt_slices.proofs.slicing.ordered_slice.Goals as goal

pub only-requires : goal.only-requires
only-requires c = let T = c.args.trace.now in (act-within T c.args.number (act T.format c.requires.0) (c.requires.0, c.requires.1, refl)).0

pub choose_for_range-requires-clause-number : goal.choose_for_range-requires-clause-number
choose_for_range-requires-clause-number c = let T = c.args.trace.now in (act-within T c.args.number (act T.format c.requires.0) (c.requires.0, c.requires.1, refl)).1

pub choose_for_range-requires-2-clause-number : goal.choose_for_range-requires-2-clause-number
choose_for_range-requires-2-clause-number c = let T = c.args.trace.now in (act-within T c.args.number (act T.format c.requires.0) (c.requires.0, c.requires.1, refl)).1

pub returns : goal.returns
returns c =
    let T = c.args.trace.now in
    let n = c.args.number in
    let flags = c.in_ok-chosen.chosen in
    let one = c.choose_for_range.new.chosen in
    let two = c.choose_for_range-2.new.chosen in
    let size : flags.len ≡ length flags.items = omega (arith, c.as_mut_slice.ensures.len, ap (λ xs. length xs) c.as_mut_slice.ensures.value) in
    let long : length one ≡ length flags.items = c.in_ok-choose_for_range.ensures.size ∙ sym c.in_ok-chosen.ensures.size in
    let again : length two ≡ length one = c.in_ok-choose_for_range-2.ensures.size ∙ sym c.in_ok-choose_for_range.ensures.size in
    let whole : refill flags.len flags.items one ≡ one = refill-all flags.len flags.items one size long in
    let all : refill flags.len (refill flags.len flags.items one) two ≡ two = ap (λ xs. refill flags.len xs two) whole ∙ refill-all flags.len one two (size ∙ sym long) again in
    let first = subst (λ xs. HasChosen T c.args.first 0 n xs one) c.as_mut_slice.ensures.value c.in_ok-choose_for_range.ensures.chosen in
    let second = subst (λ xs. HasChosen T c.args.second 0 n xs two) (c.as_mut_slice-2.ensures.value ∙ whole) c.in_ok-choose_for_range-2.ensures.chosen in
    let seen : c.as_slice.result.now ≡ two = c.as_slice.ensures.value ∙ all in
    ordered-slice T n c.requires.0 c.args.first c.args.second c.in_ok-numbers.numbers flags.items one two c.requires.1 c.requires.2 c.in_ok-numbers.ensures.rising
    (λ k. let just = c.in_ok-numbers.ensures.just k in (λ has. subst (λ xs. IsChosen xs k) seen (just.0 has), λ own. just.1 (subst (λ xs. IsChosen xs k) (sym seen) own))) c.in_ok-chosen.ensures.just first second
