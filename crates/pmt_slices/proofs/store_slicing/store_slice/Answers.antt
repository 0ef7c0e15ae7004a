use Rattle.pmt_slices.proofs.Prelude.{◌≡◌, length, sym, ap, subst, ◌∙◌, arith, IsChosen, Chooses, IsOfFate}
use Rattle.pmt_slices.proofs.TakenLemmas.{refill-all}
use Rattle.pmt_slices.proofs.StoreSliceLemmas.{slice-made}
use Rattle.pmt_slices.proofs.store_slicing.store_slice.Goals as goal

pub returns : goal.returns
returns c = λ t w is fate.
    let T = c.args.trace.now in
    let flags = c.in_ok-chosen.chosen in
    let ws = c.choose_fate.new.chosen in
    let chooses = subst (λ xs. Chooses (IsOfFate c.args.number c.args.fate (length xs)) xs ws) c.as_mut_slice.ensures.value c.choose_fate.ensures in
    let same = refill-all flags.len flags.items ws (omega (arith, c.as_mut_slice.ensures.len, ap (λ xs. length xs) c.as_mut_slice.ensures.value)) chooses.size in
    let seen : c.as_slice.result.now ≡ ws = c.as_slice.ensures.value ∙ same in
    slice-made T t c.args.number w c.args.fate is fate c.in_ok-numbers.numbers flags.items ws c.in_ok-numbers.ensures.rising
    (λ k. let just = c.in_ok-numbers.ensures.just k in (λ has. subst (λ xs. IsChosen xs k) seen (just.0 has), λ own. just.1 (subst (λ xs. IsChosen xs k) (sym seen) own)))
    c.in_ok-chosen.ensures.none (c.in_ok-chosen.ensures.size ∙ c.len.ensures.value) chooses
