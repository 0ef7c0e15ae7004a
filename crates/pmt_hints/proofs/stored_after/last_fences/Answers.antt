use Rattle.std.proofs.Common.{◌≡◌, ◌+◌, ◌-◌, get_or, sym, ap, ◌∙◌, arith}
use Rattle.std.proofs.lemmas.Bool.{eq-eqb, or_left, or_right, true≢false}
use Rattle.pmt_hints.proofs.LeftLemmas.{ends-more}
use Rattle.pmt_hints.proofs.stored_after.last_fences.Goals as goal
use Rattle.pmt_hints.proofs.stored_after.last_fences.Goals.{then-is_left_first, else-is_left_first}

pub loop-index-preserved : goal.loop-index-preserved
loop-index-preserved c =
    let i = c.loop-index.index in
    let fences = c.args.fences.now in
    let here : i + 1 - 1 ≡ i = omega arith in
    let more = ends-more c.args.waited.now c.args.places.now fences c.args.flushes.now i c.loop-index.ends.items c.if-is_left_first.ends.items in
    elim c.if-is_left_first.branch [
      | then-is_left_first w ↦
          let own : w.number_of.result ≡ get_or fences i 0 = w.number_of.ensures ∙ ap (λ k. get_or fences k 0) here in
          more (λ j so. rw w.ends-is (w.set_end.ensures j ∙ or_right _ _ so)) (λ left. rw w.ends-is (w.set_end.ensures (get_or fences i 0) ∙ or_left _ _ (eq-eqb _ _ own))) c.loop-index.invariant
      | else-is_left_first w ↦
          more (λ j so. rw w.ends-is so) (λ left. absurd (true≢false (sym left ∙ sym c.is_left_first.ensures ∙ w.if-is_left_first.false))) c.loop-index.invariant
    ]
