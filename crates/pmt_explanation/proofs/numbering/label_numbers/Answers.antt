use Rattle.std.proofs.Common.{rules, ◌≡◌, ℕ, ◌+◌, List, ◌∷◌, ◌++◌, [], length, Option, sym, ap, subst, arith, length-append}
use Rattle.pmt_explanation.specs.Summing.{AreFirsts, AreLabelNumbers, IsLabelNumber, first_in}
use Rattle.pmt_explanation.proofs.NumberingLemmas.{numbered-more}
use Rattle.pmt_explanation.proofs.numbering.label_numbers.Goals as goal

pub loop-index-preserved : goal.loop-index-preserved
loop-index-preserved c =
    let labels = c.args.labels.now in
    let i = c.loop-index.index in
    let before = c.loop-index.invariant in
    let own : IsLabelNumber labels (i + 1) c.in_ok-number.number = search rules in
    let firsts : AreFirsts labels (i + 1) (first_in c.next_number.new.firsts) = search rules in
    let new : c.push.new.self.items ≡ c.loop-index.numbers.items ++ c.in_ok-number.number ∷ [] = search rules in
    record {
      size = omega (arith, before.size, length-append c.loop-index.numbers.items (c.in_ok-number.number ∷ []), ap (λ (os : List (Option ℕ)). length os) new);
      numbers = subst (AreLabelNumbers labels (i + 1)) (sym new) (numbered-more labels i c.loop-index.numbers.items c.in_ok-number.number before.size before.numbers own);
      firsts = firsts;
    }
