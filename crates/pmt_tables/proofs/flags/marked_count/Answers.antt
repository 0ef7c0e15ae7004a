use Rattle.std.proofs.Common.{suc, [], ◌∷◌, length, take, true, false, ap, ◌∙◌, arith, length-append, append-nil}
use Rattle.std.proofs.lemmas.List.{take_all}
use Rattle.pmt_tables.specs.Flags.{marked_from}
use Rattle.pmt_tables.proofs.FlagLemmas.{marked-next}
use Rattle.pmt_tables.proofs.flags.marked_count.Goals as goal
use Rattle.pmt_tables.proofs.flags.marked_count.Goals.{then-is_marked, else-is_marked}

pub overflow_add-count : goal.overflow_add-count
overflow_add-count c = omega (arith, c.loop-is_marked.invariant.1, c.loop-is_marked.auto.is_marked-index-end)

pub loop-is_marked-preserved : goal.loop-is_marked-preserved
loop-is_marked-preserved c =
    let i = c.loop-is_marked.is_marked-index in
    let marks = c.args.marked.now in
    let few = c.loop-is_marked.invariant.1 in
    elim c.if-is_marked.branch [
      | then-is_marked w ↦
          let next = marked-next marks i true c.loop-is_marked-test.true w.if-is_marked.true in
          let long = ap length next ∙ length-append (marked_from 0 (take i marks)) (suc i ∷ []) in
          (omega (arith, w.count-is, c.loop-is_marked.invariant.0, long), omega (arith, w.count-is, few))
      | else-is_marked w ↦
          let next = marked-next marks i false c.loop-is_marked-test.true w.if-is_marked.false in
          let same = ap length next ∙ ap length (append-nil (marked_from 0 (take i marks))) in
          (omega (arith, w.count-is, c.loop-is_marked.invariant.0, same), omega (arith, w.count-is, few))
    ]

pub returns : goal.returns
returns c = c.loop-is_marked.invariant.0 ∙ ap (λ m. length (marked_from 0 m)) (take_all c.loop-is_marked.is_marked-index c.args.marked.now c.loop-is_marked-test.false)
