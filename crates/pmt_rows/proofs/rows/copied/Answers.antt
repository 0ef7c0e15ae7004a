use Rattle.std.proofs.Common.{List, ℕ, get_or, sym, ap, subst, ◌∙◌, arith}
use Rattle.std.proofs.lemmas.Grind.{elements}
use Rattle.std.specs.Prelude.{nat_eq}
use Rattle.std.specs.List.{IsDistinct}
use Rattle.pmt_tables.specs.Slots.{insert_line}
use Rattle.pmt_rows.proofs.SlotLemmas.{inserted-next}
use Rattle.pmt_rows.proofs.rows.copied.Goals as goal

pub loop-line-preserved : goal.loop-line-preserved
loop-line-preserved c = λ once.
    let lines = c.lines-line-items.result.now in
    let i = c.loop-line.line-index in
    c.in_ok-insert.ensures.lines ∙ ap (λ (ks : List ℕ). insert_line ks (get_or lines i 0)) (c.loop-line.invariant once)
    ∙ inserted-next lines i (subst (IsDistinct nat_eq) (sym c.lines-line-items.ensures) once) (omega arith)

pub returns : goal.returns
returns c = grind (arith, elements)
