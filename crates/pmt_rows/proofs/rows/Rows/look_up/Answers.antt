use Rattle.std.proofs.Common.{◌++◌, ◌∷◌, [], ap, sym, ◌∙◌}
use Rattle.pmt_rows.specs.Known.{empty_row}
use Rattle.pmt_rows.proofs.RowLemmas.{known-new, known-old}
use Rattle.pmt_rows.proofs.rows.Rows.look_up.Goals as goal

pub returns-then-is_new-clause-known : goal.returns-then-is_new-clause-known
returns-then-is_new-clause-known c = λ lines last safe flush is.
    known-new lines last safe flush c.args.self.now is c.args.line _ (sym c.if-is_new.true ∙ c.in_ok-slot.ensures.added) c.in_ok-slot.ensures.lines c.in_ok-slot.ensures.unique
    (c.push_reserved.ensures.items ∙ ap (λ rows. rows ++ empty_row ∷ []) c.reserve.ensures.items)

pub returns-else-is_new-clause-known : goal.returns-else-is_new-clause-known
returns-else-is_new-clause-known c = λ lines last safe flush is.
    known-old lines last safe flush c.args.self.now is c.args.line _ (sym c.if-is_new.false ∙ c.in_ok-slot.ensures.added) c.in_ok-slot.ensures.lines c.reserve.ensures.items
