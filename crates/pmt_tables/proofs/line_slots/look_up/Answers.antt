use Rattle.std.proofs.Common.{inl, inr, sym, ap, ◌∙◌, arith}
use Rattle.std.specs.Prelude.{slice_index}
use Rattle.std.proofs.lemmas.Bool.{true≢false}
use Rattle.pmt_tables.proofs.CellLemmas.{past-next, none-past}
use Rattle.pmt_tables.proofs.line_slots.look_up.Goals as goal

pub loop-look-init : goal.loop-look-init
loop-look-init c = λ k less. absurd (omega (arith, less))

pub loop-look-preserved : goal.loop-look-preserved
loop-look-preserved c =
    past-next c.args.lines.now c.args.cells.now c.args.line c.loop-look.look (slice_index c.args.cells.now c.cell_of-cell.result) c.loop-look.invariant (ap (slice_index c.args.cells.now) (sym c.cell_of-cell.ensures.cell)) c.if-entry-eq0.false
    (λ at. true≢false (sym (c.is_at.ensures.1 at) ∙ c.if-is_at.false))

pub returns-then-entry-eq0-clause-found : goal.returns-then-entry-eq0-clause-found
returns-then-entry-eq0-clause-found c =
    none-past c.args.lines.now c.args.cells.now c.args.line c.loop-look.look c.requires c.loop-look.invariant (inl (ap (slice_index c.args.cells.now) (sym c.cell_of-cell.ensures.cell) ∙ c.if-entry-eq0.true))

pub returns-clause-found : goal.returns-clause-found
returns-clause-found c = none-past c.args.lines.now c.args.cells.now c.args.line c.loop-look.look c.requires c.loop-look.invariant (inr c.loop-look-test.false)
