use Rattle.std.proofs.Common.{◌≡◌, ◌<◌, inl, inr, length, sym, ap, subst, ◌∙◌, arith}
use Rattle.std.specs.Prelude.{slice_index}
use Rattle.std.proofs.lemmas.Bool.{cases_lt}
use Rattle.pmt_tables.specs.Slots.{IsReached, cell_at}
use Rattle.pmt_tables.proofs.CellLemmas.{seen_at, read-is, put-others, put-reached}
use Rattle.pmt_tables.proofs.line_slots.put.Goals as goal

pub loop-look-preserved : goal.loop-look-preserved
loop-look-preserved c = (
  c.loop-look.invariant.0,
  λ k less. elim (cases_lt k c.loop-look.look) [
    | inl before ↦ c.loop-look.invariant.1 k before
    | inr last ↦
        let cells = c.loop-look.cells.items in
        let e : c.loop-look.look ≡ k = omega (arith, less, last) in
        let within : c.cell_of-cell.result < length cells = omega (arith, c.cell_of-cell.ensures.within, c.len.ensures) in
        let size : c.len.result ≡ length cells = omega (arith, c.len.ensures) in
        let at = c.cell_of-cell.ensures.cell ∙ ap (λ n. cell_at n c.args.line c.loop-look.look) size in
        let read = read-is cells c.cell_of-cell.result c.index-other.result.now within c.index-other.ensures in
        λ none. c.if-other-eq0.false (sym read ∙ ap (slice_index cells) at ∙ ap (seen_at cells c.args.line) e ∙ none)
  ],
)

pub returns-then-other-eq0-clause-reached : goal.returns-then-other-eq0-clause-reached
returns-then-other-eq0-clause-reached c = λ _.
    let cells = c.loop-look.cells.items in
    let within : c.cell_of-cell.result < length cells = omega (arith, c.cell_of-cell.ensures.within, c.len.ensures) in
    let size : c.len.result ≡ length cells = omega (arith, c.len.ensures) in
    let at = c.cell_of-cell.ensures.cell ∙ ap (λ n. cell_at n c.args.line c.loop-look.look) size in
    let free = read-is cells c.cell_of-cell.result c.index-other.result.now within c.index-other.ensures ∙ c.if-other-eq0.true in
    let less : c.loop-look.look < length cells = omega (arith, c.loop-look-test.true, ap length c.loop-look.invariant.0) in
    put-reached cells c.cell_of-cell.result c.args.entry within free c.args.line c.loop-look.look at less c.loop-look.invariant.1

pub returns-then-other-eq0-clause-others : goal.returns-then-other-eq0-clause-others
returns-then-other-eq0-clause-others c = λ l e some r.
    let cells = c.loop-look.cells.items in
    let within : c.cell_of-cell.result < length cells = omega (arith, c.cell_of-cell.ensures.within, c.len.ensures) in
    let free = read-is cells c.cell_of-cell.result c.index-other.result.now within c.index-other.ensures ∙ c.if-other-eq0.true in
    put-others cells c.cell_of-cell.result c.args.entry within free l e some (subst (λ cs. IsReached cs l e) (sym c.loop-look.invariant.0) r)
