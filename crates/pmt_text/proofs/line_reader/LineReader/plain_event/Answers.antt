-- The line that stands first in the piece.
use Rattle.std.proofs.Common.{◌≡◌, ◌∙◌, [], sym, arith, eqb-true}
use Rattle.std.proofs.lemmas.Grind.{elements}
use Rattle.std.proofs.lemmas.List.{nil_from_length}
use Rattle.pmt_text.proofs.EventLemmas.{length-first, plain-at}
use Rattle.pmt_text.proofs.line_reader.LineReader.plain_event.Goals as goal

pub overflow_sub-len-in-Some : goal.overflow_sub-len-in-Some
overflow_sub-len-in-Some g c = omega (arith, length-first c.args.format c.in-Some.event c.as_slice-piece.result.now c.in-Some.rest.now c.in-Some.ensures)

pub returns-in-Some : goal.returns-in-Some
returns-in-Some g c =
    let front = c.args.self.now.front.items in
    let none : front ≡ [] = nil_from_length front (omega (arith, eqb-true _ _ (sym c.is_empty.ensures ∙ c.if-not-is_empty.false), c.args.self.now.front.ok.0)) in
    plain-at c.args.format c.in-Some.event c.args.self.now c.as_slice-piece.result.now c.in-Some.rest.now c.as_slice-piece.ensures none c.in-Some.ensures

pub overflow_sub-len : goal.overflow_sub-len
overflow_sub-len g c = grind (arith, elements)
