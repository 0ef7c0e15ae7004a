use Rattle.std.proofs.Common.{sym, ap, ◌∙◌, arith}
use Rattle.std.specs.Prelude.{if◌then◌else◌, None, Some}
use Rattle.pmt_laws.specs.Prelude.{range_with_len, history}
use Rattle.pmt_failures.proofs.UnwritingLemmas.{noted-before, none-told, told-same}
use Rattle.pmt_failures.specs.Showing.{is_written}
use Rattle.pmt_failures.proofs.unwritten.unless_written.Goals as goal

pub returns-then-is_written_near-clause-told : goal.returns-then-is_written_near-clause-told
returns-then-is_written_near-clause-told c = none-told (is_written (history c.args.trace.now c.args.count)) c.args.range (c.is_written_near.ensures c.if-is_written_near.true)

pub returns-then-has_any-clause-told : goal.returns-then-has_any-clause-told
returns-then-has_any-clause-told c =
    let T = c.args.trace.now in
    let r = c.args.range in
    let n = c.args.count in
    let are = c.in_ok-note_until.ensures in
    none-told (is_written (history T n)) r (noted-before T n c.note_until.new.noted (range_with_len r.addr r.len) are.noted (omega (arith, c.requires.within)) (sym c.has_any.ensures ∙ c.if-has_any.true))

pub returns-clause-told : goal.returns-clause-told
returns-clause-told c =
    let T = c.args.trace.now in
    let r = c.args.range in
    let are = c.in_ok-note_until.ensures in
    sym (ap (λ t. if t then None else Some r) (sym c.has_any.ensures ∙ c.if-has_any.false)) ∙ told-same T c.args.count c.note_until.new.noted r are.noted are.all
