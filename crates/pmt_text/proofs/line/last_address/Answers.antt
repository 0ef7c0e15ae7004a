-- At each return, what the one field is.
use Rattle.std.proofs.Common.{sym, ◌∙◌}
use Rattle.pmt_text.specs.Judging.{fields_left}
use Rattle.pmt_text.proofs.OpLemmas.{left-some, left-none, flushed-none, flushed-more, flushed-last, address-ok, address-err}
use Rattle.pmt_text.proofs.line.last_address.Goals as goal

pub returns-in_default : goal.returns-in_default
returns-in_default c = flushed-none (fields_left c.args.rest) c.in_default.ensures

pub returns-then-is_some : goal.returns-then-is_some
returns-then-is_some c =
    flushed-more (fields_left c.args.rest) (fields_left c.in-Some.rest) c.in-Some.addr c.in-Some.ensures (left-some c.in-Some.rest (sym c.is_some.ensures ∙ c.if-is_some.true))

pub returns-in-Ok : goal.returns-in-Ok
returns-in-Ok c =
    address-ok c.in-Some.addr c.in-Ok.addr c.in-Ok.ensures
    ∙ flushed-last (fields_left c.args.rest) (fields_left c.in-Some.rest) c.in-Some.addr c.in-Some.ensures (left-none c.in-Some.rest (sym c.is_some.ensures ∙ c.if-is_some.false))

pub returns-in-Err : goal.returns-in-Err
returns-in-Err c =
    address-err c.in-Some.addr c.in-Err.field-0 c.in-Err.ensures
    ∙ flushed-last (fields_left c.args.rest) (fields_left c.in-Some.rest) c.in-Some.addr c.in-Some.ensures (left-none c.in-Some.rest (sym c.is_some.ensures ∙ c.if-is_some.false))
