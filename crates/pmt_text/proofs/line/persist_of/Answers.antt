-- At each return, what the fields are as an assertion on one span.
use Rattle.std.proofs.Common.{sym, ◌∙◌, ap}
use Rattle.std.proofs.lemmas.Result.{err_from_is_err_and}
use Rattle.pmt_text.specs.Judging.{fields_left}
use Rattle.pmt_text.proofs.OpLemmas.{left-some, left-none}
use Rattle.pmt_text.proofs.AssertLemmas.{persist-none, persist-more, persist-last, persisted_of}
use Rattle.pmt_text.proofs.line.persist_of.Goals as goal

pub returns-in_default : goal.returns-in_default
returns-in_default c = persist-none (fields_left c.args.rest) c.in_default.ensures

pub returns-then-is_some : goal.returns-then-is_some
returns-then-is_some c =
    persist-more (fields_left c.args.rest) (fields_left c.in-Some.rest) c.in-Some.addr c.in-Some.len c.in-Some.ensures (left-some c.in-Some.rest (sym c.is_some.ensures ∙ c.if-is_some.true))

pub returns-in_err-range : goal.returns-in_err-range
returns-in_err-range c =
    let p = err_from_is_err_and c.from_residual.result c.from_residual.ensures.1 in
    rw (p.1, p.2) (ap persisted_of c.in_err-range.ensures ∙ persist-last (fields_left c.args.rest) (fields_left c.in-Some.rest) c.in-Some.addr c.in-Some.len c.in-Some.ensures (left-none c.in-Some.rest (sym c.is_some.ensures ∙ c.if-is_some.false)))

pub returns : goal.returns
returns c =
    ap persisted_of c.in_ok-range.ensures ∙ persist-last (fields_left c.args.rest) (fields_left c.in-Some.rest) c.in-Some.addr c.in-Some.len c.in-Some.ensures (left-none c.in-Some.rest (sym c.is_some.ensures ∙ c.if-is_some.false))
