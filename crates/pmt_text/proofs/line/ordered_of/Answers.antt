-- At each return, what the fields are as an assertion on two spans.
use Rattle.std.proofs.Common.{sym, ◌∙◌, ap, ap₂}
use Rattle.std.proofs.lemmas.Result.{err_from_is_err_and}
use Rattle.pmt_text.specs.Judging.{fields_left, span_checked}
use Rattle.pmt_text.proofs.OpLemmas.{left-some, left-none}
use Rattle.pmt_text.proofs.AssertLemmas.{ordered-none, ordered-one, ordered-more, ordered-last, ordered_of}
use Rattle.pmt_text.proofs.line.ordered_of.Goals as goal

pub returns-in_default : goal.returns-in_default
returns-in_default c = ordered-none (fields_left c.args.rest) c.in_default.ensures

pub returns-in_default-next_span : goal.returns-in_default-next_span
returns-in_default-next_span c =
    ordered-one (fields_left c.args.rest) (fields_left c.in-Some.rest) c.in-Some.addr c.in-Some.len c.in-Some.ensures c.in_default-next_span.ensures

pub returns-then-is_some : goal.returns-then-is_some
returns-then-is_some c =
    ordered-more (fields_left c.args.rest) (fields_left c.in-Some.rest) (fields_left c.in-Some-next_span.rest) c.in-Some.addr c.in-Some.len c.in-Some-next_span.later_addr c.in-Some-next_span.later_len
    c.in-Some.ensures c.in-Some-next_span.ensures (left-some c.in-Some-next_span.rest (sym c.is_some.ensures ∙ c.if-is_some.true))

pub returns-in_err-first : goal.returns-in_err-first
returns-in_err-first c =
    let p = err_from_is_err_and c.from_residual.result c.from_residual.ensures.1 in
    rw (p.1, p.2) (ap (λ r. ordered_of r (span_checked c.in-Some-next_span.later_addr c.in-Some-next_span.later_len)) c.in_err-first.ensures
    ∙ ordered-last (fields_left c.args.rest) (fields_left c.in-Some.rest) (fields_left c.in-Some-next_span.rest) c.in-Some.addr c.in-Some.len c.in-Some-next_span.later_addr c.in-Some-next_span.later_len
    c.in-Some.ensures c.in-Some-next_span.ensures (left-none c.in-Some-next_span.rest (sym c.is_some.ensures ∙ c.if-is_some.false)))

pub returns-in_err-second : goal.returns-in_err-second
returns-in_err-second c =
    let p = err_from_is_err_and c.from_residual-in_err-second.result c.from_residual-in_err-second.ensures.1 in
    rw (p.1, p.2) (ap₂ ordered_of c.in_ok-first.ensures c.in_err-second.ensures
    ∙ ordered-last (fields_left c.args.rest) (fields_left c.in-Some.rest) (fields_left c.in-Some-next_span.rest) c.in-Some.addr c.in-Some.len c.in-Some-next_span.later_addr c.in-Some-next_span.later_len
    c.in-Some.ensures c.in-Some-next_span.ensures (left-none c.in-Some-next_span.rest (sym c.is_some.ensures ∙ c.if-is_some.false)))

pub returns : goal.returns
returns c =
    ap₂ ordered_of c.in_ok-first.ensures c.in_ok-second.ensures
    ∙ ordered-last (fields_left c.args.rest) (fields_left c.in-Some.rest) (fields_left c.in-Some-next_span.rest) c.in-Some.addr c.in-Some.len c.in-Some-next_span.later_addr c.in-Some-next_span.later_len
    c.in-Some.ensures c.in-Some-next_span.ensures (left-none c.in-Some-next_span.rest (sym c.is_some.ensures ∙ c.if-is_some.false))
