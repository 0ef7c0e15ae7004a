-- At each return, what comes after the events so far; and one line on.
use Rattle.std.proofs.Common.{ℕ, ◌+◌, sym, ◌∙◌, ap, Ok, Err}
use Rattle.std.proofs.lemmas.Result.{err_from_is_err_and}
use Rattle.pmt_text.specs.declared.kind.TextKind.TheVariants.{Truncated}
use Rattle.pmt_text.specs.declared.kind.ReadError.TheVariants as answers
use Rattle.pmt_text.specs.Texts.{error_at}
use Rattle.pmt_text.proofs.ReaderLemmas.{in_format, adds-line, is_empty, not_empty, trace_then-line, gives_fault, gives_truncated, trace_then-end}
use Rattle.pmt_text.proofs.text.read_events.Goals as goal

pub returns-in_err-push_judged : goal.returns-in_err-push_judged
returns-in_err-push_judged c =
    let p = err_from_is_err_and c.from_residual.result c.from_residual.ensures.1 in
    let first = in_format c.loop-judged.trace c.format.result c.in-Some.judged c.loop-judged.rest.now c.in-Some.after c.format.ensures.value c.in-Some.ensures.first in
    rw (p.1, p.2) (gives_fault c.loop-judged.trace c.push_judged.new.trace c.loop-judged.rest.now first.0 c.in-Some.after.now c.in_err-push_judged.field-0.0 _ first.1
    (adds-line c.loop-judged.trace c.push_judged.new.trace first.0 c.in-Some.judged (Err c.in_err-push_judged.field-0.0) first.2 c.in_err-push_judged.ensures) c.loop-judged.invariant)

pub loop-judged-preserved : goal.loop-judged-preserved
loop-judged-preserved c =
    let first = in_format c.loop-judged.trace c.format.result c.in-Some.judged c.loop-judged.rest.now c.in-Some.after c.format.ensures.value c.in-Some.ensures.first in
    trace_then-line c.loop-judged.trace c.push_judged.new.trace c.loop-judged.rest.now first.0 c.in-Some.after.now _ first.1
    (adds-line c.loop-judged.trace c.push_judged.new.trace first.0 c.in-Some.judged (Ok tt) first.2 c.in_ok-push_judged.ensures) ∙ c.loop-judged.invariant

pub returns-then-not-is_empty : goal.returns-then-not-is_empty
returns-then-not-is_empty c =
    gives_truncated c.loop-judged.trace c.loop-judged.rest.now c.fault_at.result _ c.in_default.ensures.first (not_empty c.loop-judged.rest.now c.is_empty.result c.is_empty.ensures c.if-not-is_empty.true)
    (c.fault_at.ensures ∙ ap (λ (n : ℕ). answers.Text (error_at (2 + n) Truncated)) c.len.ensures.value) c.loop-judged.invariant

pub returns : goal.returns
returns c =
    sym c.loop-judged.invariant ∙ trace_then-end c.loop-judged.trace c.loop-judged.rest.now c.in_default.ensures.first (is_empty c.loop-judged.rest.now c.is_empty.result c.is_empty.ensures c.if-not-is_empty.false)
