-- At each return, what comes after the ops so far; and one line on.
use Rattle.std.proofs.Common.{ℕ, ◌+◌, sym, ◌∙◌, ap}
use Rattle.std.proofs.lemmas.Result.{err_from_is_err_and}
use Rattle.pmt_text.specs.declared.kind.TextKind.TheVariants.{Truncated}
use Rattle.pmt_text.specs.declared.kind.ReadError.TheVariants as answers
use Rattle.pmt_text.specs.Texts.{error_at}
use Rattle.pmt_text.proofs.ReaderLemmas.{is_empty, not_empty, script_then-line, refuses_fault, refuses_truncated, script_then-end, script_judged-lines}
use Rattle.pmt_text.proofs.text.read_script.Goals as goal

pub returns-in_err-push_op : goal.returns-in_err-push_op
returns-in_err-push_op c =
    let p = err_from_is_err_and c.from_residual.result c.from_residual.ensures.1 in
    rw (p.1, p.2) ((refuses_fault c.loop-line.ops.items c.push_op.new.ops.items c.loop-line.rest.now c.in-Some.line.now c.in-Some.after.now c.in_err-push_op.field-0.0 _
    c.in-Some.ensures.0 c.in_err-push_op.ensures (c.loop-line.invariant ∙ script_judged-lines c.args.text.now)))

pub loop-line-preserved : goal.loop-line-preserved
loop-line-preserved c =
    script_then-line c.loop-line.ops.items c.push_op.new.ops.items c.loop-line.rest.now c.in-Some.line.now c.in-Some.after.now _ c.in-Some.ensures.0 c.in_ok-push_op.ensures ∙ c.loop-line.invariant

pub returns-then-not-is_empty : goal.returns-then-not-is_empty
returns-then-not-is_empty c =
    (refuses_truncated c.loop-line.ops.items c.loop-line.rest.now c.fault_at.result _ c.in_default.ensures
    (not_empty c.loop-line.rest.now c.is_empty.result c.is_empty.ensures c.if-not-is_empty.true)
    (c.fault_at.ensures ∙ ap (λ (n : ℕ). answers.Text (error_at (1 + n) Truncated)) (c.len.ensures ∙ c.loop-line.ops.ok.0)) (c.loop-line.invariant ∙ script_judged-lines c.args.text.now))

pub returns : goal.returns
returns c =
    sym (script_judged-lines c.args.text.now) ∙ sym c.loop-line.invariant
    ∙ script_then-end c.loop-line.ops.items c.loop-line.rest.now c.in_default.ensures (is_empty c.loop-line.rest.now c.is_empty.result c.is_empty.ensures c.if-not-is_empty.false)
