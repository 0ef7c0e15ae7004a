-- At each return, what the text is.
use Rattle.std.proofs.Common.{sym, ◌∙◌, ap, subst, Err}
use Rattle.pmt_model.specs.Traces.{Recording}
use Rattle.pmt_text.specs.declared.kind.ReadError.{ReadError}
use Rattle.pmt_text.specs.Coming.{Coming, judged, GivesTrace}
use Rattle.pmt_text.specs.Texts.{trace_then}
use Rattle.pmt_text.proofs.ReaderLemmas.{judged-no_line, judged-no_header, judged-header}
use Rattle.pmt_text.proofs.text.read_trace.Goals as goal

pub returns-in_default : goal.returns-in_default
returns-in_default c = subst (λ (e : ReadError). GivesTrace (Err e) (judged c.args.text.now)) (sym c.fault_at.ensures) (judged-no_line c.args.text.now c.in_default.ensures)

pub returns-in_default-judge_header : goal.returns-in_default-judge_header
returns-in_default-judge_header c =
    subst (λ (e : ReadError). GivesTrace (Err e) (judged c.args.text.now)) (sym c.fault_at-in_default-judge_header.ensures)
    (judged-no_header c.args.text.now c.in-Some.line.now c.in-Some.rest.now c.in-Some.ensures.0 c.in_default-judge_header.ensures)

pub returns : goal.returns
returns c =
    subst (λ (x : Coming). GivesTrace c.read_events.result x)
    (ap (λ (t : Recording). trace_then t c.in-Some.rest.now) c.new_with.ensures ∙ judged-header c.args.text.now c.in-Some.line.now c.in-Some.rest.now c.in-Some-judge_header.format c.in-Some.ensures.0 c.in-Some-judge_header.ensures)
    c.read_events.ensures
