-- At each return, what the line is judged as.
use Rattle.std.proofs.Common.{◌∙◌, ap}
use Rattle.pmt_model.specs.Values.{Layout}
use Rattle.pmt_text.specs.Judging.{word_in, fields_left}
use Rattle.pmt_text.proofs.JudgeLemmas.{script_line-no_word, script_line-op}
use Rattle.pmt_text.proofs.line.judge_script_line.Goals as goal

pub returns-in_default : goal.returns-in_default
returns-in_default c =
    script_line-no_word c.args.line.now c.split_field.result.0.now (fields_left c.split_field.result.1) c.split_field.ensures
    (c.in_default.ensures ∙ ap (λ (f : Layout). word_in f c.split_field.result.0.now) c.v1.ensures)

pub returns : goal.returns
returns c =
    c.op_of.ensures
    ∙ script_line-op c.args.line.now c.split_field.result.0.now (fields_left c.split_field.result.1) c.in-Some.word c.split_field.ensures
    (c.in-Some.ensures ∙ ap (λ (f : Layout). word_in f c.split_field.result.0.now) c.v1.ensures)
