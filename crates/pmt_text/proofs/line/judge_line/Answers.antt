-- At each return, what the line is judged as.
use Rattle.std.proofs.Common.{◌∙◌, ap}
use Rattle.pmt_text.specs.Judging.{fields_left, with_thread}
use Rattle.pmt_text.proofs.JudgeLemmas.{line-no_word, line-no_thread, line-event}
use Rattle.pmt_text.specs.JudgedEvents.{allowed_line}
use Rattle.pmt_text.proofs.line.judge_line.Goals as goal

pub returns-in_default-clause-judged : goal.returns-in_default-clause-judged
returns-in_default-clause-judged c = line-no_word c.args.format c.args.line.now c.split_field.result.0.now (fields_left c.split_field.result.1) c.split_field.ensures c.in_default.ensures

pub returns-in_default-next_number-clause-judged : goal.returns-in_default-next_number-clause-judged
returns-in_default-next_number-clause-judged c =
    line-no_thread c.args.format c.args.line.now c.split_field.result.0.now (fields_left c.split_field.result.1) c.in-Some.word c.split_field.ensures c.in-Some.ensures c.in_default-next_number.ensures

pub returns-clause-judged : goal.returns-clause-judged
returns-clause-judged c =
    c.event_of.ensures ∙ ap (with_thread c.in-Some-next_number.thread) c.op_of.ensures
    ∙ line-event c.args.format c.args.line.now c.split_field.result.0.now (fields_left c.split_field.result.1) (fields_left c.in-Some-next_number.rest) c.in-Some.word c.in-Some-next_number.thread
    c.split_field.ensures c.in-Some.ensures c.in-Some-next_number.ensures

pub returns-clause-in_format : goal.returns-clause-in_format
returns-clause-in_format c = allowed_line c.args.format c.args.line.now c.event_of.result (returns-clause-judged c)
