use Rattle.std.proofs.Common.{ap, ◌∙◌, ◌++◌}
use Rattle.serde_json.specs.Data.{Data}
use Rattle.serde_json.specs.Written.{has_float}
use Rattle.pmt_explain_json.specs.Entries.{json_line}
use Rattle.pmt_explain_json.proofs.NoFloats.{failure-float}
use Rattle.pmt_explain_json.proofs.lines.push_failure.Goals as goal

pub push_value-requires : goal.push_value-requires
push_value-requires c = ap has_float c.in_ok-value.ensures ∙ failure-float c.args.trace.now c.args.labels.now c.in_ok-crash.crash

pub returns : goal.returns
returns c = (
  c.in_ok-crash.crash,
  c.in_ok-crash.ensures.crash,
  c.in_ok-crash.ensures.same,
  c.in_ok-push_value.ensures ∙ ap (λ (v : Data). c.args.text.now.items ++ json_line v) c.in_ok-value.ensures,
)
