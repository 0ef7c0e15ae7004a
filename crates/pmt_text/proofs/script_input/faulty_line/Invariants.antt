use Rattle.std.proofs.Common.{◌≡◌, ◌≤◌, true, length}
use Rattle.pmt_model.specs.Traces.{event_limit}
use Rattle.pmt_text.specs.Judging.{script_line_judged}
use Rattle.pmt_text.specs.Coming.{text_lines, lines_coming, script_coming}
use Rattle.pmt_text.proofs.script_input.faulty_line.Given as goal

abbrev pub invariant-loop-line : goal.invariant-loop-line
invariant-loop-line l = record {
  few : l.count ≤ event_limit;
  left : (lines_coming script_line_judged true 1 l.count (text_lines l.rest)).fault ≡ (script_coming true l.fn.text).fault;
}

abbrev pub decreases-loop-line : goal.decreases-loop-line
decreases-loop-line l = length l.rest
