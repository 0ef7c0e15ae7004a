-- What comes after the events so far is what comes from the whole text.
use Rattle.std.proofs.Common.{◌≡◌, length}
use Rattle.pmt_text.specs.Texts.{trace_then}
use Rattle.pmt_text.proofs.text.read_events.Given as goal

abbrev pub invariant-loop-judged : goal.invariant-loop-judged
invariant-loop-judged l = trace_then l.trace l.rest ≡ trace_then l.fn.trace l.fn.text

abbrev pub decreases-loop-judged : goal.decreases-loop-judged
decreases-loop-judged l = length l.rest
