-- What comes after the ops so far is what comes from the whole text.
use Rattle.std.proofs.Common.{◌≡◌, [], length}
use Rattle.pmt_text.specs.Texts.{script_then}
use Rattle.pmt_text.proofs.text.read_script.Given as goal

abbrev pub invariant-loop-line : goal.invariant-loop-line
invariant-loop-line l = script_then l.ops.items l.rest ≡ script_then [] l.fn.text

abbrev pub decreases-loop-line : goal.decreases-loop-line
decreases-loop-line l = length l.rest
