use Rattle.std.proofs.Common.{ℕ, ◌+◌, ◌≤◌, List, length}
use Rattle.pmt_laws.specs.Prelude.{Event, Recording}
use Rattle.pmt_trimming.specs.Passing.{AreDecidedFrom, AreMarks}
use Rattle.pmt_trimming.specs.Streaming.{HasLeftTo, IsHeldAt}
use Rattle.pmt_trimming.proofs.whole_text.pop_decided.Given as goal

abbrev pub invariant-loop-index : goal.invariant-loop-index
invariant-loop-index l =
    (l.index ≤ length l.marks)
    × ((T : Recording) (place : ℕ) (waiting : List Event) → AreMarks T place l.marks → place + length l.marks ≤ length T.events → IsHeldAt T place waiting l.fn.held → HasLeftTo T (place + l.index) l.left)
    × ((T : Recording) (place : ℕ) → AreMarks T place l.marks → AreDecidedFrom T place (place + l.index))
