-- The bytes so far are those of the word.
use Rattle.std.proofs.Common.{◌≡◌, ◌-◌, ◌≤◌, ℕ, ◌<◌, length, get_or}
use Rattle.pmt_text.proofs.spelled.take_word.Given as goal

abbrev pub invariant-loop-at : goal.invariant-loop-at
invariant-loop-at l = (l.at ≤ length l.word) × ((k : ℕ) → k < l.at → get_or l.text k 0 ≡ get_or l.word k 0)

abbrev pub decreases-loop-at : goal.decreases-loop-at
decreases-loop-at l = length l.word - l.at
