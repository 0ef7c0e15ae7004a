use Rattle.pmt_page.proofs.Prelude.{◌≡◌, ℕ, ◌+◌, ◌<◌, length, drop, get_or, dropped_letter}
use Rattle.pmt_page.proofs.dropping.letters_of.Given as goal

abbrev pub invariant-loop-index : goal.invariant-loop-index
invariant-loop-index l = (length l.letters.items ≡ l.count) × ((i : ℕ) → i < l.count → get_or l.letters.items i 0 ≡ dropped_letter (drop l.index l.dropped) (i + 1))
