-- The first bytes are those of the pairs of digits so far.
use Rattle.std.proofs.Common.{◌≡◌, ℕ, ◌+◌, ◌*◌, ◌<◌, length, get_or}
use Rattle.pmt_text.specs.Judging.{paired, digit_of}
use Rattle.pmt_text.proofs.number.read_bytes.Given as goal

abbrev pub invariant-loop-i : goal.invariant-loop-i
invariant-loop-i l =
    (length l.out ≡ 8) × ((k : ℕ) → k < l.i → digit_of (get_or l.field (2 * k) 0) < 16) × ((k : ℕ) → k < l.i → digit_of (get_or l.field (2 * k + 1) 0) < 16)
    × ((k : ℕ) → k < l.i → k < 8 → get_or l.out k 0 ≡ get_or (paired l.field) k 0)
