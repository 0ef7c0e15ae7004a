-- The number of the digits so far, all of which are digits of the base.
use Rattle.std.proofs.Common.{◌≡◌, ℕ, ◌<◌, take, get_or}
use Rattle.std.specs.Str.Parse.{digits_value}
use Rattle.pmt_text.specs.Judging.{capped, digit_of}
use Rattle.pmt_text.proofs.number.read_number.Given as goal

abbrev pub invariant-loop-byte : goal.invariant-loop-byte
invariant-loop-byte l =
    (l.number ≡ capped (digits_value l.base (take l.byte-index l.field))) × ((k : ℕ) → k < l.byte-index → digit_of (get_or l.field k 0) < l.base)
