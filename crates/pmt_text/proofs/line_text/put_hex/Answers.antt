-- Fewer than five digits, fewer than nine, and more.
use Rattle.std.proofs.Common.{◌/◌, refl, arith}
use Rattle.pmt_text.proofs.LinePutting.{put-then, put-fewer}
use Rattle.pmt_text.proofs.NumberWriting.{numeral-fours}
use Rattle.pmt_text.proofs.line_text.put_hex.Goals as goal

pub returns-then-number-lt-FOUR_LIMIT : goal.returns-then-number-lt-FOUR_LIMIT
returns-then-number-lt-FOUR_LIMIT c = put-fewer 12 c.put_short.ensures (omega arith)

pub returns-then-rest-lt-FOUR_LIMIT : goal.returns-then-rest-lt-FOUR_LIMIT
returns-then-rest-lt-FOUR_LIMIT c =
    let four = c.put_four-at in
    let short = c.put_short-then-rest-lt-FOUR_LIMIT in
    rw (numeral-fours c.args.number (omega arith)) (put-fewer 12 (put-then _ _ _ _ _ _ 8 4 4 _ _ four.ensures.puts short.ensures refl) (omega arith))

pub returns : goal.returns
returns c =
    let n = c.args.number in
    let four = c.put_four-at in
    let second = c.put_four-at-2 in
    let short = c.put_short-2 in
    rw (numeral-fours n (omega arith)) (put-then _ _ _ _ _ _ 12 4 8 _ _ four.ensures.puts (rw (numeral-fours (n / 65536) (omega arith)) (put-then _ _ _ _ _ _ 8 4 4 _ _ second.ensures.puts short.ensures refl)) refl)
