-- The digits, and a space and 0x in front of them.
use Rattle.std.proofs.Common.{refl, arith}
use Rattle.pmt_text.specs.Spelling.{address}
use Rattle.pmt_text.proofs.LinePutting.{put-then, put-fewer}
use Rattle.pmt_text.proofs.line_text.put_address.Goals as goal

pub returns : goal.returns
unfolding address
returns c = rw (← c.get.ensures.value) (put-fewer 23 (put-then _ _ _ _ _ _ 15 12 3 _ _ c.put_hex-at.ensures c.put_word.ensures refl) (omega arith))
