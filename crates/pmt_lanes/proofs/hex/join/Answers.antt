-- Two digits are a byte.
use Rattle.pmt_lanes.proofs.DigitLemmas.{join_is, low_byte}
use Rattle.pmt_lanes.proofs.hex.join.Goals as goal

pub overflow_cast-result : goal.overflow_cast-result
overflow_cast-result c = (low_byte _, (low_byte _, (low_byte _, (low_byte _, (low_byte _, (low_byte _, (low_byte _, (low_byte _, tt))))))))

pub returns : goal.returns
returns c = join_is c.args.digits c.fits-digits.0 c.requires
