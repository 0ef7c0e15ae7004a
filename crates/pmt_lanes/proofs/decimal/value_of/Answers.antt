-- Each digit counts what its place is worth.
use Rattle.std.proofs.Common.{arith}
use Rattle.std.proofs.lemmas.List.Sums.{prefix_len_passes}
use Rattle.std.specs.Char.{is_ascii_digit}
use Rattle.pmt_lanes.proofs.DecimalLemmas.{value_is}
use Rattle.pmt_lanes.proofs.decimal.value_of.Goals as goal

pub returns : goal.returns
returns c =
    value_is c.args.count c.requires.some c.requires.few c.args.bytes c.fits-bytes.0 (λ k below. prefix_len_passes is_ascii_digit c.args.bytes k 0 (omega (arith, below, c.requires.run)))
