-- A lane is set where its byte is no digit.
use Rattle.std.proofs.Common.{cond, leb, not, refl}
use Rattle.std.proofs.lemmas.Simd.{splat_is_map, zip2_of_maps, zip2_splat}
use Rattle.std.specs.Char.{is_ascii_digit}
use Rattle.pmt_lanes.proofs.LaneLemmas.{masked}
use Rattle.pmt_lanes.proofs.runs.other_than_decimal.Goals as goal

pub returns : goal.returns
returns c =
    let v = c.args.bytes in
    let long = c.fits-bytes.0 in
    masked _ (λ x. not (is_ascii_digit x)) v _ long c.fits-bytes.1 (zip2_of_maps (λ a b. cond (leb a b) 255 0) _ _ v (splat_is_map v 16 10 long) (zip2_splat _ v 16 48 long)) refl
