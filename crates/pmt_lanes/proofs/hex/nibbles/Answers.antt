-- Each lane is the value of its digit.
use Rattle.std.proofs.Common.{bit_and, cond, leb, refl, ◌∙◌}
use Rattle.std.proofs.lemmas.Simd.{splat_is_map, zip2_of_maps, zip2_splat}
use Rattle.pmt_lanes.specs.Digits.{nibble}
use Rattle.pmt_lanes.proofs.LaneLemmas.{choice, same_values}
use Rattle.pmt_lanes.proofs.hex.nibbles.Goals as goal

pub returns : goal.returns
returns c =
    let v = c.args.bytes in
    let long = c.fits-bytes.0 in
    let no_letter = zip2_of_maps (λ a b. cond (leb a b) 255 0) _ _ v (splat_is_map v 16 6 long) (zip2_splat _ v 16 97 long) in
    zip2_of_maps _ _ _ v (zip2_splat bit_and v 16 15 long) (choice _ 0 9 v long no_letter) ∙ same_values _ nibble refl v c.fits-bytes.1
