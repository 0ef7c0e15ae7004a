-- The number, and what stands after its digits.
use Rattle.std.proofs.Common.{ℕ, List, ◌++◌, inr, refl, sym, ap, ◌∙◌}
use Rattle.std.proofs.lemmas.List.{take_rest}
use Rattle.pmt_lanes.specs.Digits.{is_hex_digit}
use Rattle.pmt_text.specs.Spelling.{numeral}
use Rattle.pmt_text.proofs.LaneReading.{hex-digit, number-first}
use Rattle.pmt_text.proofs.spelled.take_hex.Goals as goal

pub returns-in-Some : goal.returns-in-Some
returns-in-Some c =
    let text = c.args.text.now in
    let told = c.in-Some.ensures in
    number-first 16 15 is_hex_digit text c.in-Some.number c.in-Some.count (inr refl) hex-digit (told.found.0 refl).1 told.digits told.value
    ∙ ap (λ (xs : List ℕ). numeral 16 c.in-Some.number ++ xs) (sym (take_rest text c.in-Some.count))
