-- The number, and what stands after its digits.
use Rattle.std.proofs.Common.{ℕ, List, ◌++◌, inl, refl, sym, ap, ◌∙◌}
use Rattle.std.proofs.lemmas.List.{take_rest}
use Rattle.std.specs.Char.{is_ascii_digit}
use Rattle.pmt_text.specs.Spelling.{numeral}
use Rattle.pmt_text.proofs.LaneReading.{decimal-digit, number-first}
use Rattle.pmt_text.proofs.spelled.take_decimal.Goals as goal

pub returns-in-Some : goal.returns-in-Some
returns-in-Some c =
    let text = c.args.text.now in
    let told = c.in-Some.ensures in
    number-first 10 4 is_ascii_digit text c.in-Some.number c.in-Some.count (inl refl) decimal-digit (told.found.0 refl).1 told.digits told.value
    ∙ ap (λ (xs : List ℕ). numeral 10 c.in-Some.number ++ xs) (sym (take_rest text c.in-Some.count))
