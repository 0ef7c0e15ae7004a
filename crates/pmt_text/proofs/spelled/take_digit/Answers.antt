-- One digit.
use Rattle.std.proofs.Common.{ℕ, List, ◌++◌, sym, ap, ◌∙◌, arith}
use Rattle.std.proofs.lemmas.List.{take_rest}
use Rattle.pmt_text.specs.Spelling.{numeral}
use Rattle.pmt_text.proofs.LaneReading.{digit-first}
use Rattle.pmt_text.proofs.spelled.take_digit.Goals as goal

pub returns : goal.returns
returns c =
    let text = c.args.text.now in
    digit-first text c.digit-value.result (omega arith) c.digit-value.ensures (omega arith) ∙ ap (λ (xs : List ℕ). numeral 10 c.digit-value.result ++ xs) (sym (take_rest text 1))
