use Rattle.pmt_page.proofs.Prelude.{◌≡◌, ℕ, ◌<◌, ◌/◌, ◌%◌, List, [], ◌∷◌, ◌++◌, ap, ◌∙◌, arith, digit, short}
use Rattle.pmt_page.proofs.NumberLemmas.{short-added}
use Rattle.pmt_page.proofs.digits.+push_short.Goals as goal

pub returns : goal.returns
returns measure c =
    let number = c.args.number in
    let text = c.args.text.now.items in
    let above : 0 < number = omega (arith, c.if-number-eq0.false) in
    let before : c.push_short.new.text.items ≡ text ++ short (number / 64) = c.in_ok-push_short.ensures in
    let last : c.digit.result ≡ digit (number % 64) = c.digit.ensures in
    c.in_ok-push.ensures.items
    ∙ ap (λ (t : List ℕ). t ++ c.digit.result ∷ []) before
    ∙ ap (λ (d : ℕ). (text ++ short (number / 64)) ++ d ∷ []) last
    ∙ short-added text number above
