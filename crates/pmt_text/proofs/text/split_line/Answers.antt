-- The first LF cuts off the first line.
use Rattle.std.proofs.Common.{ℕ, ◌+◌, ◌<◌, List, ◌∷◌, length, take, sym, ap, ◌∙◌, arith, eq-eqb, eqb-true, length-drop}
use Rattle.std.proofs.lemmas.List.{take_rest}
use Rattle.pmt_text.specs.Coming.{text_lines}
use Rattle.pmt_text.proofs.LineLemmas.{parts-at, parts-none}
use Rattle.pmt_text.proofs.text.split_line.Goals as goal

pub returns-in_err-end : goal.returns-in_err-end
returns-in_err-end c = rw c.from_residual.ensures (parts-none 10 c.args.text.now (λ k l e. c.in_err-end.ensures k (omega arith) l (eq-eqb _ _ e)))

pub returns : goal.returns
returns c =
    let text = c.args.text.now in
    let end = c.in_ok-end.end in
    let found = c.in_ok-end.ensures in
    let within : end < length text = found.0.high in
    let cut = take_rest text (end + 1) in (
      parts-at 10 text end within (eqb-true _ _ found.1) (λ k l e. found.0.before k (omega arith) l (eq-eqb _ _ e))
          ∙ ap (λ (rest : List ℕ). take end text ∷ text_lines rest) (sym cut),
      omega (arith, ap length cut, length-drop (end + 1) text),
    )
