-- The word.
use Rattle.std.proofs.Common.{length, sym, ap, ◌∙◌, ◌++◌, arith}
use Rattle.std.proofs.lemmas.List.{take_rest}
use Rattle.pmt_text.proofs.SpelledReading.{word-first}
use Rattle.pmt_text.proofs.spelled.take_word.Goals as goal

pub returns : goal.returns
returns c =
    let word = c.args.word.now in
    let text = c.args.text.now in
    word-first word text (omega arith) (λ k below. c.loop-at.invariant.1 k (omega arith)) ∙ ap (λ xs. word ++ xs) (sym (take_rest text (length word)))
