-- The word of each kind stands before the rest of its line.
use Rattle.std.proofs.Common.{arith, Some}
use Rattle.std.proofs.lemmas.Grind.{elements}
use Rattle.pmt_text.specs.declared.word.Word.TheVariants as words
use Rattle.pmt_text.proofs.SpelledReading.{line-first}
use Rattle.pmt_text.proofs.plain.add_first.Goals as goal

pub add_plain-requires-clause-first : goal.add_plain-requires-clause-first
add_plain-requires-clause-first c =
    let after = c.in-Some-after_clwb in
    line-first words.Clwb c.args.text.now c.in-Some-take_word.rest.now (Some (after.event, after.left)) c.in-Some-take_word.ensures after.ensures

pub add_plain-requires-in-Some-take_word-2-clause-first : goal.add_plain-requires-in-Some-take_word-2-clause-first
add_plain-requires-in-Some-take_word-2-clause-first c =
    let after = c.in-Some-after_sfence in
    line-first words.Sfence c.args.text.now c.in-Some-take_word-2.rest.now (Some (after.event, after.left)) c.in-Some-take_word-2.ensures after.ensures

pub returns-in_default-2 : goal.returns-in_default-2
returns-in_default-2 c = grind (arith, elements)
