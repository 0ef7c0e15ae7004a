-- The word of each form stands before the rest of its line.
use Rattle.pmt_text.specs.declared.word.Word.TheVariants as words
use Rattle.pmt_text.proofs.SpelledReading.{line-first}
use Rattle.pmt_text.proofs.spelled.take_event.Goals as goal

pub returns-in-Some : goal.returns-in-Some
returns-in-Some c = line-first words.Store c.args.text.now c.in-Some.rest.now c.after_store.result c.in-Some.ensures c.after_store.ensures

pub returns-in-Some-take_word : goal.returns-in-Some-take_word
returns-in-Some-take_word c = line-first words.Clwb c.args.text.now c.in-Some-take_word.rest.now c.after_clwb.result c.in-Some-take_word.ensures c.after_clwb.ensures

pub returns-in-Some-take_word-2 : goal.returns-in-Some-take_word-2
returns-in-Some-take_word-2 c = line-first words.Sfence c.args.text.now c.in-Some-take_word-2.rest.now c.after_sfence.result c.in-Some-take_word-2.ensures c.after_sfence.ensures
