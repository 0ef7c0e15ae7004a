-- The word of each form stands before the rest of its line.
use Rattle.pmt_text.specs.declared.word.Word.TheVariants as words
use Rattle.pmt_text.proofs.SpelledReading.{line-first}
use Rattle.pmt_text.proofs.spelled.take_other.Goals as goal

pub returns-in-Some : goal.returns-in-Some
returns-in-Some c = line-first words.IsPersist c.args.text.now c.in-Some.rest.now c.after_persist.result c.in-Some.ensures c.after_persist.ensures

pub returns-in-Some-take_word : goal.returns-in-Some-take_word
returns-in-Some-take_word c = line-first words.IsOrderedBefore c.args.text.now c.in-Some-take_word.rest.now c.after_ordered.result c.in-Some-take_word.ensures c.after_ordered.ensures

pub returns-in-Some-take_word-2 : goal.returns-in-Some-take_word-2
returns-in-Some-take_word-2 c = line-first words.ClflushOpt c.args.text.now c.in-Some-take_word-2.rest.now c.after_clflushopt.result c.in-Some-take_word-2.ensures c.after_clflushopt.ensures

pub returns-in-Some-take_word-3 : goal.returns-in-Some-take_word-3
returns-in-Some-take_word-3 c = line-first words.Clflush c.args.text.now c.in-Some-take_word-3.rest.now c.after_clflush.result c.in-Some-take_word-3.ensures c.after_clflush.ensures

pub returns-in-Some-take_word-4 : goal.returns-in-Some-take_word-4
returns-in-Some-take_word-4 c = line-first words.Mfence c.args.text.now c.in-Some-take_word-4.rest.now c.after_mfence.result c.in-Some-take_word-4.ensures c.after_mfence.ensures
