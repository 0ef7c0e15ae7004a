use Rattle.std.proofs.Common.{◌+◌, ◌*◌, arith}
use Rattle.std.proofs.lemmas.Grind.{elements}
use Rattle.pmt_tables.specs.Lasts.{last_at}
use Rattle.pmt_sweep.specs.Known.{last_in_line}
use Rattle.pmt_sweep.proofs.ReadingLemmas.{oldest-all, oldest-next, word-same}
use Rattle.pmt_sweep.proofs.known.Known.oldest.Goals as goal

pub loop-word-preserved : goal.loop-word-preserved
loop-word-preserved c = λ T n k it.
    let s = c.args.self.now in
    let word = c.loop-word.word in
    oldest-next word c.args.low c.args.high c.part_of_word-part.result (last_in_line T n k) (last_at s.words (c.args.slot * s.words_of_line + word)) c.part_of_word-part.ensures
    (word-same T n k c.args.slot s it word (omega (arith, c.loop-word-test.true, c.requires.within, c.requires.some))) c.loop-word.oldest c.oldest-found.result c.older-oldest.result
    c.older-oldest.ensures.either c.older-oldest.ensures.first c.older-oldest.ensures.second c.oldest-found.ensures (c.loop-word.invariant T n k it)

pub returns : goal.returns
returns c = λ T n l it. oldest-all c.args.low c.args.high (c.loop-word.word * 8) c.loop-word.oldest (last_in_line T n l) (omega (arith, c.loop-word-test.false, c.requires.some)) (c.loop-word.invariant T n l it)

pub overflow_mul-first : goal.overflow_mul-first
overflow_mul-first c = grind (arith, elements)

pub loop-word-init : goal.loop-word-init
loop-word-init c = grind (arith, elements)

pub overflow_add-first : goal.overflow_add-first
overflow_add-first c = grind (arith, elements)

pub oldest-found-requires-clause-within : goal.oldest-found-requires-clause-within
oldest-found-requires-clause-within c = grind (arith, elements)
