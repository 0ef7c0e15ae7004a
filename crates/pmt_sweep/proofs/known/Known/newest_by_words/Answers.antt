use Rattle.std.proofs.Common.{◌+◌, ◌*◌, subst, sym, arith}
use Rattle.std.proofs.lemmas.Grind.{elements}
use Rattle.pmt_tables.specs.Lasts.{last_at}
use Rattle.pmt_sweep.specs.Known.{last_in_line}
use Rattle.pmt_sweep.proofs.ReadingLemmas.{IsNewestBelow, newest-all, newest-next, word-same}
use Rattle.pmt_sweep.proofs.known.Known.newest_by_words.Goals as goal

pub loop-word-preserved : goal.loop-word-preserved
loop-word-preserved c = λ T n k it.
    let s = c.args.self.now in
    let word = c.loop-word.word in
    subst (IsNewestBelow c.args.low c.args.high ((word + 1) * 8) (last_in_line T n k)) (sym c.newer-newest.ensures)
    (newest-next word c.args.low c.args.high c.part_of_word-part.result (last_in_line T n k) (last_at s.words (c.args.slot * s.words_of_line + word)) c.part_of_word-part.ensures
    (word-same T n k c.args.slot s it word (omega (arith, c.loop-word-test.true, c.requires.within, c.requires.some))) c.loop-word.newest c.newest-found.result c.newest-found.ensures (c.loop-word.invariant T n k it))

pub returns : goal.returns
returns c = λ T n l it. newest-all c.args.low c.args.high (c.loop-word.word * 8) c.loop-word.newest (last_in_line T n l) (omega (arith, c.loop-word-test.false, c.requires.some)) (c.loop-word.invariant T n l it)

pub overflow_mul-first : goal.overflow_mul-first
overflow_mul-first c = grind (arith, elements)

pub newest-found-requires-clause-within : goal.newest-found-requires-clause-within
newest-found-requires-clause-within c = grind (arith, elements)

pub loop-word-init : goal.loop-word-init
loop-word-init c = grind (arith, elements)

pub part_of_word-part-requires-clause-to : goal.part_of_word-part-requires-clause-to
part_of_word-part-requires-clause-to c = grind arith

pub overflow_add-first : goal.overflow_add-first
overflow_add-first c = grind arith

pub newest-found-requires-clause-some : goal.newest-found-requires-clause-some
newest-found-requires-clause-some c = grind arith
