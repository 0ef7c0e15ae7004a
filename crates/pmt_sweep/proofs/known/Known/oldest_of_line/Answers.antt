use Rattle.std.proofs.Common.{◌+◌, ◌*◌, ◌≤◌, arith}
use Rattle.std.proofs.lemmas.Grind.{elements}
use Rattle.pmt_tables.specs.Lasts.{last_at}
use Rattle.pmt_sweep.specs.Known.{last_in_line}
use Rattle.pmt_sweep.proofs.ReadingLemmas.{all-of_word, line-size, oldest-all, oldest-next, word-same}
use Rattle.pmt_sweep.proofs.known.Known.oldest_of_line.Goals as goal

pub loop-word-preserved : goal.loop-word-preserved
loop-word-preserved c = λ T n k it.
    let s = c.args.self.now in
    let word = c.loop-word.word in
    let within : (word + 1) * 8 ≤ s.format.line_size = omega (arith, c.loop-word-test.true, line-size T n k c.args.slot s it) in
    oldest-next word 0 s.format.line_size (record { word = word; low = 0; high = 8 }) (last_in_line T n k) (last_at s.words (c.args.slot * s.words_of_line + word)) (all-of_word word s.format.line_size within)
    (word-same T n k c.args.slot s it word (omega (arith, within))) c.loop-word.oldest c.oldest_of_all.result c.older-oldest.result
    c.older-oldest.ensures.either c.older-oldest.ensures.first c.older-oldest.ensures.second c.oldest_of_all.ensures (c.loop-word.invariant T n k it)

pub returns : goal.returns
returns c = λ T n l it. oldest-all 0 c.args.self.now.format.line_size (c.loop-word.word * 8) c.loop-word.oldest (last_in_line T n l) (omega (arith, c.loop-word-test.false, line-size T n l c.args.slot c.args.self.now it)) (c.loop-word.invariant T n l it)

pub loop-word-init : goal.loop-word-init
loop-word-init c = grind (arith, elements)

pub overflow_add-first : goal.overflow_add-first
overflow_add-first c = grind (arith, elements)

pub oldest_of_all-requires : goal.oldest_of_all-requires
oldest_of_all-requires c = grind (arith, elements)

pub overflow_mul-first : goal.overflow_mul-first
overflow_mul-first c = grind (arith, elements)
