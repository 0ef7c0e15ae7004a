use Rattle.std.proofs.Common.{◌%◌, refl, arith}
use Rattle.pmt_explain.proofs.FirstInLemmas.{byte-none, byte-some}
use Rattle.pmt_explain.proofs.first_in.first_with_byte.Goals as goal

pub returns-then-store-eq0 : goal.returns-then-store-eq0
returns-then-store-eq0 c = λ i known.
    byte-none c.args.search.now c.requires.search i c.args.words.now c.args.index c.args.byte c.newest-store.result (c.args.byte % 8) c.requires.from c.requires.below refl c.newest-store.ensures known c.args.first
    (omega (arith, c.if-store-eq0.true))

pub returns : goal.returns
returns c = λ i known.
    byte-some c.args.search.now c.requires.search i c.args.words.now c.args.index c.args.byte c.newest-store.result (c.args.byte % 8) c.requires.from c.requires.below refl c.newest-store.ensures known c.args.first
    c.earlier.result (omega (arith, c.if-store-eq0.false)) c.earlier.ensures
