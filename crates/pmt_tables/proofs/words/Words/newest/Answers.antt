use Rattle.std.proofs.Common.{arith}
use Rattle.std.proofs.lemmas.Grind.{elements}
use Rattle.pmt_tables.proofs.ByteLemmas.{newest-same}
use Rattle.pmt_tables.proofs.SeenLemmas.{read-is, read-whole, read-table}
use Rattle.pmt_tables.proofs.words.Words.newest.Goals as goal

pub returns-then-known-ge-FIRST_TABLE : goal.returns-then-known-ge-FIRST_TABLE
returns-then-known-ge-FIRST_TABLE c =
    newest-same c.args.low c.args.high _ _ c.newest.result (λ k from to. read-table c.args.self.now c.self.inside.words.items c.self.inside.tables.items c.self.view_is c.self.invariant c.args.word c.index-known.result.now c.requires.within c.index-known.ensures
    c.index.result.now (omega (arith, c.if-known-ge-FIRST_TABLE.true)) c.index.ensures k (omega (arith, to, c.requires.eight))) c.newest.ensures

pub number_in-requires-clause-whole : goal.number_in-requires-clause-whole
number_in-requires-clause-whole c =
    read-is c.args.self.now c.self.inside.words.items c.self.inside.tables.items c.self.view_is c.self.invariant c.args.word c.index-known.result.now c.requires.within c.index-known.ensures (omega (arith, c.if-known-ge-FIRST_TABLE.false))

pub returns : goal.returns
returns c =
    newest-same c.args.low c.args.high _ _ c.number_in.result (λ k from to. read-whole c.args.self.now c.self.inside.words.items c.self.inside.tables.items c.self.view_is c.self.invariant c.args.word c.index-known.result.now c.requires.within c.index-known.ensures
    (omega (arith, c.if-known-ge-FIRST_TABLE.false)) k (omega (arith, to, c.requires.eight))) c.number_in.ensures.newest

pub index-known-requires : goal.index-known-requires
index-known-requires c = grind (arith, elements)

pub index-requires : goal.index-requires
index-requires c = grind (arith, elements)

pub newest-requires-clause-eight : goal.newest-requires-clause-eight
newest-requires-clause-eight c = grind (arith, elements)
