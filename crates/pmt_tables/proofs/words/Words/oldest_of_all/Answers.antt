use Rattle.std.proofs.Common.{◌<◌, subst, sym, arith}
use Rattle.std.proofs.lemmas.Grind.{elements}
use Rattle.pmt_tables.specs.Lasts.{last_at, IsLeastAbove, first_table}
use Rattle.pmt_tables.proofs.ByteLemmas.{least-same, whole-all}
use Rattle.pmt_tables.proofs.SeenLemmas.{read-is, read-whole, read-table}
use Rattle.pmt_tables.proofs.words.Words.oldest_of_all.Goals as goal

pub returns-then-known-ge-FIRST_TABLE : goal.returns-then-known-ge-FIRST_TABLE
returns-then-known-ge-FIRST_TABLE c =
    least-same 0 0 8 _ _ c.least_above.result (λ k from to. read-table c.args.self.now c.self.inside.words.items c.self.inside.tables.items c.self.view_is c.self.invariant c.args.word c.index-known.result.now c.requires.within c.index-known.ensures
    c.index.result.now (omega (arith, c.if-known-ge-FIRST_TABLE.true)) c.index.ensures k to) c.least_above.ensures

pub returns : goal.returns
returns c =
    let less : c.index-known.result.now < first_table = omega (arith, c.if-known-ge-FIRST_TABLE.false) in
    let whole = read-is c.args.self.now c.self.inside.words.items c.self.inside.tables.items c.self.view_is c.self.invariant c.args.word c.index-known.result.now c.requires.within c.index-known.ensures less in
    subst (IsLeastAbove 0 0 8 (last_at c.args.self.now c.args.word)) (sym c.number_of.ensures)
    (least-same 0 0 8 _ _ _ (λ k from to. read-whole c.args.self.now c.self.inside.words.items c.self.inside.tables.items c.self.view_is c.self.invariant c.args.word c.index-known.result.now c.requires.within c.index-known.ensures less k to) (whole-all c.index-known.result.now whole))

pub index-known-requires : goal.index-known-requires
index-known-requires c = grind (arith, elements)

pub index-requires : goal.index-requires
index-requires c = grind (arith, elements)

pub least_above-requires-clause-eight : goal.least_above-requires-clause-eight
least_above-requires-clause-eight c = grind (arith, elements)
