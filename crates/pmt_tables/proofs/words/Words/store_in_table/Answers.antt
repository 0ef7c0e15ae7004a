use Rattle.std.proofs.Common.{arith}
use Rattle.std.proofs.lemmas.Grind.{elements}
use Rattle.pmt_tables.proofs.AddingLemmas.{adds-same}
use Rattle.pmt_tables.proofs.SeenLemmas.{made-last, stored-table}
use Rattle.pmt_tables.proofs.words.Words.store_in_table.Goals as goal

pub returns-clause-stored : goal.returns-clause-stored
returns-clause-stored c =
    stored-table c.args.self.now c.self.inside.words.items c.split.new.words.items c.self.inside.tables.items c.split.new.tables.items c.self.view_is c.self.invariant c.in_ok-at.ensures.are c.in_ok-at.ensures.many c.in_ok-at.ensures.same c.args.word c.in_ok-at.at
    c.requires.within c.in_ok-at.ensures.here c.args.low c.args.high c.args.number c.index_mut.result.now c.write.new.table c.index_mut.ensures.value c.write.ensures.eight c.write.ensures.each

pub returns-clause-over : goal.returns-clause-over
returns-clause-over c =
    adds-same c.args.flush c.args.number c.args.low c.args.high _ _ c.args.over.now.items c.push_overwritten.new.over.items (λ k from to. made-last c.args.self.now c.self.inside.words.items c.split.new.words.items c.self.inside.tables.items c.split.new.tables.items c.self.view_is
    c.self.invariant c.in_ok-at.ensures.are c.in_ok-at.ensures.many c.in_ok-at.ensures.same c.args.word c.in_ok-at.at c.requires.within c.in_ok-at.ensures.here c.index.result.now c.index.ensures k (omega (arith, to, c.requires.eight))) c.in_ok-push_overwritten.ensures

pub split-requires-clause-within : goal.split-requires-clause-within
split-requires-clause-within c = grind (arith, elements)

pub returns-in_err-at-clause-many : goal.returns-in_err-at-clause-many
returns-in_err-at-clause-many c = grind (arith, elements)

pub index-requires : goal.index-requires
index-requires c = grind (arith, elements)

pub push_overwritten-requires-clause-eight : goal.push_overwritten-requires-clause-eight
push_overwritten-requires-clause-eight c = grind (arith, elements)

pub returns-in_err-push_overwritten-clause-many : goal.returns-in_err-push_overwritten-clause-many
returns-in_err-push_overwritten-clause-many c = grind (arith, elements)

pub index_mut-requires : goal.index_mut-requires
index_mut-requires c = grind (arith, elements)

pub write-requires-clause-eight : goal.write-requires-clause-eight
write-requires-clause-eight c = grind (arith, elements)

pub invariant_of-self-2 : goal.invariant_of-self-2
invariant_of-self-2 c = grind (arith, elements)

pub returns-clause-many : goal.returns-clause-many
returns-clause-many c = grind (arith, elements)
