use Rattle.std.proofs.Common.{◌≡◌, ◌<◌, true, inl, rules, arith}
use Rattle.std.proofs.lemmas.Grind.{common_steps, elements}
use Rattle.std.specs.Prelude.{nat_lt, nat_le, ◌&&◌}
use Rattle.std.proofs.lemmas.Bool.{ltb-true, and_parts}
use Rattle.pmt_tables.specs.Lasts.{first_table, is_covered, IsWhole, low_of, high_of}
use Rattle.pmt_tables.proofs.AddingLemmas.{adds-same}
use Rattle.pmt_tables.proofs.SeenLemmas.{read-whole, stored-whole}
use Rattle.pmt_tables.proofs.words.Words.store.Goals as goal

pub returns-clause-stored : goal.returns-clause-stored
returns-clause-stored c =
    let covered : is_covered c.index-old.result.now c.args.low c.args.high ≡ true = search (rules, c.covers.ensures, c.if-not-covers.false) in
    let new : IsWhole c.packed.result = record { some = inl (omega (arith, c.packed.ensures.first, c.packed.ensures.last, c.requires.some)); eight = omega (arith, c.packed.ensures.last, c.requires.eight) } in
    stored-whole c.args.self.now c.self.inside.words.items c.self.inside.tables.items c.self.view_is c.self.invariant c.args.word c.index-old.result.now c.requires.within c.index-old.ensures c.packed.result c.args.low c.args.high c.args.number covered c.packed.ensures.store
    c.packed.ensures.first c.packed.ensures.last c.packed.ensures.whole new

pub returns-clause-over : goal.returns-clause-over
returns-clause-over c =
    let covered : is_covered c.index-old.result.now c.args.low c.args.high ≡ true = search (rules, c.covers.ensures, c.if-not-covers.false) in
    let parts = and_parts (nat_lt c.index-old.result.now first_table) (nat_le c.args.low (low_of c.index-old.result.now) && nat_le (high_of c.index-old.result.now) c.args.high) covered in
    let less : c.index-old.result.now < first_table = ltb-true c.index-old.result.now first_table parts.0 in
    adds-same c.args.flush c.args.number c.args.low c.args.high _ _ c.args.over.now.items c.push_whole.new.over.items (λ k from to. read-whole c.args.self.now c.self.inside.words.items c.self.inside.tables.items c.self.view_is c.self.invariant c.args.word
    c.index-old.result.now c.requires.within c.index-old.ensures less k (omega (arith, to, c.requires.eight))) c.in_ok-push_whole.ensures

pub index-old-requires : goal.index-old-requires
index-old-requires c = grind (arith, common_steps)

pub push_whole-requires-clause-whole : goal.push_whole-requires-clause-whole
push_whole-requires-clause-whole c = grind (arith, elements)

pub index_mut-requires : goal.index_mut-requires
index_mut-requires c = grind (arith, elements)

pub returns-clause-many : goal.returns-clause-many
returns-clause-many c = grind (arith, elements)
