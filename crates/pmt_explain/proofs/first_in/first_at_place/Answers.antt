use Rattle.std.proofs.Common.{◌≡◌, ◌==◌, true, length, sym, ap, subst, ◌∙◌, arith}
use Rattle.std.proofs.lemmas.Grind.{elements}
use Rattle.std.specs.Prelude.{◌||◌, nat_lt}
use Rattle.std.proofs.lemmas.Option.{slice_get_within}
use Rattle.pmt_explain.specs.Crashes.{IsBlockIn}
use Rattle.pmt_explain.proofs.FirstInLemmas.{block-after, block-known, block-past}
use Rattle.pmt_explain.proofs.first_in.first_at_place.Goals as goal

pub returns-then-comes_after : goal.returns-then-comes_after
returns-then-comes_after c = λ i knows.
    block-after c.args.search.now c.requires.search i c.args.writers.now c.args.block knows c.args.place c.requires.place c.first_store.result c.args.first c.first_store.ensures
    (subst (λ b. ((c.first_store.result == 0) || nat_lt b c.first_store.result) ≡ true) c.bound_of.ensures (sym c.comes_after.ensures.after ∙ c.if-comes_after.true)) c.comes_after.ensures.small

pub returns-then-is_past : goal.returns-then-is_past
returns-then-is_past c = λ i knows.
    block-past c.args.search.now c.requires.search i c.args.writers.now c.args.block knows c.args.place c.requires.place c.last_store.result c.args.first c.last_store.ensures (c.is_past.ensures c.if-is_past.true)

pub first_with_words-requires-clause-within : goal.first_with_words-requires-clause-within
first_with_words-requires-clause-within c =
    omega (arith, c.requires.blocks.words, slice_get_within c.args.writers.now.blocks.places c.args.place c.args.block c.requires.place, ap length c.words.ensures)

pub returns : goal.returns
returns c = λ i knows.
    c.first_with_words.ensures i
    (subst (λ ws. IsBlockIn c.args.search.now i ws c.args.place c.args.block) (sym c.words.ensures) (block-known c.args.search.now c.requires.search i c.args.writers.now c.args.block knows c.args.place c.requires.place))

pub first_store-requires : goal.first_store-requires
first_store-requires c = grind (arith, elements)

pub last_store-requires : goal.last_store-requires
last_store-requires c = grind (arith, elements)
