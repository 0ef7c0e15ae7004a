use Rattle.std.proofs.Common.{◌≡◌, sym, ap, subst, ◌∙◌, arith}
use Rattle.std.specs.Prelude.{slice_index, slice_set}
use Rattle.std.proofs.lemmas.Grind.{get_or_default_zero}
use Rattle.pmt_rows.specs.Known.{IsChain, with_place}
use Rattle.pmt_rows.proofs.ChainLemmas.{IsStep, IsWalking, walk-starts, walk-step, walk-on, walk-ends}
use Rattle.pmt_rows.proofs.links.Links.raise.Goals as goal

pub loop-number-init : goal.loop-number-init
loop-number-init c = λ stores chain. walk-starts c.self.inside.entries.items c.args.safe c.args.last c.args.place stores chain

pub index-before-requires : goal.index-before-requires
index-before-requires c =
    let chain : IsChain c.self.inside.entries.items c.args.safe c.args.last c.requires.0 = subst (λ e. IsChain e c.args.safe c.args.last c.requires.0) (sym c.self.view_is) c.requires.1 in
    let s : IsStep c.loop-number.self-inside.entries.items c.args.safe c.loop-number.number _ = walk-step _ _ _ _ _ _ c.loop-number-test.true (c.loop-number.invariant c.requires.0 chain) in
    omega (arith, s.within)

pub index_mut-requires : goal.index_mut-requires
index_mut-requires c =
    let chain : IsChain c.self.inside.entries.items c.args.safe c.args.last c.requires.0 = subst (λ e. IsChain e c.args.safe c.args.last c.requires.0) (sym c.self.view_is) c.requires.1 in
    let s : IsStep c.loop-number.self-inside.entries.items c.args.safe c.loop-number.number _ = walk-step _ _ _ _ _ _ c.loop-number-test.true (c.loop-number.invariant c.requires.0 chain) in
    omega (arith, s.within)

pub loop-number-smaller : goal.loop-number-smaller
loop-number-smaller c =
    let chain : IsChain c.self.inside.entries.items c.args.safe c.args.last c.requires.0 = subst (λ e. IsChain e c.args.safe c.args.last c.requires.0) (sym c.self.view_is) c.requires.1 in
    let s : IsStep c.loop-number.self-inside.entries.items c.args.safe c.loop-number.number _ = walk-step _ _ _ _ _ _ c.loop-number-test.true (c.loop-number.invariant c.requires.0 chain) in
    let read : c.index-before.result.now ≡ slice_index c.loop-number.self-inside.entries.items c.loop-number.number =
    c.index-before.ensures ∙ get_or_default_zero c.loop-number.self-inside.entries.items c.loop-number.number c.index-before.result.now s.within in
    omega (arith, s.less, read)

pub loop-number-preserved : goal.loop-number-preserved
loop-number-preserved c = λ stores chain.
    let w = c.loop-number.invariant stores chain in
    let s : IsStep c.loop-number.self-inside.entries.items c.args.safe c.loop-number.number _ = walk-step _ _ _ _ _ _ c.loop-number-test.true w in
    let read : c.index-before.result.now ≡ slice_index c.loop-number.self-inside.entries.items c.loop-number.number =
    c.index-before.ensures ∙ get_or_default_zero c.loop-number.self-inside.entries.items c.loop-number.number c.index-before.result.now s.within in
    subst (λ k. IsWalking c.self.inside.entries.items c.args.safe stores (slice_set c.loop-number.self-inside.entries.items c.loop-number.number c.args.place) k c.args.place) (sym read)
    (walk-on c.self.inside.entries.items c.args.safe stores c.loop-number.self-inside.entries.items c.loop-number.number c.args.place c.loop-number-test.true w)

pub returns : goal.returns
returns c = λ stores chain.
    let here : IsChain c.self.inside.entries.items c.args.safe c.args.last stores = subst (λ e. IsChain e c.args.safe c.args.last stores) (sym c.self.view_is) chain in
    walk-ends c.self.inside.entries.items c.args.safe stores c.loop-number.self-inside.entries.items c.loop-number.number c.args.place c.loop-number-test.false (c.loop-number.invariant stores here)
    ∙ ap (λ e. with_place e stores c.args.place) c.self.view_is
