use Rattle.std.proofs.Common.{◌≡◌, take, sym, subst, refl, arith}
use Rattle.std.proofs.lemmas.List.{take_all}
use Rattle.std.specs.List.{filter_map}
use Rattle.indexmap.specs.IndexMap.{get}
use Rattle.pmt_causes.specs.contracts.dropping.DroppedKeyPartialEq.TheImpl as dropped_eq
use Rattle.pmt_causes.specs.Dropped.{dropped_item}
use Rattle.pmt_causes.specs.Groups.{AreSoFar}
use Rattle.pmt_causes.proofs.DroppedLemmas.{given-few, next-none, next-one}
use Rattle.pmt_causes.proofs.ExactKeys.{dropped-exact}
use Rattle.pmt_causes.proofs.GroupLemmas.{far-start}
use Rattle.pmt_causes.proofs.dropping.dropped_groups.Goals as goal

pub loop-entry-init : goal.loop-entry-init
loop-entry-init c = rw c.new-groups.ensures.items (far-start (get (dropped_eq.ghosts).eq c.new-places.result) (λ k. rw c.new-places.ensures.empty refl))

pub loop-entry-preserved-in_default : goal.loop-entry-preserved-in_default
loop-entry-preserved-in_default c =
    let f = dropped_item c.args.trace.now c.args.labels.now in
    let same = next-none f c.args.dropped.now c.loop-entry.entry-index _ c.item_of.result c.loop-entry-test.true c.item_of.ensures c.in_default.is in
    subst (λ xs. AreSoFar xs c.loop-entry.groups.items (get (dropped_eq.ghosts).eq c.loop-entry.places)) (sym same) c.loop-entry.invariant

pub put-requires-clause-exact : goal.put-requires-clause-exact
put-requires-clause-exact c = dropped-exact

pub put-requires-clause-so_far : goal.put-requires-clause-so_far
put-requires-clause-so_far c = (filter_map (dropped_item c.args.trace.now c.args.labels.now) (take c.loop-entry.entry-index c.args.dropped.now), c.loop-entry.invariant)

pub loop-entry-preserved : goal.loop-entry-preserved
loop-entry-preserved c =
    let f = dropped_item c.args.trace.now c.args.labels.now in
    let more = next-one f c.args.dropped.now c.loop-entry.entry-index _ c.item_of.result c.in-Some.item c.loop-entry-test.true c.item_of.ensures c.in-Some.is in
    subst (λ xs. AreSoFar xs c.put.new.groups.items (get (dropped_eq.ghosts).eq c.put.new.places)) (sym more)
    (c.in_ok-last.ensures (filter_map f (take c.loop-entry.entry-index c.args.dropped.now)) c.loop-entry.invariant)

pub returns : goal.returns
returns c =
    let f = dropped_item c.args.trace.now c.args.labels.now in
    let k = c.loop-entry.entry-index in
    let xs = c.args.dropped.now in
    let all : take k xs ≡ xs = take_all k xs (omega arith) in
    c.in_order.ensures (filter_map f xs) (get (dropped_eq.ghosts).eq c.loop-entry.places)
    (subst (λ ys. AreSoFar (filter_map f ys) c.loop-entry.groups.items (get (dropped_eq.ghosts).eq c.loop-entry.places)) all c.loop-entry.invariant)
    (omega (arith, given-few f xs))
