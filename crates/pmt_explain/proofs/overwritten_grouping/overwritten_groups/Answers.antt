use Rattle.std.proofs.Common.{◌≡◌, ◌++◌, ◌∷◌, [], List, take, length-take, get_or, nat_eq, sym, subst, arith}
use Rattle.std.proofs.lemmas.List.{take_all, take_more}
use Rattle.indexmap.specs.IndexMap.{get}
use Rattle.pmt_explain.specs.declared.overwritten_grouping.Overwriting.{Overwriting}
use Rattle.pmt_explain.specs.declared.overwritten_grouping.OverwrittenGroup.{OverwrittenGroup}
use Rattle.pmt_explain.specs.OverwrittenGroups.{LinePlaces}
use Rattle.pmt_explain.proofs.OverwrittenGroupLemmas.{IsPairsGathered, pairs-start, pairs-other, pairs-more, pairs-stands, pairs-room, pair-groups}
use Rattle.pmt_explain.proofs.overwritten_grouping.overwritten_groups.Goals as goal
use Rattle.pmt_explain.proofs.overwritten_grouping.overwritten_groups.Goals.{in-Some+in_ok-add_group, in_default}

pub returns : goal.returns
returns c =
    let T = c.args.trace.now in
    let all : take c.loop-pair.pair-index c.args.pairs.now ≡ c.args.pairs.now = take_all c.loop-pair.pair-index c.args.pairs.now (omega arith) in
    pair-groups T c.args.pairs.now c.loop-pair.groups.items (get nat_eq c.loop-pair.places)
    (subst (λ xs. IsPairsGathered T xs c.loop-pair.groups.items (get nat_eq c.loop-pair.places)) all c.loop-pair.invariant)

pub loop-pair-init : goal.loop-pair-init
loop-pair-init c = rw c.new-groups.ensures.items (pairs-start c.args.trace.now c.new-places.result c.new-places.ensures.empty)

pub loop-pair-preserved : goal.loop-pair-preserved
loop-pair-preserved c =
    let T = c.args.trace.now in
    let k = c.loop-pair.pair-index in
    let xs = c.args.pairs.now in
    let x = get_or xs k (record { earlier = 0; later = 0 }) in
    let P : List Overwriting → List OverwrittenGroup → LinePlaces → Type 0 = λ ys gs places. IsPairsGathered T ys gs (get nat_eq places) in
    subst (λ ys. P ys c.match-group_of.groups.items c.match-group_of.places) (sym (take_more xs k (record { earlier = 0; later = 0 }) c.loop-pair-test.true))
    (elim c.match-group_of.branch [
      | in-Some+in_ok-add_group w ↦
          subst (λ gs. P (take k xs ++ x ∷ []) gs.items c.match-group_of.places) (sym w.groups-is)
          (subst (λ places. P (take k xs ++ x ∷ []) w.add_group.new.groups.items places) (sym w.places-is)
          (pairs-more T (take k xs) c.loop-pair.groups.items w.add_group.new.groups.items (get nat_eq c.loop-pair.places) (get nat_eq w.add_group.new.places) x w.in-Some.group w.in-Some.ensures.alone (w.in_ok-add_group.ensures {u = tt})
          c.loop-pair.invariant))
      | in_default w ↦
          subst (λ gs. P (take k xs ++ x ∷ []) gs.items c.match-group_of.places) (sym w.groups-is)
          (subst (λ places. P (take k xs ++ x ∷ []) c.loop-pair.groups.items places) (sym w.places-is) (pairs-other T (take k xs) c.loop-pair.groups.items (get nat_eq c.loop-pair.places) x w.in_default.ensures.alone c.loop-pair.invariant))
    ])

pub add_group-requires-clause-stands : goal.add_group-requires-clause-stands
add_group-requires-clause-stands c = λ p e. pairs-stands c.args.trace.now _ c.loop-pair.groups.items (get nat_eq c.loop-pair.places) _ p c.loop-pair.invariant e

pub add_group-requires-clause-room : goal.add_group-requires-clause-room
add_group-requires-clause-room c =
    let k = c.loop-pair.pair-index in
    let xs = c.args.pairs.now in
    pairs-room c.args.trace.now (take k xs) c.loop-pair.groups.items (get nat_eq c.loop-pair.places) _ (omega (arith, length-take k xs)) c.in-Some.ensures.once c.loop-pair.invariant
