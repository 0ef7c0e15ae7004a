use Rattle.std.proofs.Common.{◌≡◌, ◌++◌, ◌∷◌, [], take, length-take, get_or, sym, subst, arith, List, ℕ}
use Rattle.std.proofs.lemmas.List.{take_all, take_more}
use Rattle.pmt_explain.specs.declared.lost_grouping.LostGroup.{LostGroup}
use Rattle.pmt_explain.specs.declared.lost_grouping.Places.{Places}
use Rattle.pmt_explain.specs.Grouping.{place_in}
use Rattle.pmt_explain.proofs.LostGroupLemmas.{IsLostGathered, lost-start, lost-other, lost-more, lost-stands, lost-room, lost-groups}
use Rattle.pmt_explain.proofs.lost_grouping.add_all.Goals as goal
use Rattle.pmt_explain.proofs.lost_grouping.add_all.Goals.{in-Some+in_ok-add_group, in_default}

pub returns : goal.returns
returns c =
    let T = c.args.trace.now in
    let all : take c.loop-store.store-index c.args.stores.now ≡ c.args.stores.now = take_all c.loop-store.store-index c.args.stores.now (omega arith) in
    lost-groups T c.args.stores.now c.loop-store.groups.items (place_in c.loop-store.places)
    (subst (λ xs. IsLostGathered T xs c.loop-store.groups.items (place_in c.loop-store.places)) all c.loop-store.invariant)

pub loop-store-init : goal.loop-store-init
loop-store-init c = rw c.requires.groups (lost-start c.args.trace.now (place_in c.args.places.now) c.requires.places)

pub loop-store-preserved : goal.loop-store-preserved
loop-store-preserved c =
    let T = c.args.trace.now in
    let k = c.loop-store.store-index in
    let xs = c.args.stores.now in
    let x = get_or xs k 0 in
    let P : List ℕ → List LostGroup → Places → Type 0 = λ ys gs places. IsLostGathered T ys gs (place_in places) in
    subst (λ ys. P ys c.match-group_of.groups.items c.match-group_of.places) (sym (take_more xs k 0 c.loop-store-test.true))
    (elim c.match-group_of.branch [
      | in-Some+in_ok-add_group w ↦
          subst (λ gs. P (take k xs ++ x ∷ []) gs.items c.match-group_of.places) (sym w.groups-is)
          (subst (λ places. P (take k xs ++ x ∷ []) w.add_group.new.groups.items places) (sym w.places-is)
          (lost-more T (take k xs) c.loop-store.groups.items w.add_group.new.groups.items c.loop-store.places w.add_group.new.places x w.in-Some.group w.in-Some.ensures (w.in_ok-add_group.ensures {u = tt})
          c.loop-store.invariant))
      | in_default w ↦
          subst (λ gs. P (take k xs ++ x ∷ []) gs.items c.match-group_of.places) (sym w.groups-is)
          (subst (λ places. P (take k xs ++ x ∷ []) c.loop-store.groups.items places) (sym w.places-is) (lost-other T (take k xs) c.loop-store.groups.items (place_in c.loop-store.places) x w.in_default.ensures c.loop-store.invariant))
    ])

pub add_group-requires-clause-stands : goal.add_group-requires-clause-stands
add_group-requires-clause-stands c = λ p e. lost-stands c.args.trace.now _ c.loop-store.groups.items (place_in c.loop-store.places) _ p c.loop-store.invariant e

pub add_group-requires-clause-room : goal.add_group-requires-clause-room
add_group-requires-clause-room c =
    let k = c.loop-store.store-index in
    let xs = c.args.stores.now in
    lost-room c.args.trace.now (take k xs) c.loop-store.groups.items (place_in c.loop-store.places) (omega (arith, length-take k xs)) c.loop-store.invariant
