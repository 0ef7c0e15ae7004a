use Rattle.pmt_fates.proofs.Prelude.{◌≡◌, ℕ, Option, ◌+◌, ◌-◌, ◌^◌, ◌<◌, [], ◌∷◌, ◌++◌, suc, length, set, Some, refl, sym, ap, subst, ◌∙◌, arith, elements, slice_get, slice_get-get_or, event, Origin, Keyed, origin_of, SavedBefore, fate_at, place_items, before, row_place, with_fate, saved_by}
use Rattle.pmt_fates.proofs.RowLemmas.{AreSoFar, far-more, fate-is, far-start, finds-at, finds-small, finds-within, item_at, item-is, items-length}
use Rattle.pmt_fates.proofs.RowGroupLemmas.{rows-told}
use Rattle.pmt_fates.proofs.rows.rows_of.Goals as goal

pub loop-index-init : goal.loop-index-init
loop-index-init c = rw c.new-rows.ensures.items (far-start c.args.fates.now (saved_by c.args.safe.now c.args.savings.now) (row_place c.in_ok-places.places) (λ k. ap before (c.in_ok-places.ensures k)))

pub index_mut-requires : goal.index_mut-requires
index_mut-requires c =
    let within : c.in_ok-row.row < length c.find.new.rows.items =
    finds-within c.args.fates.now (saved_by c.args.safe.now c.args.savings.now) _ c.loop-index.rows.items c.find.new.rows.items (row_place c.loop-index.places) (row_place c.find.new.places) _ _ _
    c.in_ok-row.ensures c.loop-index.invariant
    in
    omega (arith, within, c.find.new.rows.ok.0)

pub add-requires : goal.add-requires
add-requires c =
    let T = c.args.trace.now in
    let labels = c.args.labels.now in
    let r = c.index_mut.result.now in
    let all = c.find.new.rows.items in
    let p = c.in_ok-row.row in
    let fates = c.args.fates.now in
    let saved : ℕ → Option SavedBefore = saved_by c.args.safe.now c.args.savings.now in
    let at : slice_get all p ≡ Some r =
    finds-at fates saved _ c.loop-index.rows.items all (row_place c.loop-index.places) (row_place c.find.new.places) _ _ p r c.in_ok-row.ensures c.loop-index.invariant c.index_mut.ensures.value
    in
    let few : length (place_items T labels c.loop-index.index) < 2 ^ 64 - 1 = omega (arith, items-length T labels c.loop-index.index) in
    finds-small fates saved _ c.loop-index.rows.items all (row_place c.loop-index.places) (row_place c.find.new.places) _ _ p r c.in_ok-row.ensures
    c.loop-index.invariant few at

pub loop-index-preserved : goal.loop-index-preserved
loop-index-preserved c =
    let T = c.args.trace.now in
    let labels = c.args.labels.now in
    let es = c.events-events.result.now in
    let i = c.loop-index.index in
    let e = c.index-events-index.result in
    let r = c.index_mut.result.now in
    let all = c.find.new.rows.items in
    let p = c.in_ok-row.row in
    let fates = c.args.fates.now in
    let saved : ℕ → Option SavedBefore = saved_by c.args.safe.now c.args.savings.now in
    let x : Keyed Origin = record { key = origin_of labels (i + 1) e.thread; number = c.loop-index.index + 1 } in
    let inside : c.loop-index.index < length c.events-events.result.now = omega arith in
    let here : event T (suc i) ≡ Some e = ap (λ xs. slice_get xs i) (sym c.events-events.ensures.value) ∙ slice_get-get_or es i e inside ∙ ap Some (sym c.index-events-index.is) in
    let at : slice_get all p ≡ Some r =
    finds-at fates saved _ c.loop-index.rows.items all (row_place c.loop-index.places) (row_place c.find.new.places) _ _ p r c.in_ok-row.ensures c.loop-index.invariant c.index_mut.ensures.value
    in
    let number : c.loop-index.index + 1 ≡ suc c.loop-index.index = omega arith in
    let item : item_at T labels i ≡ x = item-is T labels i (c.loop-index.index + 1) e (origin_of labels (i + 1) e.thread) here number refl in
    let known : c.loop-index.index < length c.args.fates.now = omega (arith, ap (λ xs. length xs) c.events-events.ensures.value, c.requires) in
    let made : c.add.new.row ≡ with_fate saved x.number (fate_at fates x.number) r =
    c.add.ensures ∙ ap (λ f. with_fate saved x.number f r) (fate-is fates i (c.loop-index.index + 1) _ known number)
    in
    let more : AreSoFar fates saved (place_items T labels i ++ x ∷ []) (set all p c.add.new.row) (row_place c.find.new.places) =
    far-more fates saved (place_items T labels i) c.loop-index.rows.items all (row_place c.loop-index.places) (row_place c.find.new.places) x p r c.add.new.row c.in_ok-row.ensures c.loop-index.invariant at made
    in
    subst (λ m. AreSoFar fates saved (place_items T labels m) (set all p c.add.new.row) (row_place c.find.new.places)) (sym number)
    (subst (λ y. AreSoFar fates saved (place_items T labels i ++ y ∷ []) (set all p c.add.new.row) (row_place c.find.new.places)) (sym item) more)

pub returns : goal.returns
returns c =
    let T = c.args.trace.now in
    let labels = c.args.labels.now in
    let fates = c.args.fates.now in
    let saved : ℕ → Option SavedBefore = saved_by c.args.safe.now c.args.savings.now in
    let all : c.loop-index.index ≡ length c.args.trace.now.events = omega (arith, ap (λ xs. length xs) c.events-events.ensures.value) in
    rows-told fates saved (place_items T labels (length T.events)) c.loop-index.rows.items (row_place c.loop-index.places)
    (subst (λ m. AreSoFar fates saved (place_items T labels m) c.loop-index.rows.items (row_place c.loop-index.places)) all c.loop-index.invariant)

pub bounds-fates-index : goal.bounds-fates-index
bounds-fates-index c = grind (arith, elements)
