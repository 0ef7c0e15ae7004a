use Rattle.std.proofs.Common.{◌≡◌, ◌<◌, ◌+◌, suc, length, map, Some, ap, sym, subst, ◌∙◌, arith}
use Rattle.std.specs.Prelude.{slice_get}
use Rattle.std.proofs.lemmas.List.{length-map}
use Rattle.std.proofs.lemmas.Option.{slice_get-get_or}
use Rattle.pmt_causes.specs.Late.{AreFences}
use Rattle.pmt_causes.proofs.FenceLemmas.{fences-start, fences-next}
use Rattle.pmt_causes.proofs.late.all_fences.Goals as goal

pub loop-index-init : goal.loop-index-init
loop-index-init c = fences-start c.args.trace.now _ c.in_ok-fences.ensures

pub note_fence-requires : goal.note_fence-requires
note_fence-requires c = sym (length-map c.loop-index.fences.items (λ list. list.items)) ∙ c.loop-index.invariant.size

pub loop-index-preserved : goal.loop-index-preserved
loop-index-preserved c =
    let T = c.args.trace.now in
    let es = c.events-events.result.now in
    let i = c.loop-index.index in
    let e = c.index-events-index.result in
    let within : c.loop-index.index < length c.events-events.result.now = omega arith in
    let at : slice_get T.events i ≡ Some e = ap (λ xs. slice_get xs i) (sym c.events-events.ensures.value) ∙ slice_get-get_or es i e within ∙ ap Some (sym c.index-events-index.is) in
    let next : c.loop-index.index + 1 ≡ suc c.loop-index.index = omega arith in
    subst (λ n. AreFences T n (map (λ list. list.items) c.note_fence.new.fences.items)) (sym next)
    (fences-next T i _ e _ _ next at c.in_ok-note_fence.ensures c.loop-index.invariant)

pub returns : goal.returns
returns c =
    let all : c.loop-index.index ≡ length c.args.trace.now.events = omega (arith, ap (λ xs. length xs) c.events-events.ensures.value) in
    subst (λ n. AreFences c.args.trace.now n (map (λ list. list.items) c.loop-index.fences.items)) all c.loop-index.invariant
