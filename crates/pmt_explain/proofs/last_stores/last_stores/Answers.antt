use Rattle.std.proofs.Common.{◌≡◌, ℕ, ◌+◌, ◌<◌, length, get_or, sym, ap, subst, ◌∙◌, add-one, Some, arith}
use Rattle.std.proofs.lemmas.Grind.{elements}
use Rattle.std.specs.Prelude.{if◌then◌else◌, slice_get}
use Rattle.std.proofs.lemmas.Option.{slice_get-get_or}
use Rattle.pmt_explain.specs.LastStores.{AreLastStores, written_by}
use Rattle.pmt_explain.proofs.LastStoreLemmas.{last-next}
use Rattle.pmt_explain.proofs.KeptLemmas.{slice-back}
use Rattle.pmt_explain.proofs.last_stores.last_stores.Goals as goal

pub loop-index-preserved : goal.loop-index-preserved
loop-index-preserved c =
    let T = c.args.trace.now in
    let es = c.events-events.result.now in
    let n = c.loop-index.index in
    let e = c.index-events-index.result in
    let first = c.get-first.result in
    let old = c.loop-index.last.items in
    let new = c.note_op.new.last in
    let events : length es ≡ length T.events = ap (λ xs. length xs) c.events-events.ensures.value in
    let inside : n < length es = omega (arith, c.requires, c.loop-index-test.true, events) in
    let within : n < length T.events = omega (arith, inside, events) in
    let is : slice_get T.events n ≡ Some e = subst (λ xs. slice_get xs n ≡ Some e) c.events-events.ensures.value (slice_get-get_or es n e inside ∙ ap Some (sym c.index-events-index.is)) in
    let lent : length c.as_mut_slice.result.now ≡ length old = ap (λ xs. length xs) c.as_mut_slice.ensures.value in
    let long : length new ≡ length old = omega (arith, c.note_op.auto.last, lent) in
    let same = slice-back c.loop-index.last.len new old (omega (arith, long, lent, c.as_mut_slice.ensures.len)) (omega (arith, lent, c.as_mut_slice.ensures.len)) in
    let noted = subst (λ ys. (k : ℕ) → k < length ys → get_or new k 0 ≡ (if written_by e.op (first + k) then n + 1 else get_or ys k 0)) c.as_mut_slice.ensures.value c.note_op.ensures in
    let next = last-next T first n (n + 1) e old new (add-one n) is within long c.loop-index.invariant.last noted in
    record {
      size = ap (λ xs. length xs) same ∙ long ∙ c.loop-index.invariant.size;
      last = subst (λ ys. AreLastStores T first (n + 1) ys) (sym same) next;
    }

pub loop-index-init : goal.loop-index-init
loop-index-init c = grind (arith, elements)
