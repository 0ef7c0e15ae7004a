use Rattle.std.proofs.Common.{◌≡◌, ℕ, ◌+◌, ◌<◌, length, get_or, sym, ap, subst, ◌∙◌, add-one, Some, arith}
use Rattle.std.proofs.lemmas.Grind.{elements}
use Rattle.std.specs.Prelude.{if◌then◌else◌}
use Rattle.std.proofs.lemmas.Option.{slice_get-get_or}
use Rattle.pmt_model.specs.Traces.{act_of}
use Rattle.pmt_explain.specs.Crashes.{keeps, AreLastKept}
use Rattle.pmt_explain.proofs.KeptLemmas.{kept-next, slice-back}
use Rattle.pmt_explain.proofs.bytes.last_persisted.Goals as goal

pub loop-index-preserved : goal.loop-index-preserved
loop-index-preserved c =
    let T = c.args.trace.now in
    let crash = c.args.crash.now in
    let f = c.format-format.result in
    let es = c.events-events.result.now in
    let n = c.loop-index.index in
    let e = c.index-events-index.result in
    let first = c.get-first.result in
    let old = c.loop-index.last.items in
    let new = c.note_persisted.new.last in
    let events : length es ≡ length T.events = ap (λ xs. length xs) c.events-events.ensures.value in
    let inside : n < length es = omega (arith, c.requires, c.loop-index-test.true, events) in
    let lent : length c.as_mut_slice.result.now ≡ length old = ap (λ xs. length xs) c.as_mut_slice.ensures.value in
    let long : length new ≡ length old = omega (arith, c.note_persisted.auto.last, lent) in
    let same = slice-back c.loop-index.last.len new old (omega (arith, long, lent, c.as_mut_slice.ensures.len)) (omega (arith, lent, c.as_mut_slice.ensures.len)) in
    let noted = subst (λ ys. (t k : ℕ) → k < length ys → get_or new k 0 ≡ (if keeps crash (n + 1) (act_of f t e.op) (first + k) then n + 1 else get_or ys k 0)) c.as_mut_slice.ensures.value c.note_persisted.ensures in
    let next = kept-next T crash f es first n (n + 1) e old new c.format-format.ensures.value c.events-events.ensures.value (add-one n)
    (slice_get-get_or es n e inside ∙ ap Some (sym c.index-events-index.is)) (omega (arith, inside, events)) long noted c.loop-index.invariant.last in
    record {
      size = ap (λ xs. length xs) same ∙ long ∙ c.loop-index.invariant.size;
      last = subst (λ ys. AreLastKept T crash first (n + 1) ys) (sym same) next;
    }

pub loop-index-init : goal.loop-index-init
loop-index-init c = grind (arith, elements)

pub bounds-events-index : goal.bounds-events-index
bounds-events-index c = grind (arith, elements)
