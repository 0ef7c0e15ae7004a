use Rattle.std.proofs.Common.{◌≡◌, suc, ◌+◌, ◌<◌, true, false, length, get_or, Some, ap, sym, subst, ◌∙◌, arith}
use Rattle.std.specs.Prelude.{◌↔◌, slice_get}
use Rattle.std.proofs.lemmas.Option.{slice_get-get_or}
use Rattle.pmt_model.specs.Traces.{act, act_of, event}
use Rattle.pmt_hints.specs.declared.named.Role.TheVariants.{Second}
use Rattle.pmt_hints.specs.Hints.{IsNamed}
use Rattle.pmt_hints.specs.Claiming.{AreUpTo}
use Rattle.pmt_hints.specs.Numbers.{IsAfterMark}
use Rattle.pmt_hints.proofs.MarkingLemmas.{after-mark-bound, after-mark-told, marks-start, marks-up, recent-start, recent-up}
use Rattle.pmt_hints.proofs.NumberLemmas.{upto-more, upto-none, upto-those}
use Rattle.pmt_hints.proofs.StoredAfterLemmas.{fences-none, fences-up}
use Rattle.pmt_hints.proofs.after_mark.numbers_after.Goals as goal

pub loop-index-init : goal.loop-index-init
loop-index-init c =
    let T = c.args.trace.now in
    let labels = c.args.labels.now in
    let P = IsAfterMark T labels in
    record {
      fences = fences-none T c.new-fences.result c.new-fences.ensures;
      recent = recent-start T c.new-recent.result c.new-recent.ensures;
      marks = marks-start T labels c.new-last.result c.new-last.ensures.empty;
      numbers = subst (AreUpTo P 0) (sym c.new-numbers.ensures.items) (upto-none P (λ i p. (after-mark-bound T labels i p).0));
    }

pub loop-index-preserved : goal.loop-index-preserved
loop-index-preserved c =
    let T = c.args.trace.now in
    let labels = c.args.labels.now in
    let es = c.events-events.result.now in
    let i = c.loop-index.index in
    let e = c.index-events-index.result in
    let a = act_of c.format-format.result e.thread e.op in
    let long : length c.events-events.result.now ≡ length T.events = ap (λ xs. length xs) c.events-events.ensures.value in
    let within : c.loop-index.index < length c.events-events.result.now = omega arith in
    let at : event T (suc i) ≡ Some e = ap (λ xs. slice_get xs i) (sym c.events-events.ensures.value) ∙ slice_get-get_or es i e within ∙ ap Some (sym c.index-events-index.is) in
    let own : act T.format e ≡ a = ap (λ g. act_of g e.thread e.op) (sym c.format-format.ensures.value) in
    let is_mark = get_or c.args.marks.now i false in
    let mark : (is_mark ≡ true) ↔ IsNamed T Second (suc i) = c.requires.each i is_mark (slice_get-get_or c.args.marks.now i false (omega (arith, c.requires.size, long))) in
    let number : i + 1 ≡ suc i = omega arith in
    let old = c.loop-index.invariant in
    record {
      fences = fences-up T i _ a c.loop-index.fences c.note_fence.new.self (omega arith) (e, at, own) c.note_fence.ensures old.fences;
      recent = recent-up T labels i e.thread is_mark mark (i + 1) e.op c.loop-index.recent c.set_if.new.self number at c.set_if.ensures old.recent;
      marks = marks-up T labels i e.thread is_mark mark (i + 1) e.op c.loop-index.last c.note_mark.new.marks number at c.in_ok-note_mark.ensures old.marks;
      numbers = upto-more (IsAfterMark T labels) i _ c.is_after_mark-is_told.result c.loop-index.numbers.items c.push_if.new.numbers.items (omega arith) c.in_ok-push_if.ensures
          (after-mark-told T labels i e.thread is_mark mark c.loop-index.fences c.loop-index.recent c.loop-index.last c.is_after_mark-is_told.ensures.small old.fences old.recent old.marks (i + 1) e.op c.is_after_mark-is_told.result number at
          c.is_after_mark-is_told.ensures.value)
          old.numbers;
    }

pub returns : goal.returns
returns c =
    let T = c.args.trace.now in
    let labels = c.args.labels.now in
    let P = IsAfterMark T labels in
    let long : length c.events-events.result.now ≡ length T.events = ap (λ xs. length xs) c.events-events.ensures.value in
    let all : c.loop-index.index ≡ length T.events = omega (arith, long) in
    upto-those P (length T.events) c.loop-index.numbers.items (λ i p. (after-mark-bound T labels i p).1) (subst (λ n. AreUpTo P n c.loop-index.numbers.items) all c.loop-index.invariant.numbers)
