use Rattle.std.proofs.Common.{◌≡◌, suc, length, refl, subst, ap, arith}
use Rattle.pmt_laws.specs.Prelude.{last_flush, Flushes, history, lines_of, with_line}
use Rattle.pmt_laws.proofs.Histories.{length-history}
use Rattle.pmt_safety.specs.Safety.{last_line_store, safe_store}
use Rattle.pmt_tables.specs.Slots.{IsSlotOf}
use Rattle.pmt_rows.specs.declared.rows.Row.{Row}
use Rattle.pmt_rows.proofs.OpenLemmas.{waits-on}
use Rattle.pmt_rows.proofs.RowLemmas.{has-slot, flushed-known}
use Rattle.std.proofs.lemmas.Option.{get_or_from_slice_get, slice_get_within}
use Rattle.pmt_trimming.proofs.PassingLemmas.{judged, tells-flush}
use Rattle.pmt_trimming.proofs.pass.Pass.judge_flush.Goals as goal

pub row-requires : goal.row-requires
row-requires c =
    let T = c.requires.passing.0 in
    let h = history T (length T.events) in
    let l = c.args.line in
    let known = c.in_ok-slot.ensures.known (lines_of h) (λ k. last_line_store k h) (λ k. safe_store k h) (λ k. last_flush k h) c.requires.passing.1.lines.rows in
    has-slot (with_line l (lines_of h)) (λ k. last_line_store k h) (λ k. safe_store k h) (λ k. last_flush k h) _ known l c.in_ok-slot.slot c.in_ok-slot.ensures.here

pub returns-clause-follows : goal.returns-clause-follows
returns-clause-follows c = λ T e is before.
    let n = length T.events in
    let h = history T n in
    let t = c.args.thread in
    let l = c.args.line in
    let slot = c.in_ok-slot.slot in
    let lines = with_line l (lines_of h) in
    let known = c.in_ok-slot.ensures.known (lines_of h) (λ k. last_line_store k h) (λ k. safe_store k h) (λ k. last_flush k h) before.lines.rows in
    let at = subst (IsSlotOf l slot) known.placed c.in_ok-slot.ensures.here in
    let number : c.next_number-number.result ≡ suc (length h) = omega (arith, c.next_number-number.ensures, before.all, length-history T n (omega arith)) in
    let row = c.row.ensures lines (λ k. last_line_store k h) (λ k. safe_store k h) (λ k. last_flush k h) l at known in
    judged T e (Flushes t l) is c.args.self.now before _ _ refl refl refl
    (record {
      rows = flushed-known lines h t l c.next_number-number.result c.flush.new.self number (c.flush.ensures lines (λ k. last_line_store k h) (λ k. safe_store k h) (λ k. last_flush k h) l at known);
      waiting = (waits-on last_line_store).flush lines t l h (record { number = c.next_number-number.result; slot = slot; store = c.row.result.last_store }) _ _ (slice_get_within lines slot l at) (get_or_from_slice_get lines slot l 0 at) number
          (ap (λ (y : Row). y.last_store) row) c.in_ok-add.ensures.own c.in_ok-add.ensures.others ((waits-on last_line_store).line l (lines_of h) h _ before.lines.waiting);
    })
    (λ o fence. cc) (tells-flush T e t l is)
