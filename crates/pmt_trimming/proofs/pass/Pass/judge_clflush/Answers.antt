use Rattle.std.proofs.Common.{◌≡◌, suc, length, refl, subst, ap, arith}
use Rattle.pmt_laws.specs.Prelude.{last_flush, Clflushes, history, lines_of, with_line}
use Rattle.pmt_laws.proofs.Histories.{length-history}
use Rattle.pmt_safety.specs.Safety.{last_line_store, safe_store}
use Rattle.pmt_tables.specs.Slots.{IsSlotOf}
use Rattle.pmt_rows.specs.declared.rows.Row.{Row}
use Rattle.pmt_rows.proofs.OpenLemmas.{waits-on}
use Rattle.pmt_rows.proofs.RowLemmas.{has-slot, cleared-known}
use Rattle.pmt_trimming.proofs.PassingLemmas.{judged, tells-clflush}
use Rattle.pmt_trimming.proofs.pass.Pass.judge_clflush.Goals as goal

pub row-row-requires : goal.row-row-requires
row-row-requires c =
    let T = c.requires.passing.0 in
    let h = history T (length T.events) in
    let l = c.args.line in
    let known = c.in_ok-slot.ensures.known (lines_of h) (λ k. last_line_store k h) (λ k. safe_store k h) (λ k. last_flush k h) c.requires.passing.1.lines.rows in
    has-slot (with_line l (lines_of h)) (λ k. last_line_store k h) (λ k. safe_store k h) (λ k. last_flush k h) _ known l c.in_ok-slot.slot c.in_ok-slot.ensures.here

pub returns-clause-follows : goal.returns-clause-follows
returns-clause-follows c = λ T e is before.
    let n = length T.events in
    let h = history T n in
    let l = c.args.line in
    let lines = with_line l (lines_of h) in
    let known = c.in_ok-slot.ensures.known (lines_of h) (λ k. last_line_store k h) (λ k. safe_store k h) (λ k. last_flush k h) before.lines.rows in
    let at = subst (IsSlotOf l c.in_ok-slot.slot) known.placed c.in_ok-slot.ensures.here in
    let number : c.next_number-number.result ≡ suc (length h) = omega (arith, c.next_number-number.ensures, before.all, length-history T n (omega arith)) in
    let row = c.row-row.ensures lines (λ k. last_line_store k h) (λ k. safe_store k h) (λ k. last_flush k h) l at known in
    judged T e (Clflushes l) is c.args.self.now before _ _ refl refl refl
    (record {
      rows = cleared-known lines h l c.next_number-number.result c.clflush.new.self number (c.clflush.ensures lines (λ k. last_line_store k h) (λ k. safe_store k h) (λ k. last_flush k h) l at known);
      waiting = (waits-on last_line_store).others lines h _ (Clflushes l) (λ t k e. cc) (λ t e. cc) ((waits-on last_line_store).line l (lines_of h) h _ before.lines.waiting);
    })
    (λ o fence. cc)
    (rw c.mark_of.ensures (tells-clflush T e l c.row-row.result.safe c.row-row.result.last_store is (ap (λ (y : Row). y.safe) row) (ap (λ (y : Row). y.last_store) row)))
