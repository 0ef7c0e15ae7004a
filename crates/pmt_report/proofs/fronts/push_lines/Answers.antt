use Rattle.std.proofs.Common.{ℕ, List, length, get_or, refl, ◌∙◌, subst}
use Rattle.std.proofs.lemmas.Option.{slice_get-get_or}
use Rattle.pmt_tables.specs.Slots.{IsSlotOf}
use Rattle.pmt_report.specs.Reports.{line_entry}
use Rattle.pmt_report.proofs.FrontsLemmas.{entries-all, entries-more}
use Rattle.pmt_report.proofs.fronts.push_lines.Goals as goal

pub loop-slot-init : goal.loop-slot-init
loop-slot-init c = λ T known. refl

pub push_line-requires-clause-lines : goal.push_line-requires-clause-lines
push_line-requires-clause-lines c = c.requires

pub push_line-requires-clause-slot : goal.push_line-requires-clause-slot
push_line-requires-clause-slot c =
    let all = c.lines-all.result.now in
    let slot = c.loop-slot.slot in
    subst (λ (xs : List ℕ). IsSlotOf (get_or all slot 0) slot xs) c.lines-all.ensures (slice_get-get_or all slot 0 c.loop-slot-test.true)

pub loop-slot-preserved : goal.loop-slot-preserved
loop-slot-preserved c = λ T known.
    entries-more (line_entry T (length T.events)) c.lines-all.result.now c.loop-slot.slot c.loop-slot.text.items c.push_line.new.text.items _ c.loop-slot-test.true (c.in_ok-push_line.ensures T known) (c.loop-slot.invariant T known)

pub returns : goal.returns
returns c = λ T known.
    entries-all (line_entry T (length T.events)) c.lines-all.result.now _ c.loop-slot.slot c.loop-slot.text.items c.args.text.now.items c.loop-slot-test.false (c.lines-all.ensures ∙ known.live.rows.placed) (c.loop-slot.invariant T known)
