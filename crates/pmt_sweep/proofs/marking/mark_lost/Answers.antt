use Rattle.std.proofs.Common.{◌<◌, get_or, length, rules, arith}
use Rattle.std.proofs.lemmas.Option.{slice_get-get_or}
use Rattle.pmt_laws.specs.Prelude.{last_flush, history}
use Rattle.pmt_safety.specs.Safety.{last_line_store_at, safe_store_at}
use Rattle.pmt_sweep.proofs.MarkedLemmas.{all_lines, marked-none, many-rows, line-ends, marked-next, after-next, marked-all, after-all}
use Rattle.pmt_sweep.proofs.marking.mark_lost.Goals as goal

pub loop-slot-init : goal.loop-slot-init
loop-slot-init c = λ T ends. (marked-none T c.args.rows.now c.args.entries.now ends, λ l p j at less lost. absurd (omega (arith, less)))

pub mark_line-requires : goal.mark_line-requires
mark_line-requires c =
    let T = c.requires.0 in
    let ends = c.requires.1 in
    let slot = c.loop-slot.slot in
    let within : slot < length (all_lines T) = omega (arith, many-rows T c.args.rows.now c.args.entries.now ends, c.loop-slot-test.true, c.len-slot-end.ensures) in
    let l = get_or (all_lines T) slot 0 in
    let at = slice_get-get_or (all_lines T) slot 0 within in
    (T, l, line-ends T c.args.rows.now c.args.entries.now ends c.loop-slot.entries slot l at (c.loop-slot.invariant T ends).0 c.row.result (c.row.ensures (all_lines T) (λ k. last_line_store_at T k (length T.events)) (λ k. safe_store_at T k (length T.events)) (λ k. last_flush k (history T (length T.events))) l at ends.rows))

pub loop-slot-preserved : goal.loop-slot-preserved
loop-slot-preserved c = λ T ends.
    let slot = c.loop-slot.slot in
    let within : slot < length (all_lines T) = omega (arith, many-rows T c.args.rows.now c.args.entries.now ends, c.loop-slot-test.true, c.len-slot-end.ensures) in
    let l = get_or (all_lines T) slot 0 in
    let at = slice_get-get_or (all_lines T) slot 0 within in
    let both = c.loop-slot.invariant T ends in
    let so_far = both.0 in
    let line = line-ends T c.args.rows.now c.args.entries.now ends c.loop-slot.entries slot l at so_far c.row.result (c.row.ensures (all_lines T) (λ k. last_line_store_at T k (length T.events)) (λ k. safe_store_at T k (length T.events)) (λ k. last_flush k (history T (length T.events))) l at ends.rows) in (
      marked-next T c.args.rows.now c.args.entries.now ends c.loop-slot.entries slot l at so_far c.mark_line.new.entries (c.mark_line.ensures.marked T l line),
      after-next T c.args.rows.now c.args.entries.now ends slot l c.loop-slot.before c.mark_line.result c.min-before.result at (search (rules, c.min-before.ensures)) (search (rules, c.min-before.ensures)) both.1 (c.mark_line.ensures.after T l line),
    )

pub returns-clause-marked : goal.returns-clause-marked
returns-clause-marked c = λ T ends.
    marked-all T c.args.rows.now c.args.entries.now ends c.loop-slot.entries c.loop-slot.slot (omega (arith, many-rows T c.args.rows.now c.args.entries.now ends, c.loop-slot-test.false, c.len-slot-end.ensures)) (c.loop-slot.invariant T ends).0

pub returns-clause-after : goal.returns-clause-after
returns-clause-after c = λ T ends.
    after-all T c.args.rows.now c.args.entries.now ends c.loop-slot.entries c.loop-slot.slot (omega (arith, many-rows T c.args.rows.now c.args.entries.now ends, c.loop-slot-test.false, c.len-slot-end.ensures)) (c.loop-slot.invariant T ends).0 c.loop-slot.before
    (c.loop-slot.invariant T ends).1
