use Rattle.std.proofs.Common.{arith}
use Rattle.pmt_sweep.proofs.MarkingLemmas.{none-above, walk-starts, in-entries, entry-is, walk-less, walk-on, walk-after, all-after, walk-ends}
use Rattle.pmt_sweep.proofs.marking.mark_line.Goals as goal

pub loop-number-init : goal.loop-number-init
loop-number-init c = λ T k end. (walk-starts T k c.args.row c.args.entries.now end, λ j lost above. absurd (none-above T k c.args.row c.args.entries.now end j lost above))

pub bounds-entries-number : goal.bounds-entries-number
bounds-entries-number c =
    let r = c.requires in
    in-entries r.0 r.1 c.args.row c.args.entries.now r.2 c.loop-number.entries c.loop-number.number c.loop-number-test.true (c.loop-number.invariant r.0 r.1 r.2).0

pub bounds-entries-number-in-loop-number : goal.bounds-entries-number-in-loop-number
bounds-entries-number-in-loop-number c =
    let r = c.requires in
    in-entries r.0 r.1 c.args.row c.args.entries.now r.2 c.loop-number.entries c.loop-number.number c.loop-number-test.true (c.loop-number.invariant r.0 r.1 r.2).0

pub loop-number-smaller : goal.loop-number-smaller
loop-number-smaller c =
    let r = c.requires in
    walk-less r.0 r.1 c.args.row c.args.entries.now r.2 c.loop-number.entries c.loop-number.number c.loop-number-test.true (c.loop-number.invariant r.0 r.1 r.2).0

pub loop-number-preserved : goal.loop-number-preserved
loop-number-preserved c = λ T k end.
    let so_far = c.loop-number.invariant T k end in
    let from = walk-after T k c.args.row c.args.entries.now end c.loop-number.entries c.loop-number.number c.loop-number-test.true so_far.0 in (
      walk-on T k c.args.row c.args.entries.now end c.loop-number.entries c.loop-number.number c.entry_of_lost.result c.loop-number-test.true
          (entry-is T k c.args.row c.args.entries.now end c.loop-number.number c.entry_of_lost.result c.entry_of_lost.ensures) so_far.0,
      λ j lost later. omega (arith, from j lost later, c.loop-number-test.true),
    )

pub returns-clause-marked : goal.returns-clause-marked
returns-clause-marked c = λ T k end. walk-ends T k c.args.row c.args.entries.now end c.loop-number.entries c.loop-number.number c.loop-number-test.false (c.loop-number.invariant T k end).0

pub returns-clause-after : goal.returns-clause-after
returns-clause-after c = λ T k end. all-after T k c.args.row c.args.entries.now end c.loop-number.number c.loop-number.before c.loop-number-test.false (c.loop-number.invariant T k end).1
