use Rattle.std.proofs.Common.{arith, length-append}
use Rattle.pmt_model.specs.Traces.{with_events}
use Rattle.pmt_trimming.proofs.whole_text.Whole.take_all.Goals as goal

pub leave-requires-clause-whole : goal.leave-requires-clause-whole
leave-requires-clause-whole c =
    let of = c.requires.whole in
    (with_events of.0 c.args.events.now, c.in_ok-take_block.ensures of.0 of.1)

pub leave-requires-clause-room : goal.leave-requires-clause-room
leave-requires-clause-room c =
    let of = c.requires.whole in
    let after = (c.in_ok-take_block.ensures of.0 of.1).pass in
    omega (arith, of.1.pass.all, after.all, c.requires.room, length-append of.0.events c.args.events.now)

pub returns : goal.returns
returns c = λ T is. c.leave.ensures (with_events T c.args.events.now) (c.in_ok-take_block.ensures T is)
