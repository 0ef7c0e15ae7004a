use Rattle.std.proofs.Common.{List, ◌+◌, ◌≤◌, length, sym, ap, subst, arith}
use Rattle.pmt_trimming.specs.LineQueues.{Queued}
use Rattle.pmt_trimming.specs.Passing.{AreMarks}
use Rattle.pmt_trimming.specs.Streaming.{IsHeldAt}
use Rattle.pmt_trimming.specs.declared.pass.Mark.{Mark}
use Rattle.pmt_trimming.proofs.WholeTextLemmas.{whole-after}
use Rattle.pmt_trimming.proofs.whole_text.Whole.leave.Goals as goal

pub give_out-requires-clause-within : goal.give_out-requires-clause-within
give_out-requires-clause-within c = omega (arith, c.pop_decided-held.ensures.within, ap length c.marks.ensures)

pub give_out-requires-clause-room : goal.give_out-requires-clause-room
give_out-requires-clause-room c = omega (arith, c.pop_decided-held.ensures.within, ap length c.marks.ensures, c.requires.room)

pub returns : goal.returns
returns c = λ T is.
    let settled = c.args.self.now.pass.settled in
    let are = subst (λ (ms : List Mark). AreMarks T settled ms) (sym c.marks.ensures) is.pass.marks in
    let many : settled + length c.marks.result.now ≤ length T.events = omega (arith, is.pass.all, ap length c.marks.ensures) in
    let here : IsHeldAt T settled is.waiting c.replace-held.result = subst (λ (q : Queued). IsHeldAt T settled is.waiting q) (sym c.replace-held.ensures.value) (record { lines = is.lines; left = is.left }) in
    let gone = c.pop_decided-held.ensures.left T settled is.waiting are many here in
    let held = whole-after T _ _ gone.0 _ _ c.give_up_room.ensures c.give_out.ensures.settled gone.1 in
    record {
      pass = c.give_out.ensures.passing T is.pass (c.pop_decided-held.ensures.decided T settled are);
      waiting = gone.0;
      lines = held.lines;
      left = held.left;
    }
