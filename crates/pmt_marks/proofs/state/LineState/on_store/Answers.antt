use Rattle.std.proofs.Common.{◌+◌, ◌<◌, arith}
use Rattle.pmt_model.specs.Traces.{event_limit}
use Rattle.pmt_marks.proofs.MarkLemmas.{none_above-more}
use Rattle.pmt_marks.proofs.state.LineState.on_store.Goals as goal

pub invariant_of-self : goal.invariant_of-self
invariant_of-self c =
    let s = c.self.inside in
    let room : s.count < event_limit = rw (← c.self.view_is) at c.requires in
    record {
      few = omega (arith, room);
      reached = omega (arith, c.self.invariant.reached);
      marked = none_above-more s.count (s.count + 1) s.marks.items (omega arith) c.self.invariant.marked;
      rising = c.self.invariant.rising;
    }
