use Rattle.pmt_parts.proofs.Prelude.{◌≡◌, ◌+◌, ◌++◌, List, take, Recording, ByteRange, IsPartOf, ComesNext}
use Rattle.pmt_parts.proofs.part.Part.extend.Given as goal

abbrev pub invariant-loop-event : goal.invariant-loop-event
invariant-loop-event l = record {
  format : l.self.trace.format ≡ l.block.format;
  events : l.self.trace.events ≡ l.fn.self.trace.events ++ take l.event-index l.block.events;
  end : l.self.end ≡ l.fn.self.end + l.event-index;
  place : l.self.place ≡ l.fn.self.place;
  before : l.self.before ≡ l.fn.self.before;
  part : (T : Recording) (ranges : List ByteRange) → IsPartOf T ranges l.fn.self → ComesNext T l.fn.self.end l.block → IsPartOf T ranges l.self;
}
