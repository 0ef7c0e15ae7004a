use Rattle.std.proofs.Common.{◌≡◌, length, map, reverse}
use Rattle.pmt_model.specs.Traces.{act}
use Rattle.pmt_book.specs.Live.{none_touches}
use Rattle.pmt_book.proofs.touching.none_touches.Given as goal

abbrev pub invariant-loop-event : goal.invariant-loop-event
invariant-loop-event l =
    none_touches l.left l.line l.range (reverse (map (act l.format) l.rest)) ≡ none_touches l.count l.line l.range (reverse (map (act l.format) l.events))

abbrev pub decreases-loop-event : goal.decreases-loop-event
decreases-loop-event l = length l.rest
