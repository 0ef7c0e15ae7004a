use Rattle.std.proofs.Common.{take}
use Rattle.pmt_lines.specs.Jobs.{EndsAt}
use Rattle.pmt_lines.proofs.splitter.end_intervals.Given as goal

abbrev pub invariant-loop-place : goal.invariant-loop-place
invariant-loop-place l = EndsAt (take l.place-index l.places) l.fence l.initial.jobs.items l.jobs.items
