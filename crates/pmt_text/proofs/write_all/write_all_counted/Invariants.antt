use Rattle.std.proofs.Common.{◌≡◌, ◌-◌, ◌≤◌, length, take}
use Rattle.std.specs.Io.KnownBytes.{Appends}
use Rattle.pmt_text.specs.Counting.{inner_device, failure_count}
use Rattle.pmt_text.proofs.write_all.write_all_counted.Given as goal

abbrev pub invariant-loop-written : goal.invariant-loop-written
invariant-loop-written g l = record {
  within : l.written ≤ length l.text;
  out : Appends (g.W.Write.contents (inner_device l.fn.writer)) (g.W.Write.contents (inner_device l.writer)) (take l.written l.text);
  no_failure : failure_count l.writer ≡ failure_count l.fn.writer;
}

abbrev pub decreases-loop-written : goal.decreases-loop-written
decreases-loop-written g l = length l.initial.text - l.written
