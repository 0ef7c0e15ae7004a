use Rattle.std.proofs.Common.{◌≡◌, ◌+◌, length}
use Rattle.std.specs.Io.KnownBytes.{Consumes}
use Rattle.pmt_text.specs.Coming.{byte_limit}
use Rattle.pmt_text.specs.Counting.{inner_device, failure_count}
use Rattle.pmt_text.proofs.script_input.read_text.Given as goal

abbrev pub invariant-loop-room : goal.invariant-loop-room
invariant-loop-room g l = record {
  room : l.room + length l.text.items ≡ byte_limit;
  taken : Consumes (g.R.Read.remaining (inner_device l.fn.input)) (g.R.Read.remaining (inner_device l.input)) l.text.items;
  counted : failure_count l.input ≡ failure_count l.fn.input;
}

abbrev pub decreases-loop-room : goal.decreases-loop-room
decreases-loop-room g l = l.room
