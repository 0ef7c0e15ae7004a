-- The last stores to all bytes.
use Rattle.std.specs.Prelude.{◌≡◌, ◌^◌}
use Rattle.pmt_model.specs.Traces.{Recording}
use Rattle.pmt_explain.specs.declared.last_writers.LastWriters.{LastWriters}
use Rattle.pmt_explain.specs.Writers.{AreWriters}

-- They tell the last store to each byte, whatever its address.
pub record AreAllWriters (T : Recording) (w : LastWriters) : Type 0 where
  pub writers : AreWriters T w
  pub low : w.low ≡ 0
  pub high : w.high ≡ 2 ^ 48
