-- What a splitter has taken.
use Rattle.std.specs.Prelude.{◌≡◌, length}
use Rattle.pmt_model.specs.Traces.{Recording}
use Rattle.pmt_lines.specs.declared.splitter.Splitter.{Splitter}
use Rattle.pmt_lines.specs.Jobs.{IsSplitting}

-- It has taken the events of this trace, and no others.
pub record HasTaken (T : Recording) (s : Splitter) : Type 0 where
  pub format : s.format ≡ T.format
  pub taken : s.taken ≡ length T.events
  pub so_far : IsSplitting T s.lines.keys s.jobs.items s.open_flushes s.fences

-- It has taken the events of some trace.
abbrev pub IsTaking : Splitter → Type 0
IsTaking s = (T : Recording) × HasTaken T s
