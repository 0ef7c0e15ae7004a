-- A trace, and what a sweep has found in it.
use Rattle.std.specs.Prelude.{◌≡◌, length}
use Rattle.pmt_laws.specs.Prelude.{IsFindings, IsVerdicts, IsKeep, history, lines_of}
use Rattle.pmt_tables.specs.Flags.{marked_from}
use Rattle.pmt_sweep.specs.Entries.{AreSafePlaces}
use Rattle.pmt_explain_run.specs.declared.sweeping.SweptTrace.{SweptTrace}

pub record IsSweptTrace (x : SweptTrace) : Type 0 where
  pub lines : x.swept.lines ≡ length (lines_of (history x.trace (length x.trace.events)))
  pub findings : IsFindings x.trace x.swept.findings.items
  pub verdicts : IsVerdicts x.trace x.swept.verdicts.items
  pub kept : IsKeep x.trace (marked_from 0 x.swept.kept.items)
  pub safe : AreSafePlaces x.trace x.swept.safe
