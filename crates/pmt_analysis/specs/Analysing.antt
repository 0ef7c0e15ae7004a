-- What the analysis of a source tells, and how many workers may make it.
use Rattle.std.specs.Prelude.{ℕ, List, ◌==◌, ◌||◌, Bool}
use Rattle.pmt_model.specs.declared.finding.Finding.{Finding}
use Rattle.pmt_model.specs.declared.finding.Verdict.{Verdict}
use Rattle.pmt_model.specs.Traces.{Recording, IsTrace}
use Rattle.pmt_model.specs.Analyses.{IsAnalysis}

-- What contracts see of an analysis.
pub record Analysed : Type 0 where
  pub trace : Recording
  pub lines : ℕ
  pub findings : List Finding
  pub verdicts : List Verdict
  pub selection : List ℕ

-- What every value of type Analysis keeps: it is the analysis of its trace.
pub record IsAnalysed (a : Analysed) : Type 0 where
  pub is_trace : IsTrace a.trace
  pub right : IsAnalysis a.trace a.lines a.findings a.verdicts a.selection

-- The numbers of workers that may be asked for.
abbrev pub is_worker_count : ℕ → Bool
is_worker_count n = (n == 1) || (n == 2) || (n == 4) || (n == 8) || (n == 16)
