-- How jobs are shared out, what the workers answer, and what an analysis tells by that.
use Rattle.std.specs.Prelude.{◌≤◌, ℕ, ◌+◌, ◌-◌, List, [], ◌∷◌, length, take, drop, ◌≡◌, ◌⊎◌, Result, Ok, Err}
use Rattle.pmt_lines.specs.Jobs.{LineWork, IsLineResult, LineFound}
use Rattle.pmt_trim.specs.Kept.{IsJobKept}
use Rattle.pmt_text.specs.declared.kind.SourceError.{SourceError}
use Rattle.pmt_text.specs.declared.source.SourceState.{SourceState}
use Rattle.pmt_taking.specs.declared.taking.TakeError.{TakeError}
use Rattle.pmt_taking.specs.Sourcing.{TellsEnd, TellsFault, TellsNothing}
use Rattle.pmt_workers.specs.declared.shard.LineAnswer.{LineAnswer}
use Rattle.pmt_workers.specs.declared.analyse.AnalyseError.{AnalyseError}
use Rattle.pmt_workers.specs.declared.analyse.AnalyseError.TheVariants.{BadWorkers, Source, OutOfMemory}
use Rattle.pmt_taking.specs.declared.taking.TakeError.TheVariants as refusals

-- The steps of all these jobs.
abbrev pub steps_of : List LineWork → ℕ
steps_of [] = 0
steps_of (job ∷ jobs) = length job.steps + steps_of jobs

-- How far two numbers are apart.
abbrev pub apart : ℕ → ℕ → ℕ
apart m n = (m - n) + (n - m)

-- No other cut brings the steps of the two parts nearer to equal.
pub record IsFairCut (jobs : List LineWork) (at : ℕ) : Type 0 where
  pub within : at ≤ length jobs
  pub fair : (n : ℕ) → n ≤ length jobs → apart (steps_of (take at jobs)) (steps_of (drop at jobs)) ≤ apart (steps_of (take n jobs)) (steps_of (drop n jobs))

-- The answer to a job: the result of that job, and what is kept for its line in whatever trace the job is of.
pub record IsAnswerTo (job : LineWork) (answer : LineAnswer) : Type 0 where
  pub same : answer.result.job ≡ job
  pub right : IsLineResult answer.result
  pub kept : IsJobKept job answer.kept.items

-- An answer to each job, in their order.
abbrev pub AreAnswersTo : List LineWork → List LineAnswer → Type 0
AreAnswersTo [] [] = Unit {0}
AreAnswersTo [] (a ∷ answers) = ⊥
AreAnswersTo (j ∷ jobs) [] = ⊥
AreAnswersTo (j ∷ jobs) (a ∷ answers) = IsAnswerTo j a × AreAnswersTo jobs answers

-- The result of an answer.
abbrev pub result_in : LineAnswer → LineFound
result_in answer = answer.result

-- The numbers that are kept for its line.
abbrev pub kept_in : LineAnswer → List ℕ
kept_in answer = answer.kept.items

-- The fault that the source told, if it told one.
abbrev pub told_by : {A : Type 0} → Result A AnalyseError → Result (Unit {0}) SourceError
told_by (Ok a) = Ok tt
told_by (Err BadWorkers) = Ok tt
told_by (Err (Source e)) = Err e
told_by (Err OutOfMemory) = Ok tt

-- The source told its end, or the fault that is answered; where memory was refused to the analysis itself, it told no fault; of a
-- bad number of workers it was not asked.
abbrev pub TellsSource : {A : Type 0} → SourceState → Result A AnalyseError → SourceState → Type 0
TellsSource old (Ok a) new = TellsEnd old new
TellsSource old (Err BadWorkers) new = new ≡ old
TellsSource old (Err (Source e)) new = TellsFault old e new
TellsSource old (Err OutOfMemory) new = TellsNothing old new ⊎ TellsEnd old new

-- The error of an analysis whose events were refused so.
abbrev pub error_of : TakeError → AnalyseError
error_of (refusals.Source e) = Source e
error_of refusals.OutOfMemory = OutOfMemory
