-- The results and the lists of what is kept, taken from the answers to all jobs of a trace.
use Rattle.std.proofs.Common.{◌≡◌, ℕ, List, [], ◌∷◌, map, length, refl, sym, ap, ap₂, ◌∙◌, subst}
use Rattle.pmt_laws.specs.Prelude.{AllByRecursion, Recording, history, lines_of}
use Rattle.pmt_lines.specs.Jobs.{LineWork, LineFound, IsJob, IsLeanJob, line_in}
use Rattle.pmt_findings.specs.Merging.{job_in}
use Rattle.pmt_trim.specs.Kept.{AreLinesKept}
use Rattle.pmt_workers.specs.declared.shard.LineAnswer.{LineAnswer}
use Rattle.pmt_workers.specs.Answering.{AreAnswersTo, result_in, kept_in}
use Rattle.pmt_asserts.specs.Tables.{found_line as line_found, AreResultsOf}

-- the results have the jobs that were answered
pub jobs-same : (jobs : List LineWork) (answers : List LineAnswer) → AreAnswersTo jobs answers → map job_in (map result_in answers) ≡ jobs
jobs-same [] [] all = refl
jobs-same [] (a ∷ answers) all = absurd all
jobs-same (j ∷ jobs) [] all = absurd all
jobs-same (j ∷ jobs) (a ∷ answers) all = ap₂ (λ (w : LineWork) (ws : List LineWork). w ∷ ws) all.0.same (jobs-same jobs answers all.1)

-- and their lines
lines-same : (results : List LineFound) → map line_found results ≡ map line_in (map job_in results)
lines-same [] = refl
lines-same (r ∷ results) = ap (λ (ls : List ℕ). r.job.line ∷ ls) (lines-same results)

of-jobs : (T : Recording) (jobs : List LineWork) (answers : List LineAnswer) → AllByRecursion (IsLeanJob T) jobs → AreAnswersTo jobs answers →
    AllByRecursion (λ (found : LineFound). IsJob T found.job) (map result_in answers)
of-jobs T [] [] lean all = tt
of-jobs T [] (a ∷ answers) lean all = absurd all
of-jobs T (j ∷ jobs) [] lean all = absurd all
of-jobs T (j ∷ jobs) (a ∷ answers) lean all = (subst (λ (w : LineWork). IsJob T w) (sym all.0.same) lean.0.0, of-jobs T jobs answers lean.1 all.1)

pub results-of : (T : Recording) (jobs : List LineWork) (answers : List LineAnswer) → map line_in jobs ≡ lines_of (history T (length T.events)) →
    AllByRecursion (IsLeanJob T) jobs → AreAnswersTo jobs answers → AreResultsOf T (map result_in answers)
results-of T jobs answers covering lean all = record {
  covering = lines-same (map result_in answers) ∙ ap (map line_in) (jobs-same jobs answers all) ∙ covering;
  jobs = of-jobs T jobs answers lean all;
}

-- what is kept for each line
pub lists-kept : (T : Recording) (jobs : List LineWork) (answers : List LineAnswer) → AllByRecursion (IsLeanJob T) jobs → AreAnswersTo jobs answers →
    AreLinesKept T (map line_in jobs) (map kept_in answers)
lists-kept T [] [] lean all = tt
lists-kept T [] (a ∷ answers) lean all = absurd all
lists-kept T (j ∷ jobs) [] lean all = absurd all
lists-kept T (j ∷ jobs) (a ∷ answers) lean all = (all.0.kept T lean.0.0, lists-kept T jobs answers lean.1 all.1)
