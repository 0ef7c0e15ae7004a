use Rattle.std.proofs.Common.{◌≡◌, ℕ, List, map, Vec, Global, sym, ap, ◌∙◌, subst}
use Rattle.pmt_model.specs.Traces.{Recording}
use Rattle.pmt_lines.specs.Jobs.{LineWork, LineFound, line_in}
use Rattle.pmt_trim.specs.Kept.{AreLinesKept, AreAllKept}
use Rattle.pmt_asserts.specs.Tables.{AreResultsOf}
use Rattle.pmt_workers.specs.Answering.{kept_in}
use Rattle.pmt_workers.proofs.ResultLemmas.{lists-kept, results-of}
use Rattle.refused_calls.proofs.shard.joined.Goals as goal

pub keep-requires : goal.keep-requires
keep-requires g c =
    let T : Recording = c.args.jobs.trace in
    let jobs : List LineWork = c.args.jobs.lines.items in
    let items = λ (kept : Vec ℕ Global). kept.items in
    let answers = c.in_ok-answers.answers.items in
    let each : AreLinesKept T (map line_in jobs) (map kept_in answers) = lists-kept T jobs answers c.requires.jobs c.in_ok-answers.ensures in
    let lists : map items c.as_slice.result.now ≡ map kept_in answers = ap (map items) c.as_slice.ensures.value ∙ c.in_ok-results.ensures.lists in
    subst (λ (ls : List (List ℕ)). AreAllKept T ls) (sym lists)
    (subst (λ (ls : List ℕ). AreLinesKept T ls (map kept_in answers)) c.requires.covering each)

pub judge-requires-after_bounds : goal.judge-requires-after_bounds
judge-requires-after_bounds g c κs within =
    let T : Recording = c.args.jobs.trace in
    let jobs : List LineWork = c.args.jobs.lines.items in
    let answers = c.in_ok-answers.answers.items in
    subst (λ (rs : List LineFound). AreResultsOf T rs) (sym c.in_ok-results.ensures.results)
    (results-of T jobs answers c.requires.covering c.requires.jobs c.in_ok-answers.ensures)
