use Rattle.std.proofs.Common.{◌≡◌, ℕ, List, map, length, Vec, Global, sym, ap, ◌∙◌, subst}
use Rattle.pmt_laws.specs.Prelude.{flat_map, Recording, IsTrace}
use Rattle.std.proofs.lemmas.List.{length-map}
use Rattle.pmt_lines.specs.Jobs.{LineWork, LineFound, line_in, IsSplit}
use Rattle.pmt_findings.specs.Merging.{job_in}
use Rattle.pmt_trim.specs.Kept.{AreLinesKept, AreAllKept}
use Rattle.pmt_asserts.specs.Tables.{AreResultsOf}
use Rattle.pmt_workers.specs.declared.shard.LineAnswer.{LineAnswer}
use Rattle.pmt_workers.specs.Answering.{kept_in}
use Rattle.pmt_workers.proofs.ResultLemmas.{jobs-same, lists-kept, results-of}
use Rattle.pmt_workers.proofs.analyse.analysis_of_jobs.Goals as goal

pub liveness-requires : goal.liveness-requires
liveness-requires g c =
    let T : Recording = c.args.jobs.trace in
    let jobs : List LineWork = c.args.jobs.lines.items in
    let items = λ (kept : Vec ℕ Global). kept.items in
    let answers = flat_map (λ (part : Vec LineAnswer Global). part.items) c.in_ok-parts.parts.items in
    let each : AreLinesKept T (map line_in jobs) (map kept_in answers) = lists-kept T jobs answers c.requires.apart.jobs c.in_ok-parts.ensures in
    let lists : map items c.as_slice.result.now ≡ map kept_in answers = ap (map items) c.as_slice.ensures.value ∙ c.in_ok-results.ensures.lists in
    subst (λ (ls : List (List ℕ)). AreAllKept T ls) (sym lists)
    (subst (λ (ls : List ℕ). AreLinesKept T ls (map kept_in answers)) c.requires.apart.covering each)

pub verdicts-requires-after_bounds : goal.verdicts-requires-after_bounds
verdicts-requires-after_bounds g c κs within =
    let T : Recording = c.args.jobs.trace in
    let jobs : List LineWork = c.args.jobs.lines.items in
    let answers = flat_map (λ (part : Vec LineAnswer Global). part.items) c.in_ok-parts.parts.items in
    subst (λ (rs : List LineFound). AreResultsOf T rs) (sym (c.in_ok-tables.ensures ∙ c.in_ok-results.ensures.results))
    (results-of T jobs answers c.requires.apart.covering c.requires.apart.jobs c.in_ok-parts.ensures)

pub new-requires : goal.new-requires
new-requires g c =
    let T : Recording = c.args.jobs.trace in
    let jobs : List LineWork = c.args.jobs.lines.items in
    let answers = flat_map (λ (part : Vec LineAnswer Global). part.items) c.in_ok-parts.parts.items in
    let is_trace : IsTrace T = subst IsTrace c.trace.view_is c.trace.invariant in
    let results : map job_in c.as_slice-2.result.now ≡ jobs =
    ap (map job_in) (c.as_slice-2.ensures.value ∙ c.in_ok-results.ensures.results) ∙ jobs-same jobs answers c.in_ok-parts.ensures in
    let split : IsSplit T (map job_in c.as_slice-2.result.now) c.in_ok-threads.threads.steps =
    rw (results, c.in_ok-threads.ensures.job) c.requires.apart in
    record {
      touched = c.len-touched.ensures ∙ c.args.jobs.lines.ok.0 ∙ sym (length-map jobs line_in) ∙ ap length c.requires.apart.covering;
      found = c.in_ok-found.ensures T is_trace split;
      judged = c.in_ok-judged.ensures;
      kept = c.in_ok-selection.ensures;
    }
