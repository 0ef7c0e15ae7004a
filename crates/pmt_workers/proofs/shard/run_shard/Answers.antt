use Rattle.std.proofs.Common.{◌≡◌, List, ◌∷◌, [], sym, subst, ◌∙◌}
use Rattle.std.proofs.lemmas.List.{map-id}
use Rattle.std.proofs.lemmas.Iterator.Adapters.{YieldsList-from_vec}
use Rattle.std.proofs.lemmas.Iterator.Consumers.{YieldsList-end}
use Rattle.pmt_lines.specs.Jobs.{LineWork}
use Rattle.pmt_workers.specs.Answering.{AreAnswersTo}
use Rattle.pmt_workers.proofs.AnswerLemmas.{AreAnswersTo-append}
use Rattle.pmt_workers.proofs.shard.run_shard.Goals as goal

pub loop-job-init : goal.loop-job-init
loop-job-init c = rw c.in_ok-answers.ensures.items tt

pub loop-job-preserved : goal.loop-job-preserved
loop-job-preserved c =
    rw c.in_ok-push.ensures.items (AreAnswersTo-append c.loop-job.yielded (c.in-Some.job ∷ []) c.loop-job.answers.items (c.in_ok-answer_to.field-0 ∷ []) c.loop-job.invariant (c.in_ok-answer_to.ensures, tt))

pub returns : goal.returns
returns c =
    let given = c.into_iter-job-iterator.ensures.into_iter_gives in
    let jobs : List LineWork = c.args.jobs.items in
    let list = YieldsList-from_vec jobs given.0 (given.1 ∙ c.args.jobs.ok.0) in
    let end = YieldsList-end list c.loop-job.yielded c.loop-job.job-iterator c.loop-job.yielded_by c.next.result c.next.new.self c.in-None.is c.next.ensures.steps in
    let whole : c.loop-job.yielded ≡ jobs = sym (map-id c.loop-job.yielded) ∙ end.0 in
    subst (λ (js : List LineWork). AreAnswersTo js c.loop-job.answers.items) whole c.loop-job.invariant
