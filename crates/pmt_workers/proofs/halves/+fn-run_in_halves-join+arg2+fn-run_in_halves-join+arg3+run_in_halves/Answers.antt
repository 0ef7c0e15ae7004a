use Rattle.std.proofs.Common.{ℕ, List, ◌++◌, take, drop, subst, sym, rules, IfOk, Vec, Global}
use Rattle.std.specs.List.{flat_map}
use Rattle.std.proofs.lemmas.Grind.{flat_map-append}
use Rattle.std.proofs.lemmas.Result.{IfOk-weaker}
use Rattle.pmt_lines.specs.Jobs.{LineWork}
use Rattle.pmt_workers.specs.declared.shard.LineAnswer.{LineAnswer}
use Rattle.pmt_workers.specs.Answering.{AreAnswersTo}
use Rattle.pmt_workers.proofs.AnswerLemmas.{AreAnswersTo-parts}
use Rattle.pmt_workers.proofs.halves.+fn-run_in_halves-join+arg2+fn-run_in_halves-join+arg3+run_in_halves.Goals as goal

pub returns : goal.returns
returns g t c =
    let half : ℕ = c.fair_cut-at.result in
    let jobs : List LineWork = c.args.jobs.items in
    let items : Vec LineAnswer Global → List LineAnswer = λ part. part.items in
    let answered : IfOk c.join-parts.result.0 (λ parts. AreAnswersTo c.split_off.new.self.items (flat_map (λ part. part.items) parts.items)) = search rules in
    let answered_later : IfOk c.join-parts.result.1 (λ parts. AreAnswersTo c.in_ok-back.back.items (flat_map (λ part. part.items) parts.items)) = search rules in
    let parts : List (Vec LineAnswer Global) = c.in_ok-parts.field-0.items in
    let more : List (Vec LineAnswer Global) = c.in_ok-more.field-0.items in
    let first : AreAnswersTo c.split_off.new.self.items (flat_map items parts) = rw c.in_ok-parts.was at answered in
    let second : AreAnswersTo c.in_ok-back.back.items (flat_map items more) = rw c.in_ok-more.was at answered_later in
    let front : AreAnswersTo (take half jobs) (flat_map items parts) = rw c.in_ok-back.ensures.items at first in
    let back : AreAnswersTo (drop half jobs) (flat_map items more) = rw c.in_ok-back.ensures.tail at second in
    let both : AreAnswersTo jobs (flat_map items parts ++ flat_map items more) = AreAnswersTo-parts half jobs (flat_map items parts) (flat_map items more) front back in
    let all : AreAnswersTo jobs (flat_map items (parts ++ more)) = subst (λ (l : List LineAnswer). AreAnswersTo jobs l) (sym (flat_map-append items parts more)) both in
    IfOk-weaker c.joined.result _ (λ ps. AreAnswersTo jobs (flat_map items ps.items)) (λ ps is. subst (λ (l : List (Vec LineAnswer Global)). AreAnswersTo jobs (flat_map items l)) (sym is) all) c.joined.ensures
