use Rattle.std.proofs.Common.{◌<◌, ◌++◌, ◌∷◌, ℕ, [], length, ap, ◌∙◌, arith, rules}
use Rattle.std.proofs.lemmas.Grind.{elements}
use Rattle.std.proofs.lemmas.List.{length-map}
use Rattle.pmt_rows.specs.Waiting.{list_at}
use Rattle.pmt_rows.proofs.OpenLemmas.{set-own, set-others, set-same_list, read-own}
use Rattle.pmt_rows.proofs.open.OpenFlushes.add.Goals as goal

pub returns-in_err-push-clause-same : goal.returns-in_err-push-clause-same
returns-in_err-push-clause-same c =
    let lists = c.self.inside.lists.items in
    let within : c.args.thread < length lists = omega (arith, c.in_ok-reach.ensures.there, length-map lists (λ v. v.items), ap length c.self.view_is) in
    let same = λ (t : ℕ). set-same_list (λ v. v.items) lists c.args.thread t c.index_mut.result.now c.push.new.self within c.index_mut.ensures.value c.in_err-push.ensures.items ∙ ap (list_at t) c.self.view_is ∙ c.reach.ensures.same t in
    search (rules, same)

pub returns-clause-own : goal.returns-clause-own
returns-clause-own c =
    let lists = c.self.inside.lists.items in
    let t = c.args.thread in
    let within : t < length lists = omega (arith, c.in_ok-reach.ensures.there, length-map lists (λ v. v.items), ap length c.self.view_is) in
    set-own (λ v. v.items) lists t c.push.new.self within ∙ c.in_ok-push.ensures.items
    ∙ ap (λ fs. fs ++ c.args.flush ∷ []) (read-own (λ v. v.items) lists t c.index_mut.result.now within c.index_mut.ensures.value ∙ ap (list_at t) c.self.view_is ∙ c.reach.ensures.same t)

pub returns-clause-others : goal.returns-clause-others
returns-clause-others c = λ t other. set-others (λ v. v.items) c.self.inside.lists.items c.args.thread t c.push.new.self other ∙ ap (list_at t) c.self.view_is ∙ c.reach.ensures.same t

pub index_mut-requires : goal.index_mut-requires
index_mut-requires c = grind (arith, elements)
