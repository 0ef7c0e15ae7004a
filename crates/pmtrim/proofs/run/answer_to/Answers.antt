use Rattle.std.proofs.Common.{◌≡◌, Ok, sym, subst, rules}
use Rattle.command_requests.specs.declared.request.Request.TheVariants.{Explain}
use Rattle.pmtrim.specs.Commands.{Answers}
use Rattle.pmtrim.proofs.run.answer_to.Goals as goal

pub returns-in_ok-status-in-Explain-clause-ends : goal.returns-in_ok-status-in-Explain-clause-ends
returns-in_ok-status-in-Explain-clause-ends g c =
    let done = c.in_ok-status-in-Explain in
    let is : c.args.request.now ≡ Explain c.in-Explain.words = search rules in
    subst (λ r. Answers r (g.I.Read.remaining c.args.input.now) (g.W.Write.contents c.args.out.now) (g.W.Write.contents c.run_explain.new.out) (Ok done.status)) (sym is)
    (λ no-file no-out is-json. (done.field-0-1, done.ensures.json no-file no-out is-json))
