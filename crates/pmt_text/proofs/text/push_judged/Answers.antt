-- The event that was judged is not added.
use Rattle.std.proofs.Common.{◌≡◌, rules, subst, sym, Result, Ok, Err, IfOk}
use Rattle.pmt_text.specs.Prelude.{Event, IsEventIn}
use Rattle.pmt_text.specs.declared.kind.TextKind.{TextKind}
use Rattle.pmt_text.specs.Texts.{AddsJudged}
use Rattle.pmt_text.proofs.text.push_judged.Goals as goal

pub returns-in-Err-push : goal.returns-in-Err-push
returns-in-Err-push c =
    let is : c.args.judged ≡ Ok c.in-Ok.event = c.in-Ok.is in
    let allowed : IsEventIn c.args.trace.now.format c.in-Ok.event = subst (λ (judged : Result Event TextKind). IfOk judged (IsEventIn c.args.trace.now.format)) is c.requires in
    subst (λ (judged : Result Event TextKind). AddsJudged c.args.trace.now judged (Err c.fault_at-in-Err-push.result) c.push.new.self) (sym is) (search (rules, allowed))
