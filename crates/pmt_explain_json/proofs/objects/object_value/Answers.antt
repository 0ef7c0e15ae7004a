use Rattle.std.proofs.Common.{ap, ◌∙◌, sym, arith}
use Rattle.std.proofs.lemmas.List.{nil_from_length}
use Rattle.serde_json.specs.Data.{object}
use Rattle.serde_json.specs.View.{members_view}
use Rattle.serde_json.proofs.Views.{view-Object}
use Rattle.pmt_explain_json.specs.Entries.{put_all}
use Rattle.pmt_explain_json.proofs.objects.object_value.Goals as goal

pub loop-key-preserved : goal.loop-key-preserved
loop-key-preserved c =
    ap (put_all c.next.new.self.rest.items) c.in_ok-put.ensures.ok
    ∙ sym (ap (λ fs. put_all fs (members_view c.loop-key.members.entries)) c.in-Some.ensures.steps.0)
    ∙ c.loop-key.invariant

pub returns : goal.returns
returns c =
    let members = c.loop-key.members in
    let none = nil_from_length c.loop-key.key-iterator.rest.items (omega (arith, c.in-None.ensures.steps.0)) in
    view-Object members ∙ ap object (ap (λ fs. put_all fs (members_view members.entries)) (sym none) ∙ c.loop-key.invariant)
