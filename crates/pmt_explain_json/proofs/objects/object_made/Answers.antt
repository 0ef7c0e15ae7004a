use Rattle.std.proofs.Common.{sym, subst, arith}
use Rattle.std.proofs.lemmas.List.{nil_from_length}
use Rattle.std.specs.Prelude.{IsOkAnd}
use Rattle.serde_json.specs.Data.{Members, put}
use Rattle.serde_json.specs.View.{view, members_view}
use Rattle.serde_json.specs.declared.value.Value.{Object}
use Rattle.serde_json.proofs.Views.{view-Object}
use Rattle.pmt_explain_json.specs.Entries.{IsMadeOf}
use Rattle.pmt_explain_json.proofs.objects.object_made.Goals as goal

pub loop-key-preserved : goal.loop-key-preserved
loop-key-preserved c d made =
    let fields = c.next.new.self.rest.items in
    let old = members_view c.loop-key.members.entries in
    c.loop-key.invariant d
    (subst (λ fs. IsMadeOf fs old d) (sym c.in-Some.ensures.steps.0)
    (subst (λ r. IsOkAnd r (λ v. IsMadeOf fields (put c.in-Some.key.now (view v) old) d)) (sym c.in_ok-value.was)
    (subst (λ (ms : Members). IsMadeOf fields ms d) c.in_ok-put.ensures.ok made)))

pub returns : goal.returns
returns c =
    let members = c.loop-key.members in
    let none = nil_from_length c.loop-key.key-iterator.rest.items (omega (arith, c.in-None.ensures.steps.0)) in
    c.loop-key.invariant (view (Object members)) (subst (λ fs. IsMadeOf fs (members_view members.entries) (view (Object members))) (sym none) (view-Object members))
