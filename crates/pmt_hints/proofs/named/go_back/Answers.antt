use Rattle.std.proofs.Common.{inl, inr, ap}
use Rattle.pmt_model.specs.declared.event.Op.{Op}
use Rattle.pmt_explain.specs.LastStores.{written_by}
use Rattle.pmt_hints.proofs.NamingLemmas.{back-other}
use Rattle.pmt_hints.proofs.named.go_back.Goals as goal

pub returns-in_ok-add_named-in-IsPersist : goal.returns-in_ok-add_named-in-IsPersist
returns-in_ok-add_named-in-IsPersist c =
    back-other c.args.role c.args.is_naming c.args.op c.args.bytes.now c.add_named.new.bytes
    (λ b. elim c.in-IsPersist.is [ inl x ↦ ap (λ (o : Op). written_by o b) x.1 | inr x ↦ ap (λ (o : Op). written_by o b) x.2 ]) c.in_ok-add_named-in-IsPersist.ensures
