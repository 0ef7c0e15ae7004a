use Rattle.std.proofs.Common.{length, refl, ap, ◌∙◌}
use Rattle.pmt_explain.proofs.BlockLemmas.{notes}
use Rattle.pmt_explain.proofs.blocks.Blocks.note.Goals as goal

pub returns : goal.returns
returns c =
    notes c.args.store c.args.number c.in_ok-place.place c.get-addr.result (length c.bytes.result.now) c.args.self.now c.open.new.self _ c.index_mut.result.now c.addr.ensures.is_store
    (c.get-addr.ensures.value ∙ c.addr.ensures.value) (ap (λ xs. length xs) c.bytes.ensures.value) c.in_ok-place.ensures refl c.index_mut.ensures.value refl c.in_ok-store.ensures.many c.in_ok-store.ensures.stored
