use Rattle.std.proofs.Common.{inl, inr, length, refl, ap, arith}
use Rattle.pmt_explain.proofs.LastStoreLemmas.{noted-none, noted-next, noted-all}
use Rattle.pmt_explain.proofs.last_stores.note_store.Goals as goal

pub loop-byte-init : goal.loop-byte-init
loop-byte-init c = record { noted = noted-none c.args.first c.args.number c.max-low.result c.args.last.now; upto = inl refl }

pub loop-byte-preserved : goal.loop-byte-preserved
loop-byte-preserved c = record {
  noted = noted-next c.args.first c.args.number c.max-low.result c.loop-byte.byte c.args.last.now c.loop-byte.last (omega arith) (omega (arith, c.max-low.ensures)) (omega (arith, c.max-low.ensures, c.min-high.ensures, c.loop-byte.auto.byte, c.loop-byte-test.true)) c.loop-byte.invariant.noted;
  upto = inr (omega arith);
}

pub returns : goal.returns
returns c = λ k fits.
    noted-all c.args.first c.args.number c.max-low.result c.min-high.result c.loop-byte.byte c.args.store c.args.last.now c.loop-byte.last
    (omega (arith, c.max-low.ensures, c.get-start.ensures.value, c.addr.ensures.value)) (omega (arith, c.min-high.ensures, c.get-start.ensures.value, c.addr.ensures.value, ap (λ xs. length xs) c.bytes.ensures.value))
    c.loop-byte.invariant.noted (omega arith) (omega arith) c.loop-byte.invariant.upto k fits
