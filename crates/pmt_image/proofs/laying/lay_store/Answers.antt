use Rattle.std.proofs.Common.{◌≡◌, ◌-◌, List, ℕ, inl, inr, length, get_or, refl, ap, ◌∙◌, arith}
use Rattle.pmt_image.proofs.LayLemmas.{laid-none, laid-next, laid-all}
use Rattle.pmt_image.proofs.laying.lay_store.Goals as goal

pub loop-address-init : goal.loop-address-init
loop-address-init c = record { laid = laid-none c.args.at c.args.store c.max-low.result c.args.bytes.now; upto = inl refl }

pub loop-address-preserved : goal.loop-address-preserved
loop-address-preserved c =
    let w = c.args.store in
    let a = c.loop-address.address in
    let start : c.get-start.result ≡ w.addr = c.get-start.ensures.value ∙ c.addr.ensures.value in
    let byte : get_or c.bytes-written.result.now (a - c.get-start.result) 0 ≡ get_or w.bytes (a - w.addr) 0 =
    ap (λ (xs : List ℕ). get_or xs (a - c.get-start.result) 0) c.bytes-written.ensures.value ∙ ap (λ s. get_or w.bytes (a - s) 0) start in
    record {
      laid = laid-next c.args.at w c.max-low.result a c.args.bytes.now c.loop-address.bytes (get_or c.bytes-written.result.now (a - c.get-start.result) 0) (omega (arith, c.loop-address.auto.address)) (omega (arith, c.max-low.ensures, c.loop-address.auto.address))
          (omega (arith, c.max-low.ensures, c.min-high.ensures, c.loop-address.auto.address, c.loop-address-test.true)) byte c.loop-address.invariant.laid;
      upto = inr (omega arith);
    }

pub returns : goal.returns
returns c = λ k fits.
    laid-all c.args.at c.max-low.result c.min-high.result c.loop-address.address c.args.store c.args.bytes.now c.loop-address.bytes
    (omega (arith, c.max-low.ensures, c.get-start.ensures.value, c.addr.ensures.value)) (omega (arith, c.min-high.ensures, c.get-start.ensures.value, c.addr.ensures.value, ap (λ (xs : List ℕ). length xs) c.bytes-written.ensures.value))
    c.loop-address.invariant.laid (omega arith) (omega arith) c.loop-address.invariant.upto k fits
