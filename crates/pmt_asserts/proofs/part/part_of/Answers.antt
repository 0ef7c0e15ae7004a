use Rattle.std.proofs.Common.{◌≡◌, ◌*◌, arith, ap}
use Rattle.pmt_asserts.proofs.PartLemmas.{part-is}
use Rattle.pmt_asserts.proofs.part.part_of.Goals as goal

pub returns : goal.returns
returns c = λ b.
    let p = part-is c.args.format c.args.range c.args.line c.line_size-size.ensures.allowed b in
    let start : c.args.line * c.line_size-size.result ≡ c.args.line * c.args.format.line_size = ap (λ n. c.args.line * n) c.line_size-size.ensures.value in
    let size = c.line_size-size.ensures.value in
    let first = c.get-first.ensures.value in
    let addr = c.addr.ensures in
    let len = c.len.ensures.value in
    (λ h. p.0 (omega (arith, h.0), omega (arith, h.1)), λ h. let q = p.1 h in (omega (arith, q.0), omega (arith, q.1)))
