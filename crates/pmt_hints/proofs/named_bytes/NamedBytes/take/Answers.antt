use Rattle.std.proofs.Common.{◌≡◌, length, ap, ◌∙◌, refl, arith}
use Rattle.pmt_hints.proofs.NamedByteLemmas.{flags-back, takes-called}
use Rattle.pmt_hints.proofs.named_bytes.NamedBytes.take.Goals as goal

pub returns : goal.returns
returns c =
    let t = c.args.self.now in
    let lent : length c.as_mut_slice.result.now ≡ length c.args.self.now.flags.items = ap (λ xs. length xs) c.as_mut_slice.ensures.value in
    let same = flags-back c.args.self.now.flags.len c.replace-is_any.new.flags c.args.self.now.flags.items (omega (arith, c.replace-is_any.ensures.filled.size, lent, c.as_mut_slice.ensures.len)) (omega (arith, lent, c.as_mut_slice.ensures.len)) in
    takes-called c.args.store t _ c.in-Some.place c.get-addr.result (length c.bytes.result.now) c.replace-is_any.result c.as_mut_slice.result.now c.replace-is_any.new.flags c.addr.ensures.is_store c.requires (c.get-addr.ensures.value ∙ c.addr.ensures.value)
    (ap (λ xs. length xs) c.bytes.ensures.value) c.as_mut_slice.ensures.value same c.in-Some.ensures.found refl refl c.replace-is_any.ensures.any c.replace-is_any.ensures.filled
