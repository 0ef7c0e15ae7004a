use Rattle.std.proofs.Common.{◌≡◌, ◌+◌, ◌*◌, ◌<◌, ◌≤◌, subst, ◌∙◌, arith}
use Rattle.pmt_hints.specs.NamedBytes.{Adds}
use Rattle.pmt_hints.proofs.NamedByteLemmas.{below-all, below-more}
use Rattle.pmt_hints.proofs.named_bytes.NamedBytes.add.Goals as goal

pub loop-block-preserved : goal.loop-block-preserved
loop-block-preserved c =
    let max = c.max-from.ensures in
    let min = c.min-to.ensures in
    below-more c.get-low.result (c.get-low.result + c.len.result) c.loop-block.block c.max-from.result c.min-to.result c.args.self.now c.loop-block.self c.add_between.new.self
    (omega (arith, max)) (omega (arith, max)) (omega (arith, min)) (omega (arith, min)) (λ x low own. omega (arith, max, low, own)) (λ x high own. omega (arith, min, high, own)) c.loop-block.invariant c.in_ok-add_between.ensures

pub returns : goal.returns
returns c =
    let old = c.args.self.now in
    let new = c.loop-block.self in
    let first = c.get-low.result in
    let low : c.get-low.result ≡ c.args.range.addr = c.get-low.ensures.value ∙ c.addr.ensures in
    let all = below-all first (first + c.len.result) (c.loop-block.block * 64) old new (omega (arith, c.loop-block-test.false, c.len.ensures.value, c.len.ensures.is_range.some)) c.loop-block.invariant in
    let long = subst (λ n. Adds (λ b. (first ≤ b) × (b < first + n)) old new) c.len.ensures.value all in
    subst (λ a. Adds (λ b. (a ≤ b) × (b < a + c.args.range.len)) old new) low long
