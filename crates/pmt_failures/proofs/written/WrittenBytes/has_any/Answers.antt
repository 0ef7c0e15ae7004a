use Rattle.std.proofs.Common.{rules, ◌≡◌, ℕ, ◌+◌, ◌<◌, ◌≤◌, sym, ap, ◌∙◌, arith}
use Rattle.std.specs.Int.{bit_at}
use Rattle.std.specs.List.{list_any, range_with_len}
use Rattle.pmt_failures.specs.Showing.{has_byte}
use Rattle.pmt_failures.proofs.WrittenLemmas.{none-further, none-found, some-found}
use Rattle.pmt_failures.proofs.written.WrittenBytes.has_any.Goals as goal

pub loop-number-preserved : goal.loop-number-preserved
loop-number-preserved c =
    let none : (k : ℕ) → c.saturating_sub-low.result ≤ k → k < c.min-high.result → bit_at c.block.result k ≡ 0 = search rules in
    none-further c.args.self.now c.block.result c.get-first.result (c.get-first.result + c.len.result) c.loop-number.number c.saturating_sub-low.result c.min-high.result c.block.ensures none c.saturating_sub-low.ensures c.min-high.ensures c.loop-number.invariant

pub returns-then-is_any_set : goal.returns-then-is_any_set
returns-then-is_any_set c =
    let from : c.get-first.result ≡ c.args.range.addr = search rules in
    let found : (k : ℕ) × (c.saturating_sub-low.result ≤ k) × (k < c.min-high.result) × (bit_at c.block.result k ≡ 1) = search rules in
    sym (some-found c.args.self.now c.block.result c.get-first.result c.len.result c.loop-number.number c.saturating_sub-low.result c.min-high.result found.0 c.block.ensures c.saturating_sub-low.ensures c.min-high.ensures found.1 found.2 found.3)
    ∙ ap (λ (a : ℕ). list_any (has_byte c.args.self.now) (range_with_len a c.len.result)) from
    ∙ ap (λ (n : ℕ). list_any (has_byte c.args.self.now) (range_with_len c.args.range.addr n)) c.len.ensures.value

pub returns : goal.returns
returns c =
    let from : c.get-first.result ≡ c.args.range.addr = search rules in
    sym (none-found c.args.self.now c.get-first.result c.len.result c.loop-number.number (omega arith) c.loop-number.invariant)
    ∙ ap (λ (a : ℕ). list_any (has_byte c.args.self.now) (range_with_len a c.len.result)) from
    ∙ ap (λ (n : ℕ). list_any (has_byte c.args.self.now) (range_with_len c.args.range.addr n)) c.len.ensures.value
