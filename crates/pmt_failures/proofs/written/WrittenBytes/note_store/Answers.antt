use Rattle.std.proofs.Common.{rules, ◌≡◌, ℕ, ◌+◌, ◌-◌, ◌/◌, ◌%◌, ◌^◌, length, subst}
use Rattle.std.specs.Prelude.{cond, nat_eq, OnOk}
use Rattle.std.specs.Int.Bits.{bit_or}
use Rattle.std.proofs.lemmas.Result.{on_ok_weaker}
use Rattle.pmt_failures.specs.declared.written.WrittenBytes.{WrittenBytes}
use Rattle.pmt_failures.specs.Showing.{bits_of}
use Rattle.pmt_failures.proofs.WrittenLemmas.{noted-store}
use Rattle.pmt_failures.proofs.written.WrittenBytes.note_store.Goals as goal

pub returns : goal.returns
returns c =
    let w = c.args.store.now in
    let first : ℕ = c.get-first.result in
    let len : ℕ = length c.bytes.result.now in
    let from : first ≡ w.addr = search rules in
    let size : len ≡ length w.bytes = search rules in
    let old : WrittenBytes = c.args.self.now in
    let more : OnOk c.note_bits.result ((q : ℕ) → bits_of c.note_bits.new.self q ≡ cond (nat_eq (first / 64) q) (bit_or (bits_of old (first / 64)) (2 ^ (first % 64 + len) - 2 ^ (first % 64))) (bits_of old q)) =
    subst (λ (bits : ℕ). OnOk c.note_bits.result ((q : ℕ) → bits_of c.note_bits.new.self q ≡ cond (nat_eq (first / 64) q) (bit_or (bits_of old (first / 64)) bits) (bits_of old q))) c.bits_between.ensures c.note_bits.ensures in
    on_ok_weaker c.note_bits.result (noted-store old c.note_bits.new.self w first len c.addr.ensures.is_store from size) more
