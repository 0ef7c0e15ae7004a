use Rattle.std.proofs.Common.{rules, ◌≡◌, ℕ, true, false, sym, ap, ◌∙◌, arith}
use Rattle.pmt_asked.specs.Choosing.{are_ignored, is_byte_ignored}
use Rattle.pmt_asked.proofs.IgnoringLemmas.{ignored-step, ignored-stop}
use Rattle.pmt_asked.proofs.ignoring.is_store_ignored.Goals as goal

pub returns-then-not-is_byte_ignored : goal.returns-then-not-is_byte_ignored
returns-then-not-is_byte_ignored c =
    let here : is_byte_ignored c.args.ranges.now c.loop-byte.byte ≡ false = search rules in
    sym (ap (λ (a : ℕ). are_ignored c.args.ranges.now a c.args.store.now.bytes) (sym c.loop-byte.invariant.4)
    ∙ c.loop-byte.invariant.0
    ∙ ignored-stop c.args.ranges.now c.get-first.result c.loop-byte.byte c.args.store.now.bytes (omega arith) (omega arith) here)

pub loop-byte-preserved : goal.loop-byte-preserved
loop-byte-preserved c =
    let here : is_byte_ignored c.args.ranges.now c.loop-byte.byte ≡ true = search rules in (
      c.loop-byte.invariant.0
          ∙ ignored-step c.args.ranges.now c.get-first.result c.loop-byte.byte c.args.store.now.bytes (omega arith) (omega arith) here,
      omega arith,
      omega arith,
      search rules,
      search rules,
    )
