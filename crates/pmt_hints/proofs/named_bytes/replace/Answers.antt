use Rattle.std.proofs.Common.{◌≡◌, true, subst, arith}
use Rattle.std.specs.Prelude.{◌↔◌}
use Rattle.pmt_hints.specs.NamedBytes.{IsFilled}
use Rattle.pmt_hints.proofs.NamedByteLemmas.{IsAnyIn, any-more, any-none, filled-more, filled-none}
use Rattle.pmt_hints.proofs.named_bytes.replace.Goals as goal

pub loop-index-init : goal.loop-index-init
loop-index-init c = record { any = any-none c.args.low c.args.flags.now; filled = filled-none c.args.value c.args.low c.args.flags.now }

pub loop-index-preserved : goal.loop-index-preserved
loop-index-preserved c = record {
  any = any-more c.args.value c.args.low c.loop-index.index c.args.flags.now c.loop-index.flags c.loop-index.is_any (omega arith) c.loop-index.invariant.filled c.loop-index.invariant.any;
  filled = filled-more c.args.value c.args.low c.loop-index.index c.args.flags.now c.loop-index.flags (omega arith) (omega arith) c.loop-index.invariant.filled;
}

pub returns : goal.returns
returns c =
    let end : c.loop-index.index ≡ c.args.high = omega arith in
    record {
      any = subst (λ n. (c.loop-index.is_any ≡ true) ↔ IsAnyIn c.args.low n c.args.flags.now) end c.loop-index.invariant.any;
      filled = subst (λ n. IsFilled c.args.value c.args.low n c.args.flags.now c.loop-index.flags) end c.loop-index.invariant.filled;
    }
