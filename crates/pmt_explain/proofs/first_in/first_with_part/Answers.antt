use Rattle.std.proofs.Common.{◌+◌, ◌*◌, ◌%◌, ◌-◌, refl, arith}
use Rattle.pmt_explain.proofs.FirstInLemmas.{goes-back, word-known, word-none}
use Rattle.pmt_explain.proofs.first_in.first_with_part.Goals as goal

pub returns-then-has_none : goal.returns-then-has_none
returns-then-has_none c = λ i known.
    word-none c.args.search.now c.requires.search i c.args.words.now c.args.index c.args.word known (c.max-start.result % 8) (c.min-end.result - c.max-start.result) c.max-start.result c.min-end.result c.args.first
    (λ b from above. omega (arith, c.max-start.ensures)) (λ b to below. omega (arith, c.min-end.ensures)) (omega (arith, c.max-start.ensures)) (omega (arith, c.min-end.ensures)) refl refl
    (c.has_none.ensures c.if-has_none.true)

pub loop-byte-init : goal.loop-byte-init
loop-byte-init c = record {
  from = omega arith;
  first = λ i known. goes-back c.args.search.now c.requires.search i (c.args.word * 8) c.max-start.result c.args.first (λ b from to below. omega (arith, c.max-start.ensures));
}

pub loop-byte-preserved : goal.loop-byte-preserved
loop-byte-preserved c = record {
  from = omega (arith, c.loop-byte.invariant.from);
  first = λ i known old.
      c.first_with_byte-earliest.ensures i
      (word-known c.args.search.now c.requires.search i c.args.words.now c.args.index c.args.word known c.loop-byte.byte (omega (arith, c.loop-byte.invariant.from, c.max-start.ensures))
      (omega (arith, c.loop-byte-test.true, c.min-end.ensures)) (omega (arith, c.loop-byte.invariant.from, c.max-start.ensures)) (omega (arith, c.loop-byte-test.true, c.min-end.ensures)))
      (c.loop-byte.invariant.first i known old);
}

pub returns : goal.returns
returns c = λ i known old.
    goes-back c.args.search.now c.requires.search i c.loop-byte.byte (c.args.word * 8 + 8) c.loop-byte.earliest (λ b from to below. omega (arith, c.loop-byte-test.false, c.min-end.ensures)) (c.loop-byte.invariant.first i known old)
