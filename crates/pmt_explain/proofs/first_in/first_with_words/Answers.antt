use Rattle.std.proofs.Common.{◌≡◌, ◌+◌, ◌*◌, ◌/◌, ◌%◌, ◌==◌, true, subst, sym, arith, ◌∙◌}
use Rattle.std.specs.Prelude.{◌||◌, nat_lt}
use Rattle.pmt_explain.specs.Crashes.{IsFirstBelow}
use Rattle.pmt_explain.proofs.FirstInLemmas.{goes-back, word-after}
use Rattle.pmt_explain.proofs.first_in.first_with_words.Goals as goal

pub loop-word-init : goal.loop-word-init
loop-word-init c = record {
  from = omega arith;
  bound = c.bound_of-bound.ensures;
  first = λ i known. goes-back c.args.search.now c.requires.search i (c.args.block * 64) (c.max-start.result * 8) c.args.first (λ b from to below. omega (arith, c.max-start.ensures));
}

pub loop-word-preserved-then-comes_after : goal.loop-word-preserved-then-comes_after
loop-word-preserved-then-comes_after c =
    let near : c.loop-word.word / 8 ≡ c.args.block = omega (arith, c.loop-word.invariant.from, c.max-start.ensures, c.loop-word-test.true, c.min-end.ensures) in
    let next : c.loop-word.word * 8 + 8 ≡ (c.loop-word.word + 1) * 8 = omega arith in
    let after : ((c.oldest_of_all.result == 0) || nat_lt c.loop-word.bound c.oldest_of_all.result) ≡ true = sym c.comes_after.ensures.after ∙ c.if-comes_after.true in
    record {
      from = omega (arith, c.loop-word.invariant.from);
      bound = c.loop-word.invariant.bound;
      first = λ i known old.
          subst (λ n. IsFirstBelow c.args.search.now i n c.loop-word.earliest) next
          (word-after c.args.search.now c.requires.search i c.args.words.now (c.args.place * 8 + c.loop-word.word % 8) c.loop-word.word (known c.loop-word.word near) c.oldest_of_all.result c.loop-word.earliest
          c.oldest_of_all.ensures (subst (λ b. ((c.oldest_of_all.result == 0) || nat_lt b c.oldest_of_all.result) ≡ true) c.loop-word.invariant.bound after) c.comes_after.ensures.small (c.loop-word.invariant.first i known old));
    }

pub loop-word-preserved : goal.loop-word-preserved
loop-word-preserved c =
    let near : c.loop-word.word / 8 ≡ c.args.block = omega (arith, c.loop-word.invariant.from, c.max-start.ensures, c.loop-word-test.true, c.min-end.ensures) in
    let next : c.loop-word.word * 8 + 8 ≡ (c.loop-word.word + 1) * 8 = omega arith in
    record {
      from = omega (arith, c.loop-word.invariant.from);
      bound = c.bound_of-bound-in-loop-word.ensures;
      first = λ i known old.
          subst (λ n. IsFirstBelow c.args.search.now i n c.first_with_part-earliest.result) next (c.first_with_part-earliest.ensures i (known c.loop-word.word near) (c.loop-word.invariant.first i known old));
    }

pub returns : goal.returns
returns c = λ i known old.
    goes-back c.args.search.now c.requires.search i (c.loop-word.word * 8) (c.args.block * 64 + 64) c.loop-word.earliest (λ b from to below. omega (arith, c.loop-word-test.false, c.min-end.ensures)) (c.loop-word.invariant.first i known old)
