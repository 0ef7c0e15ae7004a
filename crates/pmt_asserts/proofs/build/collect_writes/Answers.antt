use Rattle.std.proofs.Common.{refl, rules}
use Rattle.std.proofs.lemmas.List.Sorted.{IsNonDecreasingBy-from_sort_by_key}
use Rattle.pmt_asserts.specs.Puts.{put_at, key_of}
use Rattle.pmt_asserts.proofs.BuildLemmas.{writes-more, writes-sorted}
use Rattle.pmt_asserts.proofs.build.collect_writes.Goals as goal

pub loop-index-preserved : goal.loop-index-preserved
loop-index-preserved c =
    writes-more c.args.puts.now c.loop-index.writes.items c.add_writes.new.writes.items c.loop-index.index (put_at c.args.puts.now c.loop-index.index) refl
    c.loop-index-test.true c.loop-index.invariant (c.in_ok-add_writes.ensures {u = tt})

pub returns : goal.returns
returns c =
    writes-sorted c.args.puts.now c.loop-index.writes.items c.sort_unstable_by_key.new.self.items c.loop-index.index (search rules) c.loop-index-test.false c.loop-index.invariant
    c.sort_unstable_by_key.ensures.permutation (IsNonDecreasingBy-from_sort_by_key key_of _ c.sort_unstable_by_key.ensures.sorted (λ a r q k. search rules))
