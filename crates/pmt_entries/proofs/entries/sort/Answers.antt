use Rattle.std.proofs.Common.{rules}
use Rattle.std.proofs.lemmas.List.Sorted.{IsNonDecreasingBy-from_sort_by_key, answers_always}
use Rattle.pmt_entries.specs.Entries.{rank_of}
use Rattle.pmt_entries.proofs.entries.sort.Goals as goal

pub returns : goal.returns
returns c = record {
  same = c.sort_by_key.ensures.permutation;
  rising = IsNonDecreasingBy-from_sort_by_key rank_of _ c.in_ok-sort_by_key.ensures.sorted (λ a r q k. search rules);
  stable = c.in_ok-sort_by_key.ensures.stable rank_of (answers_always _ _ _ (λ f a r q k. search rules));
}
