use Rattle.std.proofs.Common.{rules}
use Rattle.std.proofs.lemmas.List.Sorted.{IsNonDecreasingBy-from_sort_by_key}
use Rattle.pmt_entries.specs.Entries.{first_of}
use Rattle.pmt_entries.proofs.losses.sort.Goals as goal

pub returns : goal.returns
returns c =
    (c.sort_by_key.ensures.permutation, IsNonDecreasingBy-from_sort_by_key first_of _ c.in_ok-sort_by_key.ensures.sorted (λ a r q k. search rules))
