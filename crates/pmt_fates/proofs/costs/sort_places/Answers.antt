use Rattle.pmt_fates.proofs.Prelude.{rules, answers_always}
use Rattle.pmt_fates.proofs.StatOrderLemmas.{in-order, less_paid, less_wasted}
use Rattle.pmt_fates.proofs.costs.sort_places.Goals as goal

pub returns : goal.returns
returns c =
    in-order c.args.places.now.items c.sort_by_key.new.self.items c.sort_by_key-2.new.self.items c.sort_by_key.ensures.permutation c.sort_by_key-2.ensures.permutation
    (c.in_ok-sort_by_key.ensures.sorted less_paid (answers_always _ _ _ (λ f a r g h. search rules)))
    (c.sort_by_key-2.ensures.stable less_wasted (answers_always _ _ _ (λ f a r g h. search rules)))
    (c.in_ok-sort_by_key-2.ensures.sorted less_wasted (answers_always _ _ _ (λ f a r g h. search rules)))
