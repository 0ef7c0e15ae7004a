use Rattle.pmt_image.proofs.Prelude.{◌≡◌, [], ◌∷◌, drop, map, chosen}
use Rattle.pmt_image.proofs.near.choices.Given as goal

abbrev pub invariant-loop-index : goal.invariant-loop-index
invariant-loop-index l = chosen l.all l.most (drop l.index l.lines) (map (λ choice. choice.items) l.choices.items) ≡ chosen l.all l.most l.lines ([] ∷ [])
