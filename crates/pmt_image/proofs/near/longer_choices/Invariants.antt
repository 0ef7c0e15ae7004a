use Rattle.pmt_image.proofs.Prelude.{◌≡◌, ◌-◌, take, map, flat_map, low_of, settings}
use Rattle.pmt_image.proofs.near.longer_choices.Given as goal

abbrev pub invariant-loop-choice : goal.invariant-loop-choice
invariant-loop-choice l =
    map (λ choice. choice.items) l.more.items ≡ flat_map (settings l.most l.line.line (low_of l.all l.line) (l.line.stores - l.line.persisted)) (map (λ choice. choice.items) (take l.choice-index l.choices))
