use Rattle.pmt_page.proofs.Prelude.{◌≡◌, ◌++◌, ◌∷◌, List, ℕ, drop, map, Bor, flat_map, quoted}
use Rattle.pmt_page.proofs.labels.push_later_texts.Given as goal

abbrev pub invariant-loop-one : goal.invariant-loop-one
invariant-loop-one l =
    l.text.items ++ flat_map (λ s. 44 ∷ quoted s) (map (λ (s : Bor (List ℕ)). s.now) (drop l.one-index l.texts))
    ≡ l.initial.text.items ++ flat_map (λ s. 44 ∷ quoted s) (map (λ (s : Bor (List ℕ)). s.now) l.texts)
