use Rattle.pmt_page.proofs.Prelude.{◌∷◌, List, ℕ, map, arith, refl, Bor, flat_map, quoted}
use Rattle.pmt_page.proofs.Pushing.{item-pushed, items-pushed}
use Rattle.pmt_page.proofs.labels.push_later_texts.Goals as goal

abbrev later : List (Bor (List ℕ)) → List ℕ
later texts = flat_map (λ s. 44 ∷ quoted s) (map (λ (s : Bor (List ℕ)). s.now) texts)

pub loop-one-preserved : goal.loop-one-preserved
loop-one-preserved c =
    item-pushed later later c.args.texts.now c.loop-one.one-index _ _ _ _ _ c.loop-one-test.true (λ ys. refl) c.loop-one.invariant c.in_ok-push_later_text.ensures

pub returns : goal.returns
returns c = items-pushed later c.args.texts.now c.loop-one.one-index _ _ refl c.loop-one.invariant (omega (arith, c.loop-one-test.false))
