-- Rising numbers, and the findings made of them.
use Rattle.std.proofs.Common.{◌≡◌, ℕ, ◌<◌, ◌≤◌, ◌⊎◌, inl, inr, List, [], ◌∷◌, ◌++◌, get_or, refl, sym, ap, subst, ◌∙◌, append_assoc, arith}
use Rattle.std.specs.Prelude.{◌↔◌}
use Rattle.std.proofs.lemmas.Bool.{cases_lt}
use Rattle.std.proofs.lemmas.List.{map-append}
use Rattle.pmt_laws.specs.Prelude.{Finding, Overwritten, IsRising, Has}
use Rattle.pmt_lines.specs.Jobs.{IsAmong, IsNextAbove, overwritten_by}

-- a greater number at the end keeps the order
pub rising-push : (low : ℕ) (xs : List ℕ) (y : ℕ) → IsRising low xs → low < y → ((j : ℕ) → Has xs j → j < y) → IsRising low (xs ++ y ∷ [])
rising-push low [] y rising above greatest = (above, tt)
rising-push low (x ∷ xs) y rising above greatest = (rising.0, rising-push x xs y rising.1 (greatest x (inl refl)) (λ j has. greatest j (inr has)))

-- what a list with one more at the end has
pub has-push : (xs : List ℕ) (y j : ℕ) → Has (xs ++ y ∷ []) j → Has xs j ⊎ (y ≡ j)
has-push [] y j (inl e) = inr e
has-push [] y j (inr none) = absurd none
has-push (x ∷ xs) y j (inl e) = inl (inl e)
has-push (x ∷ xs) y j (inr has) = elim (has-push xs y j has) [ inl before ↦ inl (inr before) | inr e ↦ inr e ]

pub has-pushed : (xs : List ℕ) (y j : ℕ) → Has xs j ⊎ (y ≡ j) → Has (xs ++ y ∷ []) j
has-pushed [] y j (inl none) = absurd none
has-pushed [] y j (inr e) = inl e
has-pushed (x ∷ xs) y j (inl has) = elim has [ inl e ↦ inl e | inr before ↦ inr (has-pushed xs y j (inl before)) ]
has-pushed (x ∷ xs) y j (inr e) = inr (has-pushed xs y j (inr e))

-- Those of the earlier stores that are above the flush and at most low are told so far.
pub record PushesUpTo (old new : List Finding) (numbers : List ℕ) (flush later low : ℕ) : Type 0 where
  pub above : List ℕ
  pub rising : IsRising flush above
  pub just : (j : ℕ) → Has above j ↔ ((flush < j) × (j ≤ low) × IsAmong numbers j)
  pub pushed : new ≡ old ++ overwritten_by later above
  pub started : flush ≤ low

-- one more is told
pub pushes-next : (old new newer : List Finding) (numbers : List ℕ) (flush later low next : ℕ) → PushesUpTo old new numbers flush later low → IsNextAbove low numbers next → newer ≡ new ++ Overwritten next later ∷ [] → PushesUpTo old newer numbers flush later next
pushes-next old new newer numbers flush later low next p it more = record {
  above = p.above ++ next ∷ [];
  rising = rising-push flush p.above next p.rising (omega (arith, p.started, it.above)) (λ j has. let x = (p.just j).0 has in omega (arith, x.1, it.above));
  just = λ j. (to j, from j);
  pushed = more ∙ ap (λ fs. fs ++ Overwritten next later ∷ []) p.pushed ∙ append_assoc old (overwritten_by later p.above) (Overwritten next later ∷ []) ∙ ap (λ fs. old ++ fs) (sym (map-append (λ j. Overwritten j later) p.above (next ∷ [])));
  started = omega (arith, p.started, it.above);
}
  where
    to : (j : ℕ) → Has (p.above ++ next ∷ []) j → (flush < j) × (j ≤ next) × IsAmong numbers j
    to j has = elim (has-push p.above next j has) [
      | inl before ↦ let x = (p.just j).0 before in (x.0, omega (arith, x.1, it.above), x.2)
      | inr e ↦ (omega (arith, p.started, it.above), omega arith, subst (λ k. IsAmong numbers k) e it.among)
    ]

    again : (j : ℕ) → flush < j → j ≤ next → IsAmong numbers j → (low < j) ⊎ (j ≤ low) → Has (p.above ++ next ∷ []) j
    again j above within among (inl later_one) =
        let least : low < get_or numbers among.0 0 → next ≤ get_or numbers among.0 0 = it.least among.0 among.1 in
        has-pushed p.above next j (inr (omega (arith, least, among.2)))
    again j above within among (inr before) = has-pushed p.above next j (inl ((p.just j).1 (above, before, among)))

    from : (j : ℕ) → (flush < j) × (j ≤ next) × IsAmong numbers j → Has (p.above ++ next ∷ []) j
    from j x = again j x.0 x.1 x.2 (cases_lt low j)
