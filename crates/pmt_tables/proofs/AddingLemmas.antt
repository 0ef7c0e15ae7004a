-- Adding what a store overwrites, by rising numbers.
use Rattle.std.proofs.Common.{◌≡◌, ℕ, ◌-◌, ◌<◌, ◌≤◌, ◌⊎◌, inl, inr, Bool, true, false, ◌==◌, ◌&&◌, ◌^◌, List, [], ◌∷◌, ◌++◌, map, refl, sym, ap, subst, ◌∙◌, arith, append_assoc}
use Rattle.std.specs.Prelude.{if◌then◌else◌, ◌↔◌, nat_le, nat_lt}
use Rattle.std.proofs.lemmas.Bool.{cases_lt, cases_eq, eq-eqb, ne_eqb, and_parts, leb-true}
use Rattle.std.proofs.lemmas.Bool.Decides.{nat_tests}
use Rattle.std.proofs.lemmas.List.{map-append}
use Rattle.pmt_model.specs.Selections.{IsRising, Has}
use Rattle.pmt_tables.specs.declared.words.Overwrite.{Overwrite}
use Rattle.pmt_tables.specs.Lasts.{is_in, IsLastTo, AddsOverwritten, IsLeastAbove, number_of, low_of, high_of, last_by, first_table, is_covered, IsWhole}
use Rattle.pmt_tables.proofs.ByteLemmas.{last-same}

abbrev overwrites : ℕ → ℕ → Overwrite
overwrites later j = record { earlier = j; later = later }

-- one number more at the end
has-push : (ks : List ℕ) (n k : ℕ) → Has (ks ++ n ∷ []) k ↔ (Has ks k ⊎ (n ≡ k))
has-push [] n k = (λ h. elim h [ inl e ↦ inr e | inr none ↦ absurd none ], λ h. elim h [ inl none ↦ absurd none | inr e ↦ inl e ])
has-push (j ∷ ks) n k = (
  λ h. elim h [ inl e ↦ inl (inl e) | inr rest ↦ elim ((has-push ks n k).0 rest) [ inl had ↦ inl (inr had) | inr e ↦ inr e ] ],
  λ h. elim h [ inl had ↦ elim had [ inl e ↦ inl e | inr rest ↦ inr ((has-push ks n k).1 (inl rest)) ] | inr e ↦ inr ((has-push ks n k).1 (inr e)) ],
)

rising-push : (low : ℕ) (ks : List ℕ) (n : ℕ) → low < n → ((k : ℕ) → Has ks k → k < n) → IsRising low ks → IsRising low (ks ++ n ∷ [])
rising-push low [] n less below rises = (less, tt)
rising-push low (k ∷ ks) n less below rises = (rises.0, rising-push k ks n (below k (inl refl)) (λ j h. below j (inr h)) rises.1)

-- So far the overwritten stores are added that come before the next one, which is 0 once there is none.
pub record IsAdding (flush later low high : ℕ) (last : ℕ → ℕ) (old new : List Overwrite) (next : ℕ) : Type 0 where
  pub found : List ℕ
  pub added : new ≡ old ++ map (overwrites later) found
  pub rising : IsRising flush found
  pub just : (j : ℕ) → Has found j ↔ ((flush < j) × ((next ≡ 0) ⊎ (j < next)) × IsLastTo low high last j)
  pub is_next : (next ≡ 0) ⊎ ((flush < next) × IsLastTo low high last next)

-- the least above a bound that is no last store is below the next one
least-tells : (above low high : ℕ) (last : ℕ → ℕ) (next j : ℕ) → IsLeastAbove above low high last next → IsLastTo low high last j → above < j → (0 < next) × (next ≤ j)
least-tells above low high last next j it x more = let y = it.least x.0 x.1 x.2 (omega (arith, more, x.3)) in (y.0, omega (arith, y.1, x.3))

pub adding-more : (flush later low high : ℕ) (last : ℕ → ℕ) (old new : List Overwrite) (next after : ℕ) → (next ≡ 0 → ⊥) → IsLeastAbove next low high last after → IsAdding flush later low high last old new next →
    IsAdding flush later low high last old (new ++ record { earlier = next; later = later } ∷ []) after
adding-more flush later low high last old new next after some it adding = record {
  found = adding.found ++ next ∷ [];
  added = ap (λ xs. xs ++ overwrites later next ∷ []) adding.added ∙ append_assoc old (map (overwrites later) adding.found) (overwrites later next ∷ [])
      ∙ ap (λ xs. old ++ xs) (sym (map-append (overwrites later) adding.found (next ∷ [])));
  rising = rising-push flush adding.found next here.0 before adding.rising;
  just = λ j. (λ has. there j ((has-push adding.found next j).0 has), λ x. (has-push adding.found next j).1 (back j x.0 x.1 x.2));
  is_next = elim it.reached [ inl none ↦ inl none | inr x ↦ inr (omega (arith, here.0, x.0), x.1) ];
}
  where
    here : (flush < next) × IsLastTo low high last next
    here = elim adding.is_next [ inl none ↦ absurd (some none) | inr x ↦ x ]

    beyond : (after ≡ 0) ⊎ (next < after)
    beyond = elim it.reached [ inl none ↦ inl none | inr x ↦ inr x.0 ]

    before : (k : ℕ) → Has adding.found k → k < next
    before k has = elim ((adding.just k).0 has).1 [ inl none ↦ absurd (some none) | inr less ↦ less ]

    less-after : (j : ℕ) → j ≤ next → (after ≡ 0) ⊎ (j < after)
    less-after j h = elim beyond [ inl none ↦ inl none | inr more ↦ inr (omega (arith, h, more)) ]

    there : (j : ℕ) → Has adding.found j ⊎ (next ≡ j) → (flush < j) × ((after ≡ 0) ⊎ (j < after)) × IsLastTo low high last j
    there j (inl has) = let x = (adding.just j).0 has in (x.0, less-after j (omega (arith, before j has)), x.2)
    there j (inr e) = subst (λ i. (flush < i) × ((after ≡ 0) ⊎ (i < after)) × IsLastTo low high last i) e (here.0, less-after next (omega arith), here.1)

    past : (j : ℕ) → next < j → (after ≡ 0) ⊎ (j < after) → IsLastTo low high last j → ⊥
    past j more (inl none) x = omega (arith, none, (least-tells next low high last after j it x more).0)
    past j more (inr less) x = omega (arith, less, (least-tells next low high last after j it x more).1)

    back : (j : ℕ) → flush < j → (after ≡ 0) ⊎ (j < after) → IsLastTo low high last j → Has adding.found j ⊎ (next ≡ j)
    back j more bound x = elim (cases_lt j next) [
      | inl less ↦ inl ((adding.just j).1 (more, inr less, x))
      | inr from ↦ elim (cases_lt next j) [ inl later_ ↦ absurd (past j later_ bound x) | inr to ↦ inr (omega (arith, from, to)) ]
    ]

-- the next one comes later, or there is none
pub next-falls : (above low high next after : ℕ) (last : ℕ → ℕ) → (next ≡ 0 → ⊥) → next ≡ above → next < 2 ^ 32 → IsLeastAbove above low high last after →
    (if after == 0 then 0 else 2 ^ 32 - after) < (if next == 0 then 0 else 2 ^ 32 - next)
next-falls above low high next after last some same small it = rw (ne_eqb next 0 some) (go (cases_eq after 0))
  where
    go : (after ≡ 0) ⊎ (after ≡ 0 → ⊥) → (if after == 0 then 0 else 2 ^ 32 - after) < 2 ^ 32 - next
    go (inl none) = rw (eq-eqb after 0 none) (omega (arith, small))
    go (inr more) =
        let later_ : next < after = elim it.reached [ inl none ↦ absurd (more none) | inr x ↦ omega (arith, same, x.0) ] in
        rw (ne_eqb after 0 more) (omega (arith, later_, small))

-- what is added for one function is added for another that tells the same of these bytes
pub adds-same : (flush later low high : ℕ) (f g : ℕ → ℕ) (old new : List Overwrite) → ((k : ℕ) → low ≤ k → k < high → f k ≡ g k) → AddsOverwritten flush later low high f old new → AddsOverwritten flush later low high g old new
adds-same flush later low high f g old new same it = record {
  found = it.found;
  added = it.added;
  rising = it.rising;
  just = λ j. (
    λ has. let x = (it.just j).0 has in (x.0, last-same low high f g j same x.1),
    λ x. (it.just j).1 (x.0, last-same low high g f j (λ k from to. sym (same k from to)) x.1),
  );
}

-- ---- A word without a table of which all is overwritten

module _ (w flush later low high : ℕ) (old : List Overwrite) (covered : is_covered w low high ≡ true) (whole : IsWhole w) where
  bounds : (low ≤ low_of w) × (high_of w ≤ high)
  bounds =
      let parts = and_parts (nat_lt w first_table) (nat_le low (low_of w) && nat_le (high_of w) high) covered in
      let two = and_parts (nat_le low (low_of w)) (nat_le (high_of w) high) parts.1 in
      (leb-true low (low_of w) two.0, leb-true (high_of w) high two.1)

  -- the last store to a byte is the one, or none
  last-one : (k : ℕ) → (last_by w k ≡ number_of w) ⊎ (last_by w k ≡ 0)
  last-one k = go (is_in (low_of w) (high_of w) k)
    where
      go : (b : Bool) → ((if b then number_of w else 0) ≡ number_of w) ⊎ ((if b then number_of w else 0) ≡ 0)
      go true = inl refl
      go false = inr refl

  last-above : (j : ℕ) → flush < j → IsLastTo low high (last_by w) j → number_of w ≡ j
  last-above j more x = elim (last-one x.0) [ inl e ↦ sym e ∙ x.3 | inr e ↦ absurd (omega (arith, more, e, x.3)) ]

  pub whole-added : flush < number_of w → AddsOverwritten flush later low high (last_by w) old (old ++ record { earlier = number_of w; later = later } ∷ [])
  whole-added more = record {
    found = number_of w ∷ [];
    added = refl;
    rising = (more, tt);
    just = λ j. (
      λ has. elim has [ inl e ↦ subst (λ i. (flush < i) × IsLastTo low high (last_by w) i) e (more, here) | inr none ↦ absurd none ],
      λ x. inl (last-above j x.0 x.1),
    );
  }
    where
      here : IsLastTo low high (last_by w) (number_of w)
      here = elim whole.some [
        | inl some ↦ (low_of w, bounds.0, omega (arith, some, bounds.1), own w some)
        | inr none ↦ absurd (omega (arith, more, none))
      ]
        where
          own : (w : ℕ) → low_of w < high_of w → last_by w (low_of w) ≡ number_of w
          own w some = grind (arith, nat_tests, some)
