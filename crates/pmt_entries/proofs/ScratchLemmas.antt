-- Lines of stores that an event flushes or an assertion has a byte of.
use Rattle.std.proofs.Common.{◌≡◌, ℕ, ◌+◌, ◌<◌, ◌⊎◌, inl, inr, Bool, false, List, [], ◌∷◌, length, take, get_or, Option, None, Some, refl, sym, ap, subst, ◌∙◌}
use Rattle.std.specs.Prelude.{cond, unwrap_or}
use Rattle.std.proofs.lemmas.Bool.{cases_eq, eq-eqb, ne_eqb}
use Rattle.std.proofs.lemmas.List.{take_more}
use Rattle.std.proofs.lemmas.List.Folds.{list_any_more}
use Rattle.pmt_laws.specs.Prelude.{Recording, Has, filter, list_any}
use Rattle.pmt_hints.specs.Claiming.{Claims, asked_at, claim_at, is_claimed_line, or_so}
use Rattle.pmt_hints.proofs.ClaimLemmas.{or_so-twice}
use Rattle.pmt_hints.proofs.NumberLemmas.{has-push}
use Rattle.pmt_entries.specs.Sites.{AreAsked, event_touches, is_noted, is_touched, is_touched_line, later, line_at}

-- one item more
pub any-more : {X : Type 0} (P : X → Bool) (xs : List X) (i : ℕ) (d : X) (o a b : Option Bool) → i < length xs → b ≡ or_so (P (get_or xs i d)) a → a ≡ or_so (list_any P (take i xs)) o → b ≡ or_so (list_any P (take (i + 1) xs)) o
any-more P xs i d o a b within step before =
    step ∙ ap (or_so (P (get_or xs i d))) before ∙ or_so-twice (list_any P (take i xs)) (P (get_or xs i d)) o ∙ ap (λ is. or_so is o) (sym (list_any_more P xs i d within))

-- one store more
pub asked-more : (T : Recording) (stores : List ℕ) (i number : ℕ) (line : Option ℕ) (old new : Claims) → i < length stores → number ≡ get_or stores i 0 → line ≡ line_at T number →
    ((l : ℕ) → claim_at new l ≡ asked_at line l (claim_at old l)) → AreAsked T (take i stores) old → AreAsked T (take (i + 1) stores) new
asked-more T stores i number line old new within is own made x = λ j l has at. go j l ((has-push (take i stores) (get_or stores i 0) j).0 (subst (λ ks. Has ks j) (take_more stores i 0 within) has)) at
  where
    kept : (line : Option ℕ) (l : ℕ) → claim_at old l ≡ Some false → asked_at line l (claim_at old l) ≡ Some false
    kept None l was = was
    kept (Some k) l was = elim (cases_eq k l) [ inl e ↦ rw (eq-eqb k l e) refl | inr apart ↦ rw (ne_eqb k l apart) was ]

    go : (j l : ℕ) → Has (take i stores) j ⊎ (get_or stores i 0 ≡ j) → line_at T j ≡ Some l → claim_at new l ≡ Some false
    go j l (inl before) at = made l ∙ kept line l (x j l before at)
    go j l (inr here) at =
        let line_is : line ≡ Some l = own ∙ ap (line_at T) (is ∙ here) ∙ at in
        made l ∙ ap (λ o. asked_at o l (claim_at old l)) line_is ∙ rw (eq-eqb l l refl) refl

-- a store whose line is asked for
noted-same : (T : Recording) (stores : List ℕ) (start lines : Claims) → AreAsked T stores start → ((l : ℕ) → claim_at lines l ≡ or_so (list_any (event_touches T.format l) (later T stores)) (claim_at start l)) →
    (i : ℕ) → Has stores i → is_noted T lines i ≡ is_touched T stores i
noted-same T stores start lines asked made i has = go (line_at T i) refl
  where
    go : (line : Option ℕ) → line_at T i ≡ line → is_claimed_line lines line ≡ is_touched_line T.format (later T stores) line
    go None at = refl
    go (Some l) at = ap (λ o. unwrap_or o false) (made l ∙ ap (or_so (list_any (event_touches T.format l) (later T stores))) (asked i l has at))

filter-same : (f g : ℕ → Bool) (ks : List ℕ) → ((k : ℕ) → Has ks k → f k ≡ g k) → filter f ks ≡ filter g ks
filter-same f g [] same = refl
filter-same f g (k ∷ ks) same =
    ap (λ b. cond b (k ∷ filter f ks) (filter f ks)) (same k (inl refl)) ∙ ap (λ rest. cond (g k) (k ∷ rest) rest) (filter-same f g ks (λ j has. same j (inr has)))

pub stores-touched : (T : Recording) (stores : List ℕ) (start lines : Claims) → AreAsked T stores start → ((l : ℕ) → claim_at lines l ≡ or_so (list_any (event_touches T.format l) (later T stores)) (claim_at start l)) →
    filter (is_noted T lines) stores ≡ filter (is_touched T stores) stores
stores-touched T stores start lines asked made = filter-same (is_noted T lines) (is_touched T stores) stores (noted-same T stores start lines asked made)
