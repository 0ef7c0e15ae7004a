-- What becomes of each event, event by event.
use Rattle.pmt_fates.proofs.Prelude.{◌≡◌, ℕ, suc, ◌+◌, ◌<◌, ◌≤◌, ◌⊎◌, inl, inr, Bool, List, [], ◌∷◌, ◌++◌, length, length-append, Some, sym, ap, ◌∙◌, arith, slice_get, slice_index, cases_lt, same_Some, Event, Recording, event, get-before, get-last, Fate, event_fate, is_listed, op_fate}

-- what becomes of the first n events
pub record AreSoFar (T : Recording) (told dropped safe waited : List ℕ) (n : ℕ) (fates : List Fate) : Type 0 where
  pub size : length fates ≡ n
  pub each : (k : ℕ) (e : Event) → k < n → event T (suc k) ≡ Some e → slice_get fates k ≡ Some (event_fate T told dropped safe waited k e)

-- one more event
pub fates-next : (T : Recording) (told dropped safe waited : List ℕ) (n : ℕ) (e : Event) (a b : Bool) (f : Fate) (old new : List Fate) → event T (suc n) ≡ Some e → a ≡ is_listed told (suc n) → b ≡ is_listed dropped (suc n) →
    f ≡ op_fate e.op a b (length T.events) (slice_index safe n) (slice_index waited n) → new ≡ old ++ f ∷ [] → AreSoFar T told dropped safe waited n old → AreSoFar T told dropped safe waited (n + 1) new
fates-next T told dropped safe waited n e a b f old new here is_told is_dropped is made x = rw made (record {
  size = size;
  each = λ k d below at. go k d at (cases_lt k n) below;
})
  where
    size : length (old ++ f ∷ []) ≡ n + 1
    size = omega (arith, x.size, length-append old (f ∷ []))

    go : (k : ℕ) (d : Event) → event T (suc k) ≡ Some d → (k < n) ⊎ (n ≤ k) → k < n + 1 → slice_get (old ++ f ∷ []) k ≡ Some (event_fate T told dropped safe waited k d)
    go k d at (inl before) below = get-before old f k (omega (arith, x.size)) ∙ x.each k d before at
    go k d at (inr from) below =
        let last : length old ≡ k = omega (arith, x.size) in
        let same : n ≡ k = omega arith in
        let own : e ≡ d = same_Some e d (sym here ∙ ap (λ j. event T (suc j)) same ∙ at) in
        ap (λ j. slice_get (old ++ f ∷ []) j) (sym last) ∙ get-last old f
        ∙ ap Some (is ∙ rw (is_told, is_dropped) (ap (λ j. event_fate T told dropped safe waited j e) same ∙ ap (λ g. event_fate T told dropped safe waited k g) own))
