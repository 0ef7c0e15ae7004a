-- Texts of events, as texts and numbers change.
use Rattle.std.proofs.Common.{◌≡◌, ◌≢◌, ℕ, zero, suc, ◌+◌, ◌<◌, ◌≤◌, inl, inr, List, [], ◌∷◌, set, length, Option, None, Some, option_map, slice_get, unwrap_or, refl, sym, ap, ◌∙◌, add-one, arith}
use Rattle.std.proofs.lemmas.Bool.{cases_eq}
use Rattle.std.proofs.lemmas.List.{get_or-set_same, get_or-set_other}
use Rattle.std.proofs.lemmas.Option.{slice_get-map, slice_get_within, unwrap_or-slice_get}
use Rattle.pmt_asked.specs.Texts.{AreNumbers, all_told, number_at, text_at, told_at}

told-or : {S : Type 0} (tells : S → List ℕ) (texts : List S) (number : Option ℕ) → unwrap_or (option_map (told_at tells texts) number) None ≡ told_at tells texts (unwrap_or number 0)
told-or tells texts None = refl
told-or tells texts (Some number) = refl

-- What the texts tell of event n.
pub told-at : {S : Type 0} (tells : S → List ℕ) (texts : List S) (numbers : List ℕ) (n : ℕ) → unwrap_or (slice_get (all_told tells texts numbers) n) None ≡ told_at tells texts (number_at numbers n)
told-at tells texts numbers n = ap (λ o. unwrap_or o None) (slice_get-map (told_at tells texts) numbers n) ∙ told-or tells texts (slice_get numbers n)

-- It stays where the number of the event stays, and the texts that there were.
pub told-kept : {S : Type 0} (tells : S → List ℕ) (old new : List S) (before after : List ℕ) (n : ℕ) → number_at after n ≡ number_at before n → number_at before n ≤ length old → ((k : ℕ) → k ≤ length old → text_at new k ≡ text_at old k) → unwrap_or (slice_get (all_told tells new after) n) None ≡ unwrap_or (slice_get (all_told tells old before) n) None
told-kept tells old new before after n same within texts =
    told-at tells new after n
    ∙ ap (λ k. told_at tells new k) same
    ∙ ap (λ t. option_map tells t) (texts (number_at before n) within)
    ∙ sym (told-at tells old before n)

-- The number of an event that is set.
pub number-set : (numbers : List ℕ) (i x : ℕ) → i < length numbers → number_at (set numbers i x) i ≡ x
number-set numbers i x within = unwrap_or-slice_get (set numbers i x) i 0 ∙ get_or-set_same numbers i x 0 within

-- The number of another event.
pub number-apart : (numbers : List ℕ) (i n x : ℕ) → n ≢ i → number_at (set numbers i x) n ≡ number_at numbers n
number-apart numbers i n x apart = unwrap_or-slice_get (set numbers i x) n 0 ∙ get_or-set_other numbers i n x 0 apart ∙ sym (unwrap_or-slice_get numbers n 0)

-- Numbers stay those of texts where texts are added.
pub numbers-kept : {S : Type 0} (old new : List S) (before after : List ℕ) → ((n : ℕ) → number_at after n ≡ number_at before n) → AreNumbers old before → length old ≤ length new → AreNumbers new after
numbers-kept old new before after same are more n =
    let is : number_at after n ≡ number_at before n = same n in
    let within : number_at before n ≤ length old = are n in
    omega arith

-- They stay so where one is set to that of a text.
pub numbers-set : {S : Type 0} (texts : List S) (numbers : List ℕ) (i x : ℕ) → i < length numbers → AreNumbers texts numbers → x ≤ length texts → AreNumbers texts (set numbers i x)
numbers-set texts numbers i x inside are within n = elim (cases_eq n i) [
  | inl same ↦
      let is : number_at (set numbers i x) n ≡ x = ap (λ k. number_at (set numbers i x) k) same ∙ number-set numbers i x inside in
      omega arith
  | inr apart ↦
      let is : number_at (set numbers i x) n ≡ number_at numbers n = number-apart numbers i n x apart in
      let before : number_at numbers n ≤ length texts = are n in
      omega arith
]

-- Where there are no texts, nothing is told.
pub told-none : {S : Type 0} (tells : S → List ℕ) (texts : List S) → length texts ≡ 0 → (number : ℕ) → told_at tells texts number ≡ None
told-none tells [] is zero = refl
told-none tells [] is (suc place) = refl
told-none tells (x ∷ xs) is number = absurd (omega (arith, is))

-- A text that stands there is told.
pub told-found : {S : Type 0} (tells : S → List ℕ) (texts : List S) (place : ℕ) (x : S) → slice_get texts place ≡ Some x → (place < length texts) × (told_at tells texts (place + 1) ≡ Some (tells x))
told-found tells texts place x at = (slice_get_within texts place x at, ap (λ k. told_at tells texts k) (add-one place) ∙ ap (λ o. option_map tells o) at)
