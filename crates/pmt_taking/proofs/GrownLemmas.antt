-- A trace with one event more.
use Rattle.std.proofs.Common.{◌≡◌, ℕ, zero, suc, ◌<◌, ◌≤◌, List, [], ◌∷◌, ◌++◌, length, map, reverse, Some, refl, sym, ap, ◌∙◌, arith}
use Rattle.std.specs.Prelude.{slice_get}
use Rattle.std.proofs.lemmas.List.{take-append-le, length-append}
use Rattle.pmt_laws.specs.Prelude.{Event, Act, Recording, act, event, IsAct, history, with_event}
use Rattle.pmt_laws.proofs.Histories.{history-suc, act-within}

slice_get-left : {A : Type 0} (xs ys : List A) (k : ℕ) → k < length xs → slice_get (xs ++ ys) k ≡ slice_get xs k
slice_get-left [] ys k h = absurd (omega arith)
slice_get-left (x ∷ xs) ys zero h = refl
slice_get-left (x ∷ xs) ys (suc k) h = slice_get-left xs ys k (omega arith)

slice_get-seam : {A : Type 0} (xs : List A) (y : A) → slice_get (xs ++ y ∷ []) (length xs) ≡ Some y
slice_get-seam [] y = refl
slice_get-seam (x ∷ xs) y = slice_get-seam xs y

module _ (T : Recording) (e : Event) where
  pub length-grown : length (with_event T e).events ≡ suc (length T.events)
  length-grown = length-append T.events (e ∷ []) ∙ omega arith

  pub event-old : (k : ℕ) → k ≤ length T.events → event (with_event T e) k ≡ event T k
  event-old zero h = refl
  event-old (suc k) h = slice_get-left T.events (e ∷ []) k (omega arith)

  pub event-new : event (with_event T e) (suc (length T.events)) ≡ Some e
  event-new = slice_get-seam T.events e

  pub history-old : (k : ℕ) → k ≤ length T.events → history (with_event T e) k ≡ history T k
  history-old k h = ap (λ es. reverse (map (act T.format) es)) (take-append-le k T.events (e ∷ []) h)

  pub history-new : history (with_event T e) (suc (length T.events)) ≡ act T.format e ∷ history T (length T.events)
  history-new = history-suc (with_event T e) (length T.events) e event-new ∙ ap (λ h. act T.format e ∷ h) (history-old (length T.events) (omega arith))

  pub act-from : (k : ℕ) (a : Act) → k ≤ length T.events → IsAct (with_event T e) k a → IsAct T k a
  act-from k a h is = (is.0, sym (event-old k h) ∙ is.1, is.2)

  pub act-to : (k : ℕ) (a : Act) → IsAct T k a → IsAct (with_event T e) k a
  act-to k a is = (is.0, event-old k (act-within T k a is).1 ∙ is.1, is.2)

  pub act-new : IsAct (with_event T e) (suc (length T.events)) (act T.format e)
  act-new = (e, event-new, refl)

  pub act-past : (k : ℕ) (a : Act) → suc (length T.events) < k → ¬ IsAct (with_event T e) k a
  act-past k a h is = omega (arith, (act-within (with_event T e) k a is).1, length-grown)
