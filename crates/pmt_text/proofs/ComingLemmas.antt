-- Lines in order: what comes from a text, one line on.
use Rattle.std.proofs.Common.{◌≡◌, ℕ, ◌+◌, ◌<◌, Bool, true, false, cond, ◌==◌, nat_lt, List, [], ◌∷◌, ◌++◌, length, Some, None, Result, Ok, Err, refl, sym, ◌∙◌, ap, ap₂, append_assoc, append-nil, lt-ltb, le-ltb}
use Rattle.std.specs.List.{onto_first}
use Rattle.std.proofs.lemmas.Bool.{cond-true, cond-false}
use Rattle.std.proofs.lemmas.List.{length_push}
use Rattle.pmt_model.specs.Traces.{event_limit}
use Rattle.pmt_text.specs.declared.kind.TextKind.{TextKind}
use Rattle.pmt_text.specs.declared.kind.TextKind.TheVariants.{Truncated, TooManyEvents}
use Rattle.pmt_text.specs.declared.kind.TextError.{TextError}
use Rattle.pmt_text.specs.declared.kind.SourceError.TheVariants.{Text}
use Rattle.pmt_text.specs.Coming.{text_lines, fault_at, Items, ends_with, item_then, rest_fault, lines_coming}
use Rattle.pmt_text.specs.Texts.{after_items, IsLineFault}

pub text_lines-nonempty : (text : List ℕ) → text_lines text ≡ [] → ⊥
text_lines-nonempty [] e = cc
text_lines-nonempty (b ∷ bytes) e = go (b == 10) (text_lines bytes) e
  where
    go : (t : Bool) (parts : List (List ℕ)) → cond t ([] ∷ parts) (onto_first b parts) ≡ [] → ⊥
    go true parts e = cc
    go false [] e = cc
    go false (part ∷ parts) e = cc

-- one line on
pub lines_coming-line : {A : Type 0} (rule : List ℕ → Result A TextKind) (more : Bool) (first before : ℕ) (line : List ℕ) (text : List ℕ) →
    lines_coming rule more first before (line ∷ text_lines text) ≡ item_then (first + before) before (rule line) (lines_coming rule more first (before + 1) (text_lines text))
unfolding lines_coming
lines_coming-line rule more first before line text = go (text_lines text) (text_lines-nonempty text)
  where
    go : (lines : List (List ℕ)) → (lines ≡ [] → ⊥) → lines_coming rule more first before (line ∷ lines) ≡ item_then (first + before) before (rule line) (lines_coming rule more first (before + 1) lines)
    go [] some = absurd (some refl)
    go (next ∷ tail) some = refl

-- what is left after the last LF
pub lines_coming-rest : {A : Type 0} (rule : List ℕ → Result A TextKind) (more : Bool) (first before : ℕ) (rest : List ℕ) →
    lines_coming rule more first before (rest ∷ []) ≡ ends_with (rest_fault more (first + before) rest)
unfolding lines_coming
lines_coming-rest rule more first before rest = refl

module _ {A : Type 0} (rule : List ℕ → Result A TextKind) (more : Bool) (first : ℕ) where
  -- what comes from the lines of a text, after the items so far
  abbrev pub coming_after : List A → List ℕ → Items A
  coming_after xs text = after_items xs (lines_coming rule more first (length xs) (text_lines text))

  -- the line of an item, and then the rest
  pub coming_after-item : (xs : List A) (text line rest : List ℕ) (x : A) → text_lines text ≡ line ∷ text_lines rest → rule line ≡ Ok x → length xs < event_limit →
      coming_after xs text ≡ coming_after (xs ++ x ∷ []) rest
  coming_after-item xs text line rest x l r few =
      let later : Items A = lines_coming rule more first (length xs + 1) (text_lines rest) in
      let step : lines_coming rule more first (length xs) (text_lines text) ≡ record { items = x ∷ later.items; fault = later.fault } =
      ap (lines_coming rule more first (length xs)) l
      ∙ lines_coming-line rule more first (length xs) line rest
      ∙ ap (λ (j : Result A TextKind). item_then (first + length xs) (length xs) j later) r
      ∙ cond-true (nat_lt (length xs) event_limit) (record { items = x ∷ later.items; fault = later.fault }) (ends_with (Some (fault_at (first + length xs) TooManyEvents))) (lt-ltb (length xs) event_limit few) in
      ap (after_items xs) step
      ∙ ap (λ (ys : List A). record { items = ys; fault = later.fault }) (sym (append_assoc xs (x ∷ []) later.items))
      ∙ ap (λ (n : ℕ). after_items (xs ++ x ∷ []) (lines_coming rule more first n (text_lines rest))) (sym (length_push xs x))

  -- the line of a fault
  pub coming_after-fault : (xs : List A) (text line rest : List ℕ) (f : TextError) → text_lines text ≡ line ∷ text_lines rest → IsLineFault (rule line) first (length xs) f →
      (coming_after xs text).fault ≡ Some (Text f)
  coming_after-fault xs text line rest f l h =
      ap (λ (lines : List (List ℕ)). (lines_coming rule more first (length xs) lines).fault) l
      ∙ ap (λ (items : Items A). items.fault) (lines_coming-line rule more first (length xs) line rest)
      ∙ go (rule line) h
    where
      later : Items A
      later = lines_coming rule more first (length xs + 1) (text_lines rest)

      go : (j : Result A TextKind) → IsLineFault j first (length xs) f → (item_then (first + length xs) (length xs) j (lines_coming rule more first (length xs + 1) (text_lines rest))).fault ≡ Some (Text f)
      go (Err kind) h = ap (λ (g : TextError). Some (Text g)) (sym h)
      go (Ok x) h =
          ap (λ (items : Items A). items.fault) (cond-false (nat_lt (length xs) event_limit) _ _ (le-ltb (length xs) event_limit h.0))
          ∙ ap (λ (g : TextError). Some (Text g)) (sym h.1)

  -- nothing is left
  pub coming_after-end : (xs : List A) (text : List ℕ) → text_lines text ≡ text ∷ [] → text ≡ [] → more ≡ false → coming_after xs text ≡ record { items = xs; fault = None }
  coming_after-end xs text l e m =
      ap (λ (lines : List (List ℕ)). after_items xs (lines_coming rule more first (length xs) lines)) l
      ∙ ap (after_items xs) (lines_coming-rest rule more first (length xs) text)
      ∙ ap₂ (λ (b : Bool) (rest : List ℕ). record { items = xs ++ []; fault = rest_fault b (first + length xs) rest }) m e
      ∙ ap (λ (ys : List A). record { items = ys; fault = None }) (append-nil xs)

  -- a line without LF is left
  pub coming_after-truncated : (xs : List A) (text : List ℕ) → text_lines text ≡ text ∷ [] → (text ≡ [] → ⊥) → more ≡ false → (coming_after xs text).fault ≡ Some (fault_at (first + length xs) Truncated)
  coming_after-truncated xs text l some m =
      ap (λ (lines : List (List ℕ)). (lines_coming rule more first (length xs) lines).fault) l
      ∙ ap (λ (items : Items A). items.fault) (lines_coming-rest rule more first (length xs) text)
      ∙ ap (λ (b : Bool). rest_fault b (first + length xs) text) m
      ∙ go text some
    where
      go : (rest : List ℕ) → (rest ≡ [] → ⊥) → rest_fault false (first + length xs) rest ≡ Some (fault_at (first + length xs) Truncated)
      go [] some = absurd (some refl)
      go (b ∷ bs) some = refl
