-- What one pass over a line takes, part by part.
use Rattle.std.proofs.Common.{◌≡◌, ◌≢◌, ℕ, zero, suc, ◌<◌, ◌≤◌, List, [], ◌∷◌, ◌++◌, length, get_or, take, drop, refl, sym, ◌∙◌, ap, ap₂, arith, append_assoc, Option, Some, None, IfSome, Ok, length-append}
use Rattle.std.proofs.lemmas.List.{take-append-drop}
use Rattle.std.specs.Str.Parse.{digits_value}
use Rattle.pmt_text.specs.Spelling.{numeral, word_text, word_of, arguments_of, event_line, event_text, spaced}
use Rattle.pmt_text.specs.Judging.{digit_of, IsBase}
use Rattle.pmt_text.proofs.NumeralLemmas.{AreDigits, numeral-digits_value, numeral-zero}
use Rattle.std.specs.Borrow.{Bor}
use Rattle.pmt_text.specs.Prelude.{Event, Layout}
use Rattle.pmt_text.specs.declared.word.Word.{Word}
use Rattle.pmt_text.specs.Spelled.{IsAfterWord, IsFirstEvent}
use Rattle.pmt_text.specs.Coming.{text_lines}
use Rattle.pmt_text.specs.Texts.{SplitsJudged}
use Rattle.pmt_text.proofs.LineLemmas.{parts-append}
use Rattle.pmt_text.proofs.LineWriting.{event_text-parts}
use Rattle.pmt_text.proofs.SpelledLemmas.{event_line_free, line_judged-event_line}

pub AreDigits-take : (base n : ℕ) (cs : List ℕ) → n ≤ length cs → ((k : ℕ) → k < n → digit_of (get_or cs k 0) < base) → AreDigits base (take n cs)
AreDigits-take base zero cs l h = tt
AreDigits-take base (suc n) [] l h = absurd (omega arith)
AreDigits-take base (suc n) (c ∷ cs) l h = (h 0 (omega arith), AreDigits-take base n cs (omega arith) (λ k below. h (suc k) (omega arith)))

-- one 0 at the front
pub zero-first : (base : ℕ) (text : List ℕ) → 0 < length text → get_or text 0 0 ≡ 48 → text ≡ numeral base 0 ++ drop 1 text
zero-first base [] some e = absurd (omega arith)
zero-first base (c ∷ cs) some e = rw (numeral-zero base, e) refl

-- digits at the front, of which the first is not 0
pub digits-first : (base at : ℕ) (text : List ℕ) → IsBase base → 0 < at → at ≤ length text → get_or text 0 0 ≢ 48 → ((k : ℕ) → k < at → digit_of (get_or text k 0) < base)
    → text ≡ numeral base (digits_value base (take at text)) ++ drop at text
digits-first base (suc n) (c ∷ cs) b some within other each =
    sym (take-append-drop (suc n) (c ∷ cs))
    ∙ ap (λ (xs : List ℕ). xs ++ drop (suc n) (c ∷ cs)) (sym (numeral-digits_value base c (take n cs) b (each 0 (omega arith), AreDigits-take base n cs (omega arith) (λ k below. each (suc k) (omega arith))) other))
digits-first base a d b some within other each = absurd (omega arith)

-- a word stands first
pub word-first : (word text : List ℕ) → length word ≤ length text → ((k : ℕ) → k < length word → get_or text k 0 ≡ get_or word k 0) → text ≡ word ++ drop (length word) text
word-first [] text l h = refl
word-first (w ∷ word) [] l h = absurd (omega arith)
word-first (w ∷ word) (t ∷ text) l h = ap₂ (λ (x : ℕ) (xs : List ℕ). x ∷ xs) (h 0 (omega arith)) (word-first word text (omega arith) (λ k below. h (suc k) (omega arith)))

-- the word, a space, and the rest of the line are the line
line-parts : (e : Event) (rest : List ℕ) → event_text e ++ rest ≡ word_text (word_of e.op) ++ (32 ∷ ((numeral 10 e.thread ++ spaced (arguments_of e.op)) ++ 10 ∷ rest))
line-parts e rest =
    let word : List ℕ = word_text (word_of e.op) in
    let thread : List ℕ = 32 ∷ numeral 10 e.thread in
    let arguments : List ℕ = spaced (arguments_of e.op) in
    ap (λ (xs : List ℕ). xs ++ rest) (event_text-parts e)
    ∙ append_assoc ((word ++ thread) ++ arguments) (10 ∷ []) rest
    ∙ ap (λ (xs : List ℕ). xs ++ (10 ∷ rest)) (append_assoc word thread arguments)
    ∙ append_assoc word (thread ++ arguments) (10 ∷ rest)

pub line-first : (w : Word) (text after : List ℕ) (result : Option (Event × Bor (List ℕ))) → text ≡ (word_text w ++ 32 ∷ []) ++ after
    → IfSome result (λ p. IsAfterWord w after p.0 p.1.now) → IfSome result (λ p. text ≡ event_text p.0 ++ p.1.now)
line-first w text after None e h = tt
line-first w text after (Some p) e h =
    e ∙ append_assoc (word_text w) (32 ∷ []) after
    ∙ ap₂ (λ (x : Word) (xs : List ℕ). word_text x ++ (32 ∷ xs)) (sym h.0) h.1
    ∙ sym (line-parts p.0 p.1.now)

-- the text is the event's line, LF and the rest
pub line-and-rest : (f : Layout) (e : Event) (text rest : List ℕ) → IsFirstEvent f e text rest → text ≡ event_line e ++ 10 ∷ rest
unfolding event_text
line-and-rest f e text rest h = h.1 ∙ append_assoc (event_line e) (10 ∷ []) rest

-- so that line is judged the event
pub splits-first : (f : Layout) (e : Event) (text : List ℕ) (rest : Bor (List ℕ)) → IsFirstEvent f e text rest.now → SplitsJudged f (Some (Ok e, rest)) text
splits-first f e text rest h =
    let whole = line-and-rest f e text rest.now h in (
      event_line e,
      ap text_lines whole ∙ parts-append 10 (event_line e) rest.now (event_line_free e),
      line_judged-event_line f e h.0,
      omega (arith, ap length whole, length-append (event_line e) (10 ∷ rest.now)),
    )
