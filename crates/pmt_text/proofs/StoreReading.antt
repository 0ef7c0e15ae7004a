-- Lines of stores, and of other events, that are put at the end of a trace as they are read.
use Rattle.std.proofs.Common.{◌≡◌, ℕ, zero, suc, ◌-◌, ◌<◌, ◌≤◌, List, [], ◌∷◌, ◌++◌, true, Some, length, drop, sym, ap, ap₂, ◌∙◌, arith, length-append}
use Rattle.std.proofs.Math.Seq.{drop-append_seam}
use Rattle.std.specs.Borrow.{Bor}
use Rattle.pmt_text.specs.Prelude.{Event, Op, with_event, Recording, IsEventIn}
use Rattle.pmt_text.specs.declared.spelled.SpelledStore.{SpelledStore}
use Rattle.pmt_text.specs.declared.word.Word.TheVariants as words
use Rattle.pmt_text.specs.Spelled.{AddsFirst, AddsLine, AddsStore, IsAfterWord, IsEventOfStore, spelled_store}
use Rattle.pmt_text.specs.Spelling.{arguments_of, event_line, event_text, numeral, word_of, word_text, spaced}
use Rattle.pmt_text.proofs.SpelledReading.{line-first}

-- after the word stands the event of the store
pub store-after : (s : SpelledStore) (e : Event) (text rest : List ℕ) → IsEventOfStore s e → text ≡ spelled_store s ++ 10 ∷ rest → IsAfterWord words.Store text e rest
store-after s e text rest of is =
    (ap word_of of.1, is ∙ ap₂ (λ (t : ℕ) (o : Op). numeral 10 t ++ spaced (arguments_of o) ++ 10 ∷ rest) (sym of.0) (sym of.1))

-- so the line has it first
pub adds-store : (s : SpelledStore) (T new : Recording) (line text : List ℕ) (rest : Bor (List ℕ)) → line ≡ (word_text words.Store ++ 32 ∷ []) ++ text → text ≡ spelled_store s ++ 10 ∷ rest.now
    → AddsStore s true T new → AddsFirst line (Some rest) T new
adds-store s T new line text rest word is (e, of, in_format, added) =
    (e, (in_format, line-first words.Store line text (Some (e, rest)) word (store-after s e text rest.now of is)), added)

-- a line has some bytes
pub some-bytes : (e : Event) → 0 < length (event_text e)
unfolding event_text
some-bytes e = omega (arith, length-append (event_line e) (10 ∷ []))

-- a line of so many bytes that stands first
first-bytes : (e : Event) (T new : Recording) (text rest : List ℕ) (n : ℕ) → n ≡ length (event_text e) → text ≡ event_text e ++ rest → IsEventIn T.format e → new ≡ with_event T e → AddsLine text n T new
first-bytes e T new text rest zero count is in_format added = absurd (omega (arith, count, some-bytes e))
first-bytes e T new text rest (suc n) count is in_format added =
    let line : List ℕ = event_text e in
    let left : drop (suc n) text ≡ rest = ap (λ (m : ℕ). drop m text) count ∙ ap (drop (length line)) is ∙ drop-append_seam line rest in
    let whole : text ≡ line ++ drop (suc n) text = is ∙ ap (λ (xs : List ℕ). line ++ xs) (sym left) in
    let within : suc n ≤ length text = omega (arith, count, ap length is, length-append line rest) in
    (e, within, (in_format, whole), added)

-- what stands after the line begins after as many bytes
pub adds-line : (e : Event) (T new : Recording) (text rest : List ℕ) → text ≡ event_text e ++ rest → IsEventIn T.format e → new ≡ with_event T e → AddsLine text (length text - length rest) T new
adds-line e T new text rest is in_format added =
    let count : length text - length rest ≡ length (event_text e) = omega (arith, ap length is, length-append (event_text e) rest) in
    first-bytes e T new text rest (length text - length rest) count is in_format added
