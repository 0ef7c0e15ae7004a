-- The parts of a line and of a text, in the order in which they are written.
use Rattle.std.proofs.Common.{◌≡◌, ℕ, ◌==◌, List, [], ◌∷◌, ◌++◌, codes, sym, ◌∙◌, ap, append_assoc, append-nil, eq-eqb, ne_eqb}
use Rattle.std.specs.List.{join_with_byte}
use Rattle.std.proofs.lemmas.Bool.{cond-true, cond-false}
use Rattle.pmt_text.specs.Prelude.{Event, Layout}
use Rattle.pmt_text.specs.Spelling.{numeral, header, word_text, word_of, arguments_of, event_line, event_text, spaced}

-- each field but the first stands behind a space
pub join-spaced : (field : List ℕ) (fields : List (List ℕ)) → join_with_byte 32 (field ∷ fields) ≡ field ++ spaced fields
join-spaced field [] = sym (append-nil field)
join-spaced field (next ∷ fields) = ap (λ (xs : List ℕ). field ++ 32 ∷ xs) (join-spaced next fields)

pub event_text-parts : (e : Event) → event_text e ≡ word_text (word_of e.op) ++ (32 ∷ numeral 10 e.thread) ++ spaced (arguments_of e.op) ++ 10 ∷ []
unfolding event_text event_line
event_text-parts e =
    ap (λ (xs : List ℕ). xs ++ 10 ∷ []) (join-spaced (word_text (word_of e.op)) (numeral 10 e.thread ∷ arguments_of e.op))
    ∙ ap (λ (xs : List ℕ). xs ++ 10 ∷ []) (sym (append_assoc (word_text (word_of e.op)) (32 ∷ numeral 10 e.thread) (spaced (arguments_of e.op))))

pub header-first : (f : Layout) → f.version ≡ 1 → header f ≡ codes "pmtrace 1"
unfolding header
header-first f e = cond-true (f.version == 1) _ _ (eq-eqb f.version 1 e)

pub header-second : (f : Layout) → (f.version ≡ 1 → ⊥) → header f ≡ codes "pmtrace 2 " ++ numeral 10 f.line_size
unfolding header
header-second f other = cond-false (f.version == 1) _ _ (ne_eqb f.version 1 other)
