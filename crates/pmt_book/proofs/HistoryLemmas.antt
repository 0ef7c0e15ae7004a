-- The history of a book with one more event.
use Rattle.std.proofs.Common.{◌≡◌, List, [], ◌∷◌, ◌++◌, length, map, reverse, sym, ap, ◌∙◌, arith}
use Rattle.std.proofs.lemmas.List.{take_all, map-append, reverse-append}
use Rattle.pmt_laws.specs.Prelude.{Event, Layout, Act, Recording, act, with_event}
use Rattle.pmt_laws.proofs.Histories.{length-history}
use Rattle.pmt_book.specs.Live.{whole_history}

-- the acts of events, the newest first, with one more event
pub acts-append : (f : Layout) (es : List Event) (e : Event) → reverse (map (act f) (es ++ e ∷ [])) ≡ act f e ∷ reverse (map (act f) es)
acts-append f es e = ap reverse (map-append (act f) es (e ∷ [])) ∙ reverse-append (map (act f) es) (act f e ∷ [])

-- the history of a book has the acts of all its events
pub whole_history-acts : (T : Recording) → whole_history T ≡ reverse (map (act T.format) T.events)
whole_history-acts T = ap (λ (l : List Event). reverse (map (act T.format) l)) (take_all (length T.events) T.events (omega arith))

-- the new act is its newest
pub whole_history-with_event : (T : Recording) (e : Event) → whole_history (with_event T e) ≡ act T.format e ∷ whole_history T
whole_history-with_event T e =
    whole_history-acts (with_event T e) ∙ acts-append T.format T.events e ∙ ap (λ (h : List Act). act T.format e ∷ h) (sym (whole_history-acts T))

-- it has an act for each event
pub length-whole : (T : Recording) → length (whole_history T) ≡ length T.events
length-whole T = length-history T (length T.events) (omega arith)
