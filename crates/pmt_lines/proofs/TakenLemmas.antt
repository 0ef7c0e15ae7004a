-- The first events of a trace, and what a splitter has taken of them.
use Rattle.std.proofs.Common.{◌≡◌, ℕ, ◌+◌, ◌<◌, ◌≤◌, List, [], ◌∷◌, ◌++◌, length, get_or, take, sym, ap, ◌∙◌}
use Rattle.std.proofs.lemmas.List.{take_more, take_all}
use Rattle.pmt_laws.specs.Prelude.{Event, Recording, with_event}

-- the trace of the first n events
abbrev pub first_events : Recording → ℕ → Recording
first_events T n = record { format = T.format; events = take n T.events }

-- one event more
pub first-more : (T : Recording) (n : ℕ) (e : Event) → n < length T.events → e ≡ get_or T.events n e → with_event (first_events T n) e ≡ first_events T (n + 1)
first-more T n e within at =
    ap (λ (es : List Event). let R : Recording = record { format = T.format; events = es } in R) (ap (λ x. take n T.events ++ x ∷ []) at ∙ sym (take_more T.events n e within))

-- and all of them
pub first-all : (T : Recording) (n : ℕ) → length T.events ≤ n → first_events T n ≡ T
first-all T n past = ap (λ (es : List Event). let R : Recording = record { format = T.format; events = es } in R) (take_all n T.events past)
