-- Events that are taken one after another are those that were coming.
use Rattle.std.proofs.Common.{◌≡◌, ℕ, ◌+◌, ◌<◌, ◌≤◌, List, [], ◌∷◌, ◌++◌, length, Option, Some, None, IfSome, refl, sym, ap, ◌∙◌, subst, ◌-◌, ◌⊎◌, inl, inr, arith, append_assoc, length-append}
use Rattle.std.specs.List.{AllByRecursion, flat_map}
use Rattle.std.proofs.lemmas.List.{append_cancel_right}
use Rattle.pmt_text.specs.Prelude.{Event, Layout, Recording, IsEventIn, event_limit, with_events}
use Rattle.pmt_text.specs.declared.line_reader.LineReader.{LineReader}
use Rattle.pmt_text.specs.Counting.{inner_device}
use Rattle.pmt_text.specs.Lines.{known_ahead, known_of, held, last_line}
use Rattle.pmt_text.specs.Spelled.{AreFirstEvents}
use Rattle.pmt_text.specs.Sources.{Gives, LendsAll, TakesReady}
use Rattle.pmt_text.specs.declared.source.SourceState.{SourceState}
use Rattle.pmt_text.specs.declared.source.SourceState.TheVariants.{Open}
use Rattle.pmt_text.specs.Spelling.{event_line, event_text}
use Rattle.pmt_text.specs.TextSources.{coming_from, coming_in}
use Rattle.pmt_text.proofs.EventLemmas.{one_line-free}
use Rattle.pmt_text.proofs.SourceLemmas.{Gives-nil, Gives-trans}
use Rattle.pmt_text.proofs.SpelledLemmas.{event_line_free, line_judged-event_line}
use Rattle.pmt_text.proofs.SpelledReading.{line-and-rest}
use Rattle.pmt_text.proofs.TextLemmas.{coming_now, coming_then, event_taken}

-- ---- What was coming

-- the lines of these events are ahead, and there is room for them
events_taken : (f : Layout) (given : ℕ) (es : List Event) (held later : List ℕ) (room : ℕ) (known : Option (List ℕ)) → AllByRecursion (IsEventIn f) es → held ≡ flat_map event_text es ++ later → given + length es ≤ event_limit
    → Gives (coming_now f given (known_ahead known held room)) es (coming_now f (given + length es) (known_ahead known later room))
events_taken f given [] held later room known all is few =
    let same : given ≡ given + 0 = omega arith in
    let at : ℕ → List ℕ → Option _ = λ n xs. coming_now f n (known_ahead known xs room) in
    subst (λ n. Gives (at given held) [] (at n later)) same (subst (λ xs. Gives (at given held) [] (at given xs)) is (Gives-nil (at given held)))
events_taken f given (e ∷ es) held later room known all is few =
    let line : List ℕ = event_line e in
    let mid : List ℕ = flat_map event_text es ++ later in
    let whole : held ≡ event_text e ++ mid = is ∙ append_assoc (event_text e) (flat_map event_text es) later in
    let cut : held ≡ line ++ 10 ∷ mid = line-and-rest f e held mid (all.0, whole) in
    let one = event_taken f given held mid line room cut (one_line-free line (event_line_free e)) known e (line_judged-event_line f e all.0) (omega (arith, few)) in
    let others = events_taken f (given + 1) es mid later room known all.1 refl (omega (arith, few)) in
    let count : (given + 1) + length es ≡ given + length (e ∷ es) = omega arith in
    let all_of = Gives-trans (coming_now f given (known_ahead known held room)) (coming_then f given (known_ahead known mid room)) (coming_now f ((given + 1) + length es) (known_ahead known later room)) (e ∷ []) es one others in
    subst (λ n. Gives (coming_now f given (known_ahead known held room)) (e ∷ es) (coming_now f n (known_ahead known later room))) count all_of

-- those that a reader of lines took
pub plain-taken : {R : Type 0} (remaining : R → Option (List ℕ)) (old new : LineReader R) (T now : Recording) (given : ℕ) (h : AreFirstEvents (held old) (held new) T now) → new.input ≡ old.input → new.room ≡ old.room
    → given + length h.events ≤ event_limit → Gives (coming_from remaining (Some T.format) given old) h.events (coming_from remaining (Some T.format) (given + length h.events) new)
plain-taken remaining old new T now given h input room few =
    let taken = events_taken T.format given h.events (held old) (held new) old.room (known_of remaining old) h.in_format h.spelled few in
    let known : known_of remaining new ≡ known_of remaining old = ap (λ i. remaining (inner_device i)) input in
    rw (known, room) taken

-- how many events they are
length-taken : (T now : Recording) (events : List Event) → now ≡ with_events T events → length now.events ≡ length T.events + length events
length-taken T now events is = ap (λ U. length U.events) is ∙ length-append T.events events

pub given-few : (given old new bound : ℕ) → (new ≤ old) ⊎ (new ≤ bound) → bound ≤ old + (event_limit - given) → given ≤ event_limit → given + (new - old) ≤ event_limit
given-few given old new bound (inl fewer) most few = omega (arith, fewer, few)
given-few given old new bound (inr fewer) most few = omega (arith, fewer, most, few)

-- their lines are lent
some_text : (e : Event) (rest : List ℕ) → 0 < length (event_text e ++ rest)
unfolding event_text
some_text e rest = omega (arith, length-append (event_line e ++ 10 ∷ []) rest, length-append (event_line e) (10 ∷ []))

lends-all : (old new : List ℕ) (lent : Option (List ℕ)) (events : List Event) → old ≡ flat_map event_text events ++ new → (new ≡ old) ⊎ IfSome lent (λ lines. lines ++ new ≡ old) → LendsAll events lent
lends-all old new lent [] is last = tt
lends-all old new None (e ∷ es) is last = tt
lends-all old new (Some text) (e ∷ es) is (inl same) =
    absurd (omega (arith, ap length is, ap length same, length-append (flat_map event_text (e ∷ es)) new, some_text e (flat_map event_text es)))
lends-all old new (Some text) (e ∷ es) is (inr last) = append_cancel_right text (flat_map event_text (e ∷ es)) new (last ∙ is)

-- so the source of the reader's text gives them
pub ready-taken : {R : Type 0} (remaining : R → Option (List ℕ)) (old new : LineReader R) (T now : Recording) (given after : ℕ) (state : SourceState) (format : Option Layout) → state ≡ Open → format ≡ Some T.format
    → AreFirstEvents (held old) (held new) T now → new.input ≡ old.input → new.room ≡ old.room → after ≡ given + (length now.events - length T.events) → after ≤ event_limit
    → (held new ≡ held old) ⊎ IfSome (last_line new) (λ lines. lines ++ held new ≡ held old)
    → TakesReady (coming_in state (coming_from remaining format given old) format) (coming_in state (coming_from remaining format after new) format) (last_line new) T now
ready-taken remaining old new T now given after state format is_open known h input room count few last =
    let long = length-taken T now h.events h.added in
    let is : after ≡ given + length h.events = omega (arith, count, long) in
    let taken = plain-taken remaining old new T now given h input room (omega (arith, is, few)) in
    let P : SourceState → Option Layout → ℕ → Type 0 = λ s f n. Gives (coming_in s (coming_from remaining f given old) f) h.events (coming_in s (coming_from remaining f n new) f) in
    record {
      events = h.events;
      added = h.added;
      taken = subst (λ s. P s format after) (sym is_open) (subst (λ f. P Open f after) (sym known) (subst (λ n. P Open (Some T.format) n) (sym is) taken));
      lends = lends-all (held old) (held new) (last_line new) h.events h.spelled last;
    }
