-- The whole text at the end of a source, and a fault before it.
use Rattle.std.proofs.Common.{◌≡◌, ◌≢◌, ℕ, suc, ◌+◌, ◌<◌, ◌≤◌, ◌⊎◌, inl, inr, Bool, List, [], ◌++◌, length, get_or, Option, None, Some, Result, Ok, Err, refl, sym, ap, subst, ◌∙◌, arith, length-append}
use Rattle.std.specs.Prelude.{IfErr, IfSome}
use Rattle.std.proofs.lemmas.Bool.{cases_lt}
use Rattle.std.proofs.lemmas.Option.{slice_get-get_or}
use Rattle.pmt_laws.specs.Prelude.{Event, Recording, empty, with_events}
use Rattle.pmt_laws.specs.Passing.{IsDecided}
use Rattle.pmt_text.specs.declared.kind.SourceError.{SourceError}
use Rattle.pmt_text.specs.declared.kind.SourceError.TheVariants.{Text, TooMany, Read, OutOfMemory, Failed}
use Rattle.pmt_text.specs.declared.source.SourceState.{SourceState}
use Rattle.pmt_text.specs.declared.source.SourceState.TheVariants as states
use Rattle.pmt_text.specs.Coming.{Coming}
use Rattle.pmt_text.specs.Sources.{Gives, HasFormat, IsOver, Faults, CountsReads, TakesReady}
use Rattle.pmt_taking.specs.declared.taking.TakeError.{TakeError}
use Rattle.pmt_taking.specs.declared.taking.TakeError.TheVariants as refusals
use Rattle.pmt_taking.specs.Sourcing.{IsFaultOf, TellsNothing, TellsTaken, told_by, Shown}
use Rattle.pmt_text.proofs.SourceLemmas.{Gives-trans}
use Rattle.pmt_taking.proofs.SourceRunLemmas.{SameReads, SoFar}
use Rattle.pmt_trimming.specs.Streaming.{IsTextOfTrimmed, HasLeftTo, IsHeldAt, IsTextOfWhole}
use Rattle.pmt_trimming.specs.LineQueues.{Queued, Pops}
use Rattle.pmt_trimming.specs.Passing.{AreDecidedFrom, AreMarks, Settles, decision_by}
use Rattle.pmt_trimming.specs.declared.pass.Mark.{Mark}
use Rattle.pmt_trimming.proofs.FlowEnds.{comes-over}
use Rattle.pmt_trimming.proofs.SettlingLemmas.{decided-first}
use Rattle.pmt_trimming.proofs.StreamLemmas.{left-popped}

-- the events that were ready, where the trace had none
ready-events : (before after : Recording) (old new : Option Coming) (lent : Option (List ℕ)) → before.events ≡ [] → (ready : TakesReady old new lent before after) → after.events ≡ ready.events
ready-events before after old new lent fresh ready = ap (λ (R : Recording). R.events) ready.added ∙ ap (λ (es : List Event). es ++ ready.events) fresh

-- the source has told its end
pub text-whole : (first now : Option Coming) (T : Recording) (text : List ℕ) → Gives first T.events now → HasFormat first (Some T.format) → IsOver now None → IsTextOfTrimmed T text → IsTextOfWhole first text
text-whole first now T text given format over right = record { trace = T; come = comes-over first now T None given format over; right = right }

-- it has told a fault, which is the one that came
pub text-fault : {B : Type 0} (first now : Option Coming) (T : Recording) (e : SourceError) (r : Result B TakeError) → Gives first T.events now → Faults now e → r ≡ Err (refusals.Source e) →
    IfErr (told_by r) (λ f. IfSome first (λ c. IsFaultOf c f))
text-fault {B = B} first now T e r given faults refused = subst (λ (q : Result B TakeError). IfErr (told_by q) (λ f. IfSome first (λ c. IsFaultOf c f))) (sym refused) (go first given)
  where
    part : (c : Coming) (x : SourceError) → Faults (Some c) x → IsFaultOf c x
    part c (Text f) over = over.1
    part c TooMany over = over.1
    part c Read over = tt
    part c OutOfMemory over = tt
    part c Failed over = tt

    same : (c d : Coming) (x : SourceError) → d.fault ≡ c.fault → IsFaultOf d x → IsFaultOf c x
    same c d (Text f) fault is = sym fault ∙ is
    same c d TooMany fault is = sym fault ∙ is
    same c d Read fault is = tt
    same c d OutOfMemory fault is = tt
    same c d Failed fault is = tt

    go : (o : Option Coming) → Gives o T.events now → IfSome o (λ c. IsFaultOf c e)
    go None given = tt
    go (Some c) given =
        let rest : Coming = record { format = c.format; events = given.0; fault = c.fault } in
        same c rest e refl (part rest e (subst (λ o. Faults o e) given.2 faults))

-- and it was counted, if it was a failed read
pub counts-fault : {B : Type 0} (old mid new : Option ℕ) (e : SourceError) (r : Result B TakeError) → SameReads old mid → CountsReads {T = Option Event} mid (Err e) new → r ≡ Err (refusals.Source e) →
    CountsReads old (told_by r) new
counts-fault None mid new e r same counts refused = tt
counts-fault {B = B} (Some n) mid new e r same counts refused =
    subst (λ (q : Result B TakeError). CountsReads (Some n) (told_by q) new) (sym refused) (subst (λ m. CountsReads {T = Option Event} m (Err e) new) same counts)

-- after events that were ready
pub so_far-ready : (first now next : Shown) (T before after : Recording) (lent : Option (List ℕ)) → before ≡ empty T.format → SoFar first now T → TakesReady now.coming next.coming lent before after →
    next.room + length after.events ≤ now.room + length before.events → next.state ≡ now.state → next.format ≡ now.format → next.failures ≡ now.failures → SoFar first next (with_events T after.events)
so_far-ready first now next T before after lent fresh so_far ready roomy state format failures =
    let none : before.events ≡ [] = ap (λ (R : Recording). R.events) fresh in
    record {
      given = subst (λ (es : List Event). Gives first.coming (T.events ++ es) next.coming) (sym (ready-events before after now.coming next.coming lent none ready)) (Gives-trans first.coming now.coming next.coming T.events ready.events so_far.given ready.taken);
      format = so_far.format;
      in_format = format ∙ so_far.in_format;
      same_state = state ∙ so_far.same_state;
      unfailed = so_far.unfailed;
      same_reads = subst (λ m. SameReads first.failures m) (sym failures) so_far.same_reads;
      roomy = omega (arith, so_far.roomy, roomy, ap length none, length-append T.events after.events);
    }

-- memory is refused to the trimmer itself: the source has told nothing
pub refused-told : {B : Type 0} (first now : Shown) (T : Recording) (new : SourceState) (r : Result B TakeError) → SoFar first now T → new ≡ now.state → r ≡ Err refusals.OutOfMemory → TellsTaken first.state r new
refused-told {B = B} first now T new r so_far same refused =
    subst (λ (q : Result B TakeError). TellsTaken first.state q new) (sym refused) (inl (nothing first.state (same ∙ so_far.same_state) so_far.unfailed))
  where
    nothing : (old : SourceState) → new ≡ old → ((told : SourceError) → old ≢ states.Failed told) → TellsNothing old new
    nothing states.Open is unfailed = is
    nothing states.Ended is unfailed = is
    nothing (states.Failed told) is unfailed = absurd (unfailed told refl)

pub refused-counted : {B : Type 0} (first now : Shown) (T : Recording) (new : Option ℕ) (r : Result B TakeError) → SoFar first now T → new ≡ now.failures → r ≡ Err refusals.OutOfMemory → CountsReads first.failures (told_by r) new
refused-counted {B = B} first now T new r so_far same refused =
    subst (λ (q : Result B TakeError). CountsReads first.failures (told_by q) new) (sym refused) (go first.failures (subst (λ m. SameReads first.failures m) (sym same) so_far.same_reads))
  where
    go : (old : Option ℕ) → SameReads old new → CountsReads {T = Unit {0}} old (Ok tt) new
    go None reads = tt
    go (Some n) reads = let e : n ≡ n + 0 = omega arith in reads ∙ ap (λ (k : ℕ). Some k) e

-- ---- What is decided leaves

-- a mark that tells a decision
mark-settles : (T : Recording) (place i : ℕ) (ms : List Mark) (d : Mark) (kept : Bool) → i < length ms → decision_by (get_or ms i d) ≡ Some kept → place + length ms ≤ length T.events → AreMarks T place ms →
    Settles T (place + i) (Some kept) (place + (i + 1))
mark-settles T place i ms d kept within is many are =
    let first = decided-first T (suc (place + i)) (get_or ms i d) kept is (are i (get_or ms i d) (slice_get-get_or ms i d within)) in
    (omega arith, omega (arith, many, within), first.0, first.1)

-- its line leaves
pub held-popped : (T : Recording) (place i : ℕ) (ms : List Mark) (d : Mark) (kept : Bool) (o : Option Bool) (old new : Queued) → i < length ms → o ≡ decision_by (get_or ms i d) → o ≡ Some kept →
    place + length ms ≤ length T.events → AreMarks T place ms → Pops old.lines kept old.text new.lines new.text → HasLeftTo T (place + i) old → HasLeftTo T (place + (i + 1)) new
held-popped T place i ms d kept o old new within is some many are pops left =
    let settles = mark-settles T place i ms d kept within (sym is ∙ some) many are in
    let popped = left-popped T (place + i) (place + (i + 1)) kept (Some kept) left.0 old.lines new.lines [] old.text new.text refl settles left.1.lines pops left.1.left in
    (popped.0, record { lines = popped.1; left = popped.2 })

-- and its event is decided
pub decided-more : (T : Recording) (place i : ℕ) (ms : List Mark) (d : Mark) (kept : Bool) (o : Option Bool) → i < length ms → o ≡ decision_by (get_or ms i d) → o ≡ Some kept → AreMarks T place ms →
    AreDecidedFrom T place (place + i) → AreDecidedFrom T place (place + (i + 1))
decided-more T place i ms d kept o within is some are before k low high = go (cases_lt (place + i) k)
  where
    go : ((place + i) < k) ⊎ (k ≤ (place + i)) → IsDecided T k
    go (inr early) = before k low early
    go (inl late) =
        let e : suc (place + i) ≡ k = omega (arith, late, high) in
        subst (IsDecided T) e (decided-first T (suc (place + i)) (get_or ms i d) kept (sym is ∙ some) (are i (get_or ms i d) (slice_get-get_or ms i d within))).0

-- none has left yet
pub none-gone : (T : Recording) (place : ℕ) (waiting : List Event) (q : Queued) → IsHeldAt T place waiting q → HasLeftTo T (place + 0) q
none-gone T place waiting q held = let e : place ≡ place + 0 = omega arith in subst (λ (n : ℕ). HasLeftTo T n q) e (waiting, held)

-- all have
pub all-gone : (T : Recording) (place i many : ℕ) (q : Queued) → i ≡ many → HasLeftTo T (place + i) q → HasLeftTo T (place + many) q
all-gone T place i many q is left = subst (λ (n : ℕ). HasLeftTo T (place + n) q) is left

-- the room of what is gone is had again
pub whole-after : (T : Recording) (settled next : ℕ) (waiting : List Event) (old new : Queued) → new ≡ old → next ≡ settled → IsHeldAt T settled waiting old → IsHeldAt T next waiting new
whole-after T settled next waiting old new same place held = subst (λ (q : Queued). IsHeldAt T next waiting q) (sym same) (subst (λ (n : ℕ). IsHeldAt T n waiting old) (sym place) held)
