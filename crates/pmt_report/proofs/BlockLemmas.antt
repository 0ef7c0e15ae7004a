-- What a source has told and given while its events are taken block by block.
use Rattle.std.proofs.Common.{◌≡◌, ◌≢◌, ℕ, ◌+◌, ◌≤◌, inl, inr, ◌==◌, Bool, true, false, List, [], ◌∷◌, ◌++◌, length, Option, Some, None, IfSome, Result, Ok, Err, refl, sym, ap, subst, ◌∙◌, arith, eqb-true}
use Rattle.std.specs.Prelude.{IfErr}
use Rattle.std.proofs.lemmas.Bool.{eqb-false}
use Rattle.std.proofs.lemmas.List.{length-append}
use Rattle.pmt_laws.specs.Prelude.{Event, Layout, Recording, IsTrace, IsEventIn, event_limit, with_events, AllByRecursion}
use Rattle.pmt_text.specs.declared.kind.SourceError.{SourceError}
use Rattle.pmt_text.specs.declared.kind.SourceError.TheVariants.{Text, TooMany, Read, OutOfMemory, Failed}
use Rattle.pmt_text.specs.declared.source.SourceState.{SourceState}
use Rattle.pmt_text.specs.declared.source.SourceState.TheVariants as states
use Rattle.pmt_text.specs.Coming.{Coming, ComesWhole, whole}
use Rattle.pmt_text.specs.Sources.{Gives, HasFormat, CountsReads}
use Rattle.pmt_text.proofs.SourceLemmas.{Gives-trans, whole-parts}
use Rattle.pmt_taking.specs.declared.taking.TakeError.{TakeError}
use Rattle.pmt_taking.specs.declared.taking.TakeError.TheVariants as refusals
use Rattle.pmt_taking.specs.Sourcing.{IsFaultOf, TellsEnd, TellsFault, TellsNothing, TellsRefusal, TellsTaken, told_by, Shown, TakesBlock}
use Rattle.pmt_taking.proofs.SourceRunLemmas.{SoFar, SameReads}
use Rattle.pmt_report.specs.Checks.{IsTakenSoFar, IsTakenWhole}

-- ---- Block after block

-- what a source told that told no fault
abbrev pub untold_fault : Result (Unit {0}) SourceError
untold_fault = Ok tt

counted-same : {A : Type 0} (old new : Option ℕ) (x : A) → CountsReads old (Ok x) new → SameReads old new
counted-same None new x counts = tt
counted-same (Some n) new x counts = let e : n + 0 ≡ n = omega arith in counts ∙ ap (λ (k : ℕ). Some k) e

same-counted : {A : Type 0} (old new : Option ℕ) (x : A) → SameReads old new → CountsReads old (Ok x) new
same-counted None new x same = tt
same-counted (Some n) new x same = let e : n ≡ n + 0 = omega arith in same ∙ ap (λ (k : ℕ). Some k) e

reads-trans : (old mid new : Option ℕ) → SameReads old mid → SameReads mid new → SameReads old new
reads-trans None mid new first second = tt
reads-trans (Some n) mid new first second = subst (λ m. SameReads m new) first second

reads-later : {A : Type 0} (old mid new : Option ℕ) (r : Result A SourceError) → SameReads old mid → CountsReads mid r new → CountsReads old r new
reads-later None mid new r same counts = tt
reads-later (Some n) mid new r same counts = subst (λ m. CountsReads m r new) same counts

state-same : (old new : SourceState) → TellsNothing old new → new ≡ old
state-same states.Open new tells = tells
state-same states.Ended new tells = tells
state-same (states.Failed told) new tells = absurd tells

state-unfailed : (old new : SourceState) → TellsNothing old new → (told : SourceError) → old ≢ states.Failed told
state-unfailed states.Open new tells told e = cc
state-unfailed states.Ended new tells told e = cc
state-unfailed (states.Failed was) new tells told e = tells

nothing-told : (old new : SourceState) → new ≡ old → ((told : SourceError) → old ≢ states.Failed told) → TellsNothing old new
nothing-told states.Open new same unfailed = same
nothing-told states.Ended new same unfailed = same
nothing-told (states.Failed told) new same unfailed = absurd (unfailed told refl)

-- the first block
pub first-block : (most : ℕ) (first now : Shown) (B : Recording) → first.room ≤ event_limit → TakesBlock most first now B → CountsReads first.failures untold_fault now.failures → IsTakenSoFar first now B (length B.events == most)
first-block most first now B few block counts = record { on = λ full. on (eqb-true (length B.events) most full); over = λ short. over (eqb-false (length B.events) most short) }
  where
    on : length B.events ≡ most → SoFar first now B
    on full = elim block.first.few [
      | inl ended ↦ absurd (let h = ended.0 in omega (arith, h, full))
      | inr going ↦ record {
        given = block.first.events;
        format = block.first.format;
        in_format = block.known;
        same_state = state-same first.state now.state going.1;
        unfailed = state-unfailed first.state now.state going.1;
        same_reads = counted-same {A = Unit {0}} first.failures now.failures tt counts;
        roomy = omega (arith, block.roomy, few);
      }
    ]

    over : length B.events ≢ most → IsTakenWhole first now B
    over short = elim block.first.few [
      | inl ended ↦ record { comes = ended.1; told = ended.2; same_reads = counted-same {A = Unit {0}} first.failures now.failures tt counts }
      | inr going ↦ absurd (short going.0)
    ]

-- two parts of what comes, the second of which is the rest
whole-joined : (old mid : Option Coming) (T B : Recording) → HasFormat old (Some T.format) → Gives old T.events mid → ComesWhole mid B → ComesWhole old (with_events T B.events)
whole-joined None mid T B format given comes = tt
whole-joined (Some c) mid T B format given comes =
    let left : record { format = c.format; events = given.0; fault = c.fault } ≡ whole B = subst (λ o. ComesWhole o B) given.2 comes in
    whole-parts c (with_events T B.events) format (given.1 ∙ ap (λ (d : Coming). T.events ++ d.events) left) (ap (λ (d : Coming). d.fault) left)

-- one block more
pub next-block : (most : ℕ) (first mid now : Shown) (T B : Recording) → SoFar first mid T → TakesBlock most mid now B → CountsReads mid.failures untold_fault now.failures → IsTakenSoFar first now (with_events T B.events) (length B.events == most)
next-block most first mid now T B so_far block counts = record { on = λ full. on (eqb-true (length B.events) most full); over = λ short. over (eqb-false (length B.events) most short) }
  where
    same_reads : SameReads first.failures now.failures
    same_reads = reads-trans first.failures mid.failures now.failures so_far.same_reads (counted-same {A = Unit {0}} mid.failures now.failures tt counts)

    on : length B.events ≡ most → SoFar first now (with_events T B.events)
    on full = elim block.first.few [
      | inl ended ↦ absurd (let h = ended.0 in omega (arith, h, full))
      | inr going ↦ record {
        given = Gives-trans first.coming mid.coming now.coming T.events B.events so_far.given block.first.events;
        format = so_far.format;
        in_format = block.known ∙ ap (λ (f : Layout). Some f) (block.same_format T.format so_far.in_format);
        same_state = state-same mid.state now.state going.1 ∙ so_far.same_state;
        unfailed = so_far.unfailed;
        same_reads = same_reads;
        roomy = omega (arith, so_far.roomy, block.roomy, length-append T.events B.events);
      }
    ]

    over : length B.events ≢ most → IsTakenWhole first now (with_events T B.events)
    over short = elim block.first.few [
      | inl ended ↦ record {
        comes = whole-joined first.coming mid.coming T B so_far.format so_far.given ended.1;
        told = subst (λ s. TellsEnd s now.state) so_far.same_state ended.2;
        same_reads = same_reads;
      }
      | inr going ↦ absurd (short going.0)
    ]

-- no fault was told where memory was refused to what takes the events
pub untold : {A : Type 0} (first now : Shown) (T : Recording) (more : Bool) (r : Result A TakeError) → r ≡ Err refusals.OutOfMemory → IsTakenSoFar first now T more → TellsTaken first.state r now.state
untold {A = A} first now T true r refused taken =
    let so_far = taken.on refl in
    subst (λ q. TellsTaken {A = A} first.state q now.state) (sym refused) (inl (nothing-told first.state now.state so_far.same_state so_far.unfailed))
untold {A = A} first now T false r refused taken = subst (λ q. TellsTaken {A = A} first.state q now.state) (sym refused) (inr (taken.over refl).told)

so_far-reads : (first now : Shown) (T : Recording) (more : Bool) → IsTakenSoFar first now T more → SameReads first.failures now.failures
so_far-reads first now T true taken = (taken.on refl).same_reads
so_far-reads first now T false taken = (taken.over refl).same_reads

pub uncounted : {A : Type 0} (first now : Shown) (T : Recording) (more : Bool) (r : Result A TakeError) → r ≡ Err refusals.OutOfMemory → IsTakenSoFar first now T more → CountsReads first.failures (told_by r) now.failures
uncounted {A = A} first now T more r refused taken =
    subst (λ q. CountsReads first.failures (told_by {A = A} q) now.failures) (sym refused) (same-counted {A = Unit {0}} first.failures now.failures tt (so_far-reads first now T more taken))

-- ---- A fault after some blocks

fault-part : (c d : Coming) (e : SourceError) → d.fault ≡ c.fault → IsFaultOf d e → IsFaultOf c e
fault-part c d (Text f) same is = sym same ∙ is
fault-part c d TooMany same is = sym same ∙ is
fault-part c d Read same is = tt
fault-part c d OutOfMemory same is = tt
fault-part c d Failed same is = tt

fault-before : (old mid : Option Coming) (taken : List Event) (e : SourceError) → Gives old taken mid → IfSome mid (λ c. IsFaultOf c e) → IfSome old (λ c. IsFaultOf c e)
fault-before None mid taken e given fault = tt
fault-before (Some c) mid taken e given fault =
    fault-part c (record { format = c.format; events = given.0; fault = c.fault }) e refl (subst (λ o. IfSome o (λ d. IsFaultOf d e)) given.2 fault)

module _ (A B : Type 0) (first mid now : Shown) (T : Recording) (e : TakeError) (r : Result B TakeError) (refused : r ≡ Err e) (so_far : SoFar first mid T) where
  pub refused-fault : IfErr (told_by {A = A} (Err e)) (λ f. IfSome mid.coming (λ c. IsFaultOf c f)) → IfErr (told_by {A = B} r) (λ f. IfSome first.coming (λ c. IsFaultOf c f))
  refused-fault fault = subst (λ q. IfErr (told_by {A = B} q) (λ f. IfSome first.coming (λ c. IsFaultOf c f))) (sym refused) (go e fault)
    where
      go : (x : TakeError) → IfErr (told_by {A = A} (Err x)) (λ f. IfSome mid.coming (λ c. IsFaultOf c f)) → IfErr (told_by {A = B} (Err x)) (λ f. IfSome first.coming (λ c. IsFaultOf c f))
      go (refusals.Source f) h = fault-before first.coming mid.coming T.events f so_far.given h
      go refusals.OutOfMemory h = tt

  pub refused-told : TellsRefusal {A = A} mid.state (Err e) now.state → TellsTaken first.state r now.state
  refused-told told = subst (λ q. TellsTaken {A = B} first.state q now.state) (sym refused) (go e told)
    where
      go : (x : TakeError) → TellsRefusal {A = A} mid.state (Err x) now.state → TellsTaken {A = B} first.state (Err x) now.state
      go (refusals.Source f) h = subst (λ s. TellsFault s f now.state) so_far.same_state h
      go refusals.OutOfMemory h = inl (subst (λ s. TellsNothing s now.state) so_far.same_state h)

  pub refused-counted : CountsReads mid.failures (told_by {A = A} (Err e)) now.failures → CountsReads first.failures (told_by r) now.failures
  refused-counted counts = subst (λ q. CountsReads first.failures (told_by {A = B} q) now.failures) (sym refused) (go e counts)
    where
      go : (x : TakeError) → CountsReads mid.failures (told_by {A = A} (Err x)) now.failures → CountsReads first.failures (told_by {A = B} (Err x)) now.failures
      go (refusals.Source f) h = reads-later first.failures mid.failures now.failures (Err f) so_far.same_reads h
      go refusals.OutOfMemory h = reads-later first.failures mid.failures now.failures untold_fault so_far.same_reads h

-- ---- A block after a trace

all-append : {X : Type 0} (P : X → Type 0) (xs ys : List X) → AllByRecursion P xs → AllByRecursion P ys → AllByRecursion P (xs ++ ys)
all-append P [] ys first second = second
all-append P (x ∷ xs) ys first second = (first.0, all-append P xs ys first.1 second)

-- the events taken so far and those of the next block are a trace
pub next-trace : (most : ℕ) (first mid now : Shown) (T B : Recording) → SoFar first mid T → TakesBlock most mid now B → IsTrace T → IsTrace B → IsTrace (with_events T B.events)
next-trace most first mid now T B so_far block before next = record {
  format = before.format;
  few = omega (arith, length-append T.events B.events, so_far.roomy, block.roomy);
  each = all-append (IsEventIn T.format) T.events B.events before.each (subst (λ (f : Layout). AllByRecursion (IsEventIn f) B.events) (block.same_format T.format so_far.in_format) next.each);
}

-- ---- What is left to take

-- want of memory is no fault of the source
pub unfaulted : {A : Type 0} (coming : Option Coming) (r : Result A TakeError) → r ≡ Err refusals.OutOfMemory → IfErr (told_by r) (λ f. IfSome coming (λ c. IsFaultOf c f))
unfaulted {A = A} coming r refused = subst (λ q. IfErr (told_by {A = A} q) (λ f. IfSome coming (λ c. IsFaultOf c f))) (sym refused) tt

-- ---- A refusal, whatever was to be answered

module _ (A B : Type 0) where
  pub fault-kept : (coming : Option Coming) (e : TakeError) → IfErr (told_by {A = A} (Err e)) (λ f. IfSome coming (λ c. IsFaultOf c f)) → IfErr (told_by {A = B} (Err e)) (λ f. IfSome coming (λ c. IsFaultOf c f))
  fault-kept coming (refusals.Source f) fault = fault
  fault-kept coming refusals.OutOfMemory fault = fault

  pub told-kept : (old new : SourceState) (e : TakeError) → TellsTaken {A = A} old (Err e) new → TellsTaken {A = B} old (Err e) new
  told-kept old new (refusals.Source f) told = told
  told-kept old new refusals.OutOfMemory told = told

  pub counts-kept : (old new : Option ℕ) (e : TakeError) → CountsReads old (told_by {A = A} (Err e)) new → CountsReads old (told_by {A = B} (Err e)) new
  counts-kept old new (refusals.Source f) counts = counts
  counts-kept old new refusals.OutOfMemory counts = counts
