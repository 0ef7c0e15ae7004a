-- What a source has told and given while its events are taken.
use Rattle.std.proofs.Common.{◌≡◌, ◌≢◌, ℕ, ◌+◌, ◌<◌, ◌≤◌, inl, inr, List, [], ◌∷◌, ◌++◌, length, Option, Some, None, Result, Ok, Err, refl, ap, sym, subst, ◌∙◌, arith}
use Rattle.std.proofs.lemmas.List.{length-append}
use Rattle.pmt_laws.specs.Prelude.{Event, Layout, Recording, event_limit, with_event, empty}
use Rattle.pmt_text.specs.declared.kind.SourceError.{SourceError}
use Rattle.pmt_text.specs.declared.kind.SourceError.TheVariants.{Failed}
use Rattle.pmt_text.specs.declared.source.SourceState.{SourceState}
use Rattle.pmt_text.specs.declared.source.SourceState.TheVariants as states
use Rattle.pmt_text.specs.Coming.{Coming, ComesWhole}
use Rattle.pmt_text.specs.Sources.{Gives, IsOver, TakesNext, HasFormat, TakesFormat, TellsNext, TellsFormat, KeepsFormat, LeavesFewer, CountsReads, TakesReady}
use Rattle.pmt_text.proofs.SourceLemmas.{Gives-over, Gives-same, Gives-trans, whole-parts}
use Rattle.pmt_taking.specs.declared.taking.TakeError.{TakeError}
use Rattle.pmt_taking.specs.declared.taking.TakeError.TheVariants as refusals
use Rattle.pmt_taking.specs.Sourcing.{TakesFirst, TellsEnd, TellsNothing, told_by, LeavesRest, RefusedLeaves, Shown, TakesBlock}

-- no read has failed since
abbrev pub SameReads : Option ℕ → Option ℕ → Type 0
SameReads None new = Unit {0}
SameReads (Some n) new = new ≡ Some n

same_reads-none : (reads : Option ℕ) → SameReads reads reads
same_reads-none None = tt
same_reads-none (Some n) = refl

same_reads-more : {A : Type 0} (old mid new : Option ℕ) (x : A) → SameReads old mid → CountsReads mid (Ok x) new → SameReads old new
same_reads-more None mid new x same counts = tt
same_reads-more (Some n) mid new x same counts =
    let counted = subst (λ m. CountsReads m (Ok x) new) same counts in
    let e : n + 0 ≡ n = omega arith in counted ∙ ap (λ (k : ℕ). Some k) e

-- nor is one told where memory was refused to the split itself
pub counts-refused : {A B : Type 0} (old mid new : Option ℕ) (x : A) (r : Result B TakeError) → SameReads old mid → CountsReads mid (Ok x) new → r ≡ Err refusals.OutOfMemory → CountsReads old (told_by r) new
counts-refused None mid new x r same counts refused = tt
counts-refused (Some n) mid new x r same counts refused =
    subst (λ q. CountsReads (Some n) (told_by q) new) (sym refused) (subst (λ m. CountsReads m (Ok x) new) same counts)

-- after events were taken, T being the trace of them
pub record SoFar (first now : Shown) (T : Recording) : Type 0 where
  pub given : Gives first.coming T.events now.coming
  pub format : HasFormat first.coming (Some T.format)
  pub in_format : now.format ≡ Some T.format
  pub same_state : now.state ≡ first.state
  pub unfailed : (told : SourceError) → first.state ≢ states.Failed told
  pub same_reads : SameReads first.failures now.failures
  pub roomy : length T.events + now.room ≤ event_limit

-- a format that is known stays
known-kept : (known new : Option Layout) (f : Layout) → known ≡ Some f → KeepsFormat known new → new ≡ Some f
known-kept known new f is kept = subst (λ k. KeepsFormat k new) is kept

-- an event that is told leaves the state
tells-some : (old new : SourceState) (e : Event) → TellsNext old (Ok (Some e)) new → new ≡ old
tells-some states.Open new e tells = tells
tells-some states.Ended new e tells =
    let ended : ◌≡◌ {A = Result (Option Event) SourceError} (Ok (Some e)) (Ok None) = tells.0 in cc
tells-some (states.Failed told) new e tells =
    let failed : ◌≡◌ {A = Result (Option Event) SourceError} (Ok (Some e)) (Err Failed) = tells.0 in cc

-- a format that is told leaves the state, which is no fault
tells-format : (old new : SourceState) (f : Layout) → TellsFormat old (Ok f) new → (new ≡ old) × ((told : SourceError) → old ≢ states.Failed told)
tells-format states.Open new f tells = (tells, λ told same. cc)
tells-format states.Ended new f tells = (tells, λ told same. cc)
tells-format (states.Failed was) new f tells =
    let failed : ◌≡◌ {A = Result Layout SourceError} (Ok f) (Err Failed) = tells.0 in cc

-- before the first event
pub so_far-none : (first now : Shown) (f : Layout) → TakesFormat first.coming (Ok f) now.coming → TellsFormat first.state (Ok f) now.state → now.format ≡ Some f → CountsReads first.failures (Ok f) now.failures → now.room ≤ event_limit →
    SoFar first now (empty f)
so_far-none first now f takes tells known counts few =
    let told = tells-format first.state now.state f tells in
    record {
      given = takes.1;
      format = takes.0;
      in_format = known;
      same_state = told.0;
      unfailed = told.1;
      same_reads = same_reads-more first.failures first.failures now.failures f (same_reads-none first.failures) counts;
      roomy = omega (arith, few);
    }

-- after one more event
pub so_far-more : (first now next : Shown) (T : Recording) (e : Event) → SoFar first now T → TakesNext now.coming (Ok (Some e)) next.coming → TellsNext now.state (Ok (Some e)) next.state → KeepsFormat now.format next.format → CountsReads now.failures (Ok (Some e)) next.failures → LeavesFewer now.room (Ok (Some e)) next.room →
    SoFar first next (with_event T e)
so_far-more first now next T e so_far takes tells kept counts fewer =
    record {
      given = Gives-trans first.coming now.coming next.coming T.events (e ∷ []) so_far.given takes;
      format = so_far.format;
      in_format = known-kept now.format next.format T.format so_far.in_format kept;
      same_state = tells-some now.state next.state e tells ∙ so_far.same_state;
      unfailed = so_far.unfailed;
      same_reads = same_reads-more first.failures now.failures next.failures (Some e) so_far.same_reads counts;
      roomy = omega (arith, so_far.roomy, fewer, length-append T.events (e ∷ []));
    }

-- where so many events were taken as were asked for
tells-nothing : (old new : SourceState) → new ≡ old → ((told : SourceError) → old ≢ states.Failed told) → TellsNothing old new
tells-nothing states.Open new same unfailed = same
tells-nothing states.Ended new same unfailed = same
tells-nothing (states.Failed told) new same unfailed = absurd (unfailed told refl)

pub so_far-full : (most : ℕ) (first now : Shown) (T : Recording) → SoFar first now T → length T.events ≡ most → TakesFirst most first.coming now.coming first.state now.state T
so_far-full most first now T so_far full = record {
  format = so_far.format;
  events = so_far.given;
  few = inr (full, tells-nothing first.state now.state so_far.same_state so_far.unfailed);
}

-- where the end came before
tells-end : (old new : SourceState) → TellsNext old (Ok None) new → TellsEnd old new
tells-end states.Open new tells = tells
tells-end states.Ended new tells = tells.1
tells-end (states.Failed told) new tells =
    let failed : ◌≡◌ {A = Result (Option Event) SourceError} (Ok None) (Err Failed) = tells.0 in cc

all-taken : (old now : Option Coming) (T : Recording) → HasFormat old (Some T.format) → Gives old T.events now → IsOver now None → ComesWhole old T
all-taken None now T format given over = tt
all-taken (Some c) now T format given over =
    let all = Gives-over (Some c) now T.events None given over in
    whole-parts c T format all.0 all.1

pub so_far-all : (first now next : Shown) (T : Recording) → SoFar first now T → TakesNext now.coming (Ok None) next.coming → TellsNext now.state (Ok None) next.state → ComesWhole first.coming T × TellsEnd first.state next.state
so_far-all first now next T so_far takes tells =
    (all-taken first.coming now.coming T so_far.format so_far.given takes.0, tells-end first.state next.state (subst (λ s. TellsNext s (Ok None) next.state) so_far.same_state tells))

pub so_far-ended : (most : ℕ) (first now next : Shown) (T : Recording) → SoFar first now T → length T.events < most → TakesNext now.coming (Ok None) next.coming → TellsNext now.state (Ok None) next.state →
    TakesFirst most first.coming next.coming first.state next.state T
so_far-ended most first now next T so_far fewer takes tells = record {
  format = so_far.format;
  events = Gives-same first.coming now.coming next.coming T.events so_far.given takes.1;
  few = let all = so_far-all first now next T so_far takes tells in inl (fewer, all.0, all.1);
}

-- ---- One block

-- after some events of a block were taken
pub record BlockSoFar (most : ℕ) (first now : Shown) (B : Recording) : Type 0 where
  pub so_far : SoFar first now B
  pub few : length B.events ≤ most
  pub roomy : length B.events + now.room ≤ first.room
  pub same_format : (f : Layout) → first.format ≡ Some f → B.format ≡ f

pub block-more : (most : ℕ) (first now next : Shown) (B : Recording) (e : Event) → length B.events < most → BlockSoFar most first now B → TakesNext now.coming (Ok (Some e)) next.coming → TellsNext now.state (Ok (Some e)) next.state → KeepsFormat now.format next.format → CountsReads now.failures (Ok (Some e)) next.failures → LeavesFewer now.room (Ok (Some e)) next.room →
    BlockSoFar most first next (with_event B e)
block-more most first now next B e within block takes tells kept counts fewer = record {
  so_far = so_far-more first now next B e block.so_far takes tells kept counts fewer;
  few = omega (arith, within, length-append B.events (e ∷ []));
  roomy = omega (arith, block.roomy, fewer, length-append B.events (e ∷ []));
  same_format = block.same_format;
}

-- after those that were ready
reads-same : (old now next : Option ℕ) → SameReads old now → next ≡ now → SameReads old next
reads-same old now next same is = subst (λ m. SameReads old m) (sym is) same

pub block-ready : (most : ℕ) (first now next : Shown) (lent : Option (List ℕ)) (B after : Recording) → BlockSoFar most first now B → TakesReady now.coming next.coming lent B after → (length B.events ≤ most → length after.events ≤ most)
    → next.room + length after.events ≤ now.room + length B.events → next.state ≡ now.state → next.format ≡ now.format → next.failures ≡ now.failures → BlockSoFar most first next after
block-ready most first now next lent B after block ready few roomy state format failures =
    let so_far = block.so_far in
    record {
      so_far = record {
        given = subst (λ U. Gives first.coming U.events next.coming) (sym ready.added) (Gives-trans first.coming now.coming next.coming B.events ready.events so_far.given ready.taken);
        format = subst (λ U. HasFormat first.coming (Some U.format)) (sym ready.added) so_far.format;
        in_format = format ∙ so_far.in_format ∙ ap (λ U. Some U.format) (sym ready.added);
        same_state = state ∙ so_far.same_state;
        unfailed = so_far.unfailed;
        same_reads = reads-same first.failures now.failures next.failures so_far.same_reads failures;
        roomy = omega (arith, roomy, so_far.roomy);
      };
      few = few block.few;
      roomy = omega (arith, roomy, block.roomy);
      same_format = λ f was. ap (λ U. U.format) ready.added ∙ block.same_format f was;
    }

pub block-ended : (most : ℕ) (first now next : Shown) (B : Recording) → length B.events < most → BlockSoFar most first now B → TakesNext now.coming (Ok None) next.coming → TellsNext now.state (Ok None) next.state → KeepsFormat now.format next.format → next.room ≡ now.room →
    TakesBlock most first next B
block-ended most first now next B fewer block takes tells kept same = record {
  first = so_far-ended most first now next B block.so_far fewer takes tells;
  known = subst (λ o. KeepsFormat o next.format) block.so_far.in_format kept;
  same_format = block.same_format;
  roomy = omega (arith, block.roomy, same);
}

-- where memory was refused after an event
pub event-leaves : (most : ℕ) (first now next : Shown) (B : Recording) (e : Event) → length B.events < most → BlockSoFar most first now B → TakesNext now.coming (Ok (Some e)) next.coming → LeavesFewer now.room (Ok (Some e)) next.room → LeavesRest most first next
event-leaves most first now next B e within block takes fewer = record {
  taken = B.events ++ e ∷ [];
  few = omega (arith, within, length-append B.events (e ∷ []));
  rest = Gives-trans first.coming now.coming next.coming B.events (e ∷ []) block.so_far.given takes;
  roomy = omega (arith, block.roomy, fewer, length-append B.events (e ∷ []));
}

-- and after a call that took nothing
pub still-leaves : (most : ℕ) (first now next : Shown) → LeavesRest most first now → next.coming ≡ now.coming → next.room ≡ now.room → LeavesRest most first next
still-leaves most first now next left coming room = record {
  taken = left.taken;
  few = left.few;
  rest = subst (λ c. Gives first.coming left.taken c) (sym coming) left.rest;
  roomy = omega (arith, left.roomy, room);
}

pub refused-leaves : {A : Type 0} (most : ℕ) (old new : Shown) (r : Result A TakeError) → LeavesRest most old new → RefusedLeaves most old r new
refused-leaves most old new (Ok x) left = tt
refused-leaves most old new (Err (refusals.Source e)) left = tt
refused-leaves most old new (Err refusals.OutOfMemory) left = left
