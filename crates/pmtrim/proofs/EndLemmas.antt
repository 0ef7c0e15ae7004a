-- What a run told of a lent writer, told of what that writer holds.
use Rattle.std.proofs.Common.{◌≡◌, ℕ, Bool, List, take, Option, Some, None, Result, Ok, Err, refl, sym, subst, inl, inr}
use Rattle.std.specs.Prelude.{MatchResult}
use Rattle.std.specs.Io.KnownBytes.{Keeps}
use Rattle.pmt_model.specs.Traces.{Recording}
use Rattle.pmt_text.specs.Coming.{Coming}
use Rattle.pmt_trimming.specs.declared.stream_error.StreamError.{StreamError}
use Rattle.pmt_trimming.specs.declared.stream_error.StreamError.TheVariants as streams
use Rattle.pmt_trimming.specs.Streaming.{SourceRun, Streams, Writes, WritesFirst}
use Rattle.pmt_report.specs.declared.fault.RunError.{RunError}
use Rattle.pmt_report.specs.declared.fault.RunError.TheVariants.{BadWorkers, Text, TooMany, Read, PastEnd, OutOfMemory, Write}
use Rattle.pmt_report.specs.Checks.{IsReportOf, TellsCheck}
use Rattle.pmt_report.specs.Faults.{run_status}
use Rattle.pmt_report.specs.Runs.{IsAnalysisFault, Runs}
use Rattle.command_inputs.specs.declared.fault.Fault.{Fault}
use Rattle.command_inputs.specs.declared.fault.Fault.TheVariants as faults
use Rattle.command_inputs.specs.Devices.{named_contents, IsToldAs}
use Rattle.command_inputs.proofs.NamedLemmas.{appends-back, keeps-back}
use Rattle.pmtrim.specs.Commands.{EndsAs, EndsCheck, EndsStream, StreamsOf, end_status, failed_status, stream_fault}

-- ---- A run

pub runs-back : (IsAnswer : Recording → List ℕ → Type 0) (IsFault : Option Coming → RunError → Type 0) (lent now : ℕ) (coming : Option Coming) (old new final : Option (List ℕ)) (r : Result (Unit {0}) RunError) → (lent ≡ now → final ≡ new) → Runs IsAnswer IsFault coming (named_contents lent old) (named_contents now new) r → Runs IsAnswer IsFault coming old final r
runs-back A F lent now coming old new final (Ok u) ends w = (w.0, w.1, appends-back lent now old new final w.0 ends w.2)
runs-back A F lent now coming old new final (Err BadWorkers) ends w = (w.0, keeps-back lent now old new final ends w.1)
runs-back A F lent now coming old new final (Err (Text f)) ends w = (w.0, keeps-back lent now old new final ends w.1)
runs-back A F lent now coming old new final (Err TooMany) ends w = (w.0, keeps-back lent now old new final ends w.1)
runs-back A F lent now coming old new final (Err Read) ends w = (w.0, keeps-back lent now old new final ends w.1)
runs-back A F lent now coming old new final (Err (PastEnd events)) ends w = (w.0, keeps-back lent now old new final ends w.1)
runs-back A F lent now coming old new final (Err OutOfMemory) ends w = (w.0, keeps-back lent now old new final ends w.1)
runs-back A F lent now coming old new final (Err (Write written)) ends w = (w.0, w.1, appends-back lent now old new final (take written w.0) ends w.2, w.3)

pub check-back : (lent now : ℕ) (coming : Option Coming) (old new final : Option (List ℕ)) (r : Result Bool RunError) → (lent ≡ now → final ≡ new) → TellsCheck coming (named_contents lent old) (named_contents now new) r → TellsCheck coming old final r
check-back lent now coming old new final (Ok failed) ends w =
    record { analysis = w.analysis; right = w.right; all = w.all; written = appends-back lent now old new final _ ends w.written; judged = w.judged }
check-back lent now coming old new final (Err e) ends w = runs-back IsReportOf IsAnalysisFault lent now coming old new final (Err e) ends w

pub check-ends : (lent now : ℕ) (coming : Option Coming) (old new final : Option (List ℕ)) (r : Result Bool RunError) (status : ℕ) → (lent ≡ now → final ≡ new) → TellsCheck coming (named_contents lent old) (named_contents now new) r →
    MatchResult r (λ failed. status ≡ failed_status failed) (λ e. IsToldAs (run_status e) status) → EndsCheck coming old final status
check-ends lent now coming old new final r status ends told is = (r, check-back lent now coming old new final r ends told, is)

pub run-ends : (IsAnswer : Recording → List ℕ → Type 0) (IsFault : Option Coming → RunError → Type 0) (lent now : ℕ) (coming : Option Coming) (old new final : Option (List ℕ)) (r : Result (Unit {0}) RunError) (status : ℕ) →
    (lent ≡ now → final ≡ new) → Runs IsAnswer IsFault coming (named_contents lent old) (named_contents now new) r →
    MatchResult r (λ u. status ≡ 0) (λ e. IsToldAs (run_status e) status) → EndsAs (Runs IsAnswer IsFault coming old final) (λ u. 0) run_status status
run-ends A F lent now coming old new final r status ends told is = (r, runs-back A F lent now coming old new final r ends told, is)

-- What is told of a run, told by other words for what it is told of.
pub run-told : (IsAnswer : Recording → List ℕ → Type 0) (IsFault : Option Coming → RunError → Type 0) (coming came : Option Coming) (old held : Option (List ℕ)) (new left : Option (List ℕ)) (r s : Result (Unit {0}) RunError) →
    Runs IsAnswer IsFault coming old new r → coming ≡ came → old ≡ held → new ≡ left → r ≡ s → Runs IsAnswer IsFault came held left s
run-told A F coming came old held new left r s told same-coming same-old same-new same-result =
    subst (λ x. Runs A F came held left x) same-result
    (subst (λ x. Runs A F came held x r) same-new (subst (λ x. Runs A F came x new r) same-old (subst (λ x. Runs A F x old new r) same-coming told)))

-- ---- A stream

writes-back : (P : Recording → Type 0) (Q : Recording → List ℕ → Type 0) (lent now : ℕ) (old new final : Option (List ℕ)) → (lent ≡ now → final ≡ new) → Writes P Q (named_contents lent old) (named_contents now new) → Writes P Q old final
writes-back P Q lent now old new final ends w =
    record { trace = w.trace; come = w.come; text = w.text; right = w.right; out = appends-back lent now old new final w.text ends w.out }

first-back : (P : Recording → Type 0) (Q : Recording → List ℕ → Type 0) (lent now : ℕ) (old new final : Option (List ℕ)) (written : ℕ) → (lent ≡ now → final ≡ new) → WritesFirst P Q (named_contents lent old) (named_contents now new) written → WritesFirst P Q old final written
first-back P Q lent now old new final written ends w =
    record { trace = w.trace; come = w.come; text = w.text; right = w.right; out = appends-back lent now old new final (take written w.text) ends w.out; within = w.within }

streams-back : (run : SourceRun) (lent now : ℕ) (old new final : Option (List ℕ)) (r : Result (Unit {0}) StreamError) → (lent ≡ now → final ≡ new) → Streams run (named_contents lent old) (named_contents now new) r → Streams run old final r
streams-back run lent now old new final (Ok u) ends w = writes-back _ _ lent now old new final ends w
streams-back run lent now old new final (Err (streams.Source e)) ends (inl w) = inl (keeps-back lent now old new final ends w.0, w.1)
streams-back run lent now old new final (Err (streams.Source e)) ends (inr w) = inr (writes-back _ _ lent now old new final ends w)
streams-back run lent now old new final (Err streams.OutOfMemory) ends (inl w) = inl (keeps-back lent now old new final ends w.0, w.1)
streams-back run lent now old new final (Err streams.OutOfMemory) ends (inr w) = inr (writes-back _ _ lent now old new final ends w)
streams-back run lent now old new final (Err (streams.Write n)) ends (inl w) = inl (first-back _ _ lent now old new final n ends w)
streams-back run lent now old new final (Err (streams.Write n)) ends (inr w) = inr (first-back _ _ lent now old new final n ends w)

pub stream-of : (run : SourceRun) (coming : Option Coming) (old new : Option (List ℕ)) (r : Result (Unit {0}) StreamError) → Streams run old new r → run.coming ≡ coming → StreamsOf coming old new r
stream-of run coming old new r told same = (run, same, told)

pub stream-ends : (lent now : ℕ) (coming : Option Coming) (old new final : Option (List ℕ)) (r : Result (Unit {0}) StreamError) (status : ℕ) → (lent ≡ now → final ≡ new) →
    StreamsOf coming (named_contents lent old) (named_contents now new) r → MatchResult r (λ u. status ≡ 0) (λ e. IsToldAs (run_status (stream_fault e)) status) → EndsStream coming old final status
stream-ends lent now coming old new final r status ends told is = (r, (told.0, told.1, streams-back told.0 lent now old new final r ends told.2), is)

-- ---- A run that memory was refused to before it began

keeps-same : (known : Option (List ℕ)) → Keeps known known
keeps-same None = tt
keeps-same (Some bytes) = refl

pub check-refused : (coming : Option Coming) (known : Option (List ℕ)) (r : Result ℕ Fault) → r ≡ Err faults.OutOfMemory → EndsCheck coming known known (end_status r)
check-refused coming known r is = subst (λ x. EndsCheck coming known known (end_status x)) (sym is) (Err OutOfMemory, (tt, keeps-same known), inl refl)

pub run-refused : (IsAnswer : Recording → List ℕ → Type 0) (IsFault : Option Coming → RunError → Type 0) (coming : Option Coming) (known : Option (List ℕ)) (r : Result ℕ Fault) → r ≡ Err faults.OutOfMemory → IsFault coming OutOfMemory →
    EndsAs (Runs IsAnswer IsFault coming known known) (λ u. 0) run_status (end_status r)
run-refused A F coming known r is may =
    subst (λ x. EndsAs (Runs A F coming known known) (λ u. 0) run_status (end_status x)) (sym is) (Err OutOfMemory, (may, keeps-same known), inl refl)

pub stream-refused : (coming : Option Coming) (known : Option (List ℕ)) (r : Result ℕ Fault) → r ≡ Err faults.OutOfMemory → EndsStream coming known known (end_status r)
stream-refused coming known r is =
    subst (λ x. EndsStream coming known known (end_status x)) (sym is)
    (Err streams.OutOfMemory, (record { coming = coming; before = 0; after = 0; format = None }, refl, inl (keeps-same known, refl)), inl refl)
