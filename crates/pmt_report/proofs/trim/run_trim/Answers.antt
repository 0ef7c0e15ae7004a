use Rattle.std.proofs.Common.{◌≡◌, ℕ, ◌+◌, Err, sym, ap, ◌∙◌, arith, rules}
use Rattle.std.specs.Prelude.{not}
use Rattle.pmt_text.specs.Counting.{failure_count}
use Rattle.pmt_report.specs.declared.fault.RunError.{RunError}
use Rattle.pmt_trimming.specs.Streaming.{IsTextOfTrimmed}
use Rattle.pmt_report.specs.Runs.{IsAnalysisFault, tells_workers, write_faults}
use Rattle.pmt_report.proofs.RunLemmas.{fault-untold, fault-unwritten, never-told, runs-written, text-computed, written-unread, written-untold}
use Rattle.pmt_report.proofs.trim.run_trim.Goals as goal

pub returns-in-Ok-clause-runs : goal.returns-in-Ok-clause-runs
returns-in-Ok-clause-runs g c =
    let computed = text-computed _ _ c.in-Ok.text.items _ c.new-source.ensures.coming c.as_slice.ensures.value c.in-Ok.ensures.text in
    runs-written IsTextOfTrimmed IsAnalysisFault _ _ _ c.as_slice.result.now _ computed c.write_answer.ensures.written

pub returns-in-Ok-clause-workers : goal.returns-in-Ok-clause-workers
returns-in-Ok-clause-workers g c = written-untold _ _ c.as_slice.result.now c.write_answer.result c.write_answer.ensures.written ∙ ap not c.if-not-are_allowed.ensures

pub returns-in-Ok-clause-unread : goal.returns-in-Ok-clause-unread
returns-in-Ok-clause-unread g c = never-told _ (written-untold _ _ c.as_slice.result.now c.write_answer.result c.write_answer.ensures.written)

pub returns-in-Ok-clause-read_failures : goal.returns-in-Ok-clause-read_failures
returns-in-Ok-clause-read_failures g c =
    let before = failure_count c.args.reader in
    let kept : failure_count c.into_input-reader.result ≡ before + 0 = search rules in
    kept ∙ ap (λ (k : ℕ). before + k) (sym (written-unread _ _ c.as_slice.result.now c.write_answer.result c.write_answer.ensures.written))

pub returns-in-Ok-clause-write_failures : goal.returns-in-Ok-clause-write_failures
returns-in-Ok-clause-write_failures g c = c.write_answer.ensures.failures

pub returns-in-Err-Source-clause-workers : goal.returns-in-Err-Source-clause-workers
returns-in-Err-Source-clause-workers g c =
    ap (λ (e : RunError). tells_workers {A = Unit {0}} (Err e)) c.run_error.ensures ∙ fault-untold c.in-Err-Source.fault ∙ ap not c.if-not-are_allowed.ensures

pub returns-in-Err-Source-clause-unread : goal.returns-in-Err-Source-clause-unread
returns-in-Err-Source-clause-unread g c = never-told _ (ap (λ (e : RunError). tells_workers {A = Unit {0}} (Err e)) c.run_error.ensures ∙ fault-untold c.in-Err-Source.fault)

pub returns-in-Err-Source-clause-write_failures : goal.returns-in-Err-Source-clause-write_failures
returns-in-Err-Source-clause-write_failures g c =
    let before = failure_count c.args.writer.now in
    let none : write_faults {A = Unit {0}} (Err c.run_error.result) ≡ 0 = ap (λ (e : RunError). write_faults {A = Unit {0}} (Err e)) c.run_error.ensures ∙ fault-unwritten c.in-Err-Source.fault in
    omega (arith, none)
