use Rattle.std.proofs.Common.{◌≡◌, Ok, Err, refl, rules}
use Rattle.pmt_text.specs.Counting.{inner_device}
use Rattle.pmt_trimming.specs.Streaming.{IsTextOfTrimmed}
use Rattle.pmt_report.specs.Runs.{IsAnalysisFault, Runs, coming_from_reader}
use Rattle.command_inputs.specs.declared.fault.Fault.TheVariants.{OutOfMemory}
use Rattle.command_inputs.specs.Devices.{named_contents, recalled_device}
use Rattle.pmtrim.proofs.EndLemmas.{run-ends, run-refused, run-told}
use Rattle.pmtrim.proofs.trace_run.trim_reader.Goals as goal

pub returns-in-Ok-clause-ends : goal.returns-in-Ok-clause-ends
returns-in-Ok-clause-ends g c =
    let held = g.W.Write.contents in
    let lent = (recalled_device (inner_device c.counted-writer.result)).ghost_name in
    let coming = coming_from_reader (g.R.Read.remaining c.args.reader) in
    let now = c.uncounted-out.result.0 in
    let old = c.args.out.now in
    let told : Runs IsTextOfTrimmed IsAnalysisFault coming (named_contents lent (held old)) (named_contents now.ghost_name (held now.now)) (Ok tt) = search rules in
    run-ends IsTextOfTrimmed IsAnalysisFault lent now.ghost_name coming (held old) (held now.now) _ (Ok tt) 0 (search rules) told refl

pub returns-in-Err-clause-ends : goal.returns-in-Err-clause-ends
returns-in-Err-clause-ends g c =
    let held = g.W.Write.contents in
    let lent = (recalled_device (inner_device c.counted-writer.result)).ghost_name in
    let coming = coming_from_reader (g.R.Read.remaining c.args.reader) in
    let now = c.uncounted-out.result.0 in
    let old = c.args.out.now in
    let told : Runs IsTextOfTrimmed IsAnalysisFault coming (named_contents lent (held old)) (named_contents now.ghost_name (held now.now)) (Err c.in-Err.error) =
    run-told IsTextOfTrimmed IsAnalysisFault _ coming _ (named_contents lent (held old)) _ (named_contents now.ghost_name (held now.now)) _ (Err c.in-Err.error) c.run_trim-reader.ensures.runs (search rules) (search rules) (search rules) (search rules) in
    run-ends IsTextOfTrimmed IsAnalysisFault lent now.ghost_name coming (held old) (held now.now) _ (Err c.in-Err.error) _ (search rules) told c.run_fault.ensures

pub returns-in_err-reader-clause-ends : goal.returns-in_err-reader-clause-ends
returns-in_err-reader-clause-ends g c =
    let coming = coming_from_reader (g.R.Read.remaining c.args.reader) in
    let refused : c.from_residual.result ≡ Err OutOfMemory = search rules in
    run-refused IsTextOfTrimmed IsAnalysisFault coming (g.W.Write.contents c.args.out.now) c.from_residual.result refused tt
