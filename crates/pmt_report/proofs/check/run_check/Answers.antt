use Rattle.std.proofs.Common.{arith, length, refl}
use Rattle.std.proofs.lemmas.Grind.{elements}
use Rattle.pmt_text.specs.Counting.{inner_device}
use Rattle.pmt_tables.specs.Flags.{marked_from}
use Rattle.pmt_report.specs.Checks.{IsCheckOf}
use Rattle.pmt_report.specs.Reports.{report}
use Rattle.pmt_report.specs.Runs.{coming_from_reader}
use Rattle.pmt_report.proofs.RunLemmas.{check-told}
use Rattle.pmt_report.proofs.check.run_check.Goals as goal

pub returns-in-Ok-clause-told : goal.returns-in-Ok-clause-told
returns-in-Ok-clause-told g c =
    let coming = coming_from_reader (g.R.Read.remaining (inner_device c.args.reader)) in
    let told : IsCheckOf coming c.in-Ok.checked = rw c.in-Ok.is at c.checked-reader.ensures.right in
    let swept = c.in-Ok.checked.swept in
    check-told coming (g.W.Write.contents (inner_device c.args.writer.now)) (g.W.Write.contents (inner_device c.write_found-done.new.writer)) told.0 c.in-Ok.checked
    (report c.in-Ok.checked.events swept.lines swept.findings.items swept.verdicts.items (length (marked_from 0 swept.kept.items))) c.is_failed.result told.1 told.2
    refl c.is_failed.ensures c.write_found-done.result c.answered.result c.write_found-done.ensures.written c.answered.ensures.same c.answered.ensures.answer

pub returns-in-Ok-clause-unread : goal.returns-in-Ok-clause-unread
returns-in-Ok-clause-unread g c = grind (arith, elements)

pub returns-in-Ok-clause-read_failures : goal.returns-in-Ok-clause-read_failures
returns-in-Ok-clause-read_failures g c = grind (arith, elements)

pub returns-in-Ok-clause-write_failures : goal.returns-in-Ok-clause-write_failures
returns-in-Ok-clause-write_failures g c = grind (arith, elements)
