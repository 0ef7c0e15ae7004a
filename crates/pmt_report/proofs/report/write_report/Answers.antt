use Rattle.std.proofs.Common.{[], ◌++◌, refl, sym, ◌∙◌, append_assoc, append-nil, arith}
use Rattle.std.proofs.lemmas.Grind.{elements}
use Rattle.std.proofs.lemmas.List.{length-append}
use Rattle.pmt_text.specs.Counting.{inner_device}
use Rattle.pmt_report.specs.Reports.{entries, report_end}
use Rattle.pmt_report.proofs.ChunkLemmas.{is-report, report-ends, report-fails}
use Rattle.pmt_report.proofs.report.write_report.Goals as goal

pub put-requires-clause-text : goal.put-requires-clause-text
put-requires-clause-text g c =
    let known = g.W.Write.contents (inner_device c.args.writer.now) in
    (known, [], c.in-Ok.ensures known, omega arith)

pub returns-in-Err-clause-written : goal.returns-in-Err-clause-written
returns-in-Err-clause-written g c =
    let known = g.W.Write.contents (inner_device c.args.writer.now) in
    let head = c.spelled.result.now in
    let middle = entries c.args.findings.now c.args.verdicts.now in
    let last = report_end c.args.events c.args.kept in
    report-fails known _ head (middle ++ last) _ c.in-Err.fault (c.in-Err.ensures.put known [] (c.in-Ok.ensures known))
    (sym (append_assoc head middle last) ∙ is-report c.args.events c.args.lines c.args.kept c.args.findings.now c.args.verdicts.now head last (c.spelled.ensures.is ∙ c.spell_head-start.ensures.told) refl)

pub write_entries-requires-clause-text : goal.write_entries-requires-clause-text
write_entries-requires-clause-text g c =
    let known = g.W.Write.contents (inner_device c.args.writer.now) in
    (known, c.spelled.result.now, c.in_default-put.ensures.put known [] (c.in-Ok.ensures known), c.spelled.ensures.short)

pub returns-in-Err-write_entries-clause-written : goal.returns-in-Err-write_entries-clause-written
returns-in-Err-write_entries-clause-written g c =
    let known = g.W.Write.contents (inner_device c.args.writer.now) in
    let head = c.spelled.result.now in
    let middle = entries c.args.findings.now c.args.verdicts.now in
    let last = report_end c.args.events c.args.kept in
    let first = c.in_default-put.ensures.put known [] (c.in-Ok.ensures known) in
    report-fails known _ (head ++ middle) last _ c.in-Err-write_entries.fault (c.in-Err-write_entries.ensures.put known head c.spelled.ensures.short first)
    (is-report c.args.events c.args.lines c.args.kept c.args.findings.now c.args.verdicts.now head last (c.spelled.ensures.is ∙ c.spell_head-start.ensures.told) refl)

pub put-requires-2-clause-text : goal.put-requires-2-clause-text
put-requires-2-clause-text g c =
    let known = g.W.Write.contents (inner_device c.args.writer.now) in
    let head = c.spelled.result.now in
    let middle = entries c.args.findings.now c.args.verdicts.now in
    let first = c.in_default-put.ensures.put known [] (c.in-Ok.ensures known) in
    let long = length-append head middle in
    let short = c.spelled.ensures.short in
    let bound = c.in_default-write_entries.ensures.bound in
    (known, head ++ middle, c.in_default-write_entries.ensures.put known head short first, omega (arith, long, short, bound))

pub returns-in-Err-put-clause-written : goal.returns-in-Err-put-clause-written
returns-in-Err-put-clause-written g c =
    let known = g.W.Write.contents (inner_device c.args.writer.now) in
    let head = c.spelled.result.now in
    let middle = entries c.args.findings.now c.args.verdicts.now in
    let first = c.in_default-put.ensures.put known [] (c.in-Ok.ensures known) in
    let second = c.in_default-write_entries.ensures.put known head c.spelled.ensures.short first in
    let last = c.spelled-2.result.now in
    report-fails known _ (head ++ middle ++ last) [] _ c.in-Err-put.fault (c.in-Err-put.ensures.put known (head ++ middle) second)
    (append-nil (head ++ middle ++ last)
    ∙ is-report c.args.events c.args.lines c.args.kept c.args.findings.now c.args.verdicts.now head last (c.spelled.ensures.is ∙ c.spell_head-start.ensures.told) (c.spelled-2.ensures.is ∙ c.spell_end-start.ensures.told))

pub finish-requires-clause-text : goal.finish-requires-clause-text
finish-requires-clause-text g c =
    let known = g.W.Write.contents (inner_device c.args.writer.now) in
    let head = c.spelled.result.now in
    let middle = entries c.args.findings.now c.args.verdicts.now in
    let last = c.spelled-2.result.now in
    let first = c.in_default-put.ensures.put known [] (c.in-Ok.ensures known) in
    let second = c.in_default-write_entries.ensures.put known head c.spelled.ensures.short first in
    let long = length-append head middle in
    let longer = length-append (head ++ middle) last in
    let short = c.spelled.ensures.short in
    let end = c.spelled-2.ensures.short in
    let bound = c.in_default-write_entries.ensures.bound in
    (known, head ++ middle ++ last, c.in_default-put-2.ensures.put known (head ++ middle) second, omega (arith, long, longer, short, end, bound))

pub returns-clause-written : goal.returns-clause-written
returns-clause-written g c =
    let known = g.W.Write.contents (inner_device c.args.writer.now) in
    let head = c.spelled.result.now in
    let middle = entries c.args.findings.now c.args.verdicts.now in
    let last = c.spelled-2.result.now in
    let first = c.in_default-put.ensures.put known [] (c.in-Ok.ensures known) in
    let second = c.in_default-write_entries.ensures.put known head c.spelled.ensures.short first in
    let third = c.in_default-put-2.ensures.put known (head ++ middle) second in
    report-ends known _ (head ++ middle ++ last) _ _ (c.finish.ensures.written known (head ++ middle ++ last) third)
    (is-report c.args.events c.args.lines c.args.kept c.args.findings.now c.args.verdicts.now head last (c.spelled.ensures.is ∙ c.spell_head-start.ensures.told) (c.spelled-2.ensures.is ∙ c.spell_end-start.ensures.told))

pub put-requires-2-clause-writes : goal.put-requires-2-clause-writes
put-requires-2-clause-writes g c = grind (arith, elements)

pub returns-in-Err-put-clause-failures : goal.returns-in-Err-put-clause-failures
returns-in-Err-put-clause-failures g c = grind (arith, elements)

pub finish-requires-clause-writes : goal.finish-requires-clause-writes
finish-requires-clause-writes g c = grind (arith, elements)

pub returns-clause-failures : goal.returns-clause-failures
returns-clause-failures g c = grind (arith, elements)
