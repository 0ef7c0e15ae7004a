-- At each return, the format whose header the line is.
use Rattle.std.proofs.Common.{codes, sym, ◌∙◌, ap}
use Rattle.pmt_text.specs.Coming.{format_in}
use Rattle.pmt_text.proofs.WordLemmas.{is_text, no_text, format_in-first, format_in-32, format_in-64, format_in-128, format_in-256, format_in-other}
use Rattle.pmt_text.proofs.header.judge_header.Goals as goal

pub returns-then-eq : goal.returns-then-eq
returns-then-eq c =
    let same = is_text c.args.line.now c.as_slice.result.now (codes "pmtrace 1") c.eq.result c.eq.ensures c.as_slice.ensures c.if-eq.true in
    let judged = sym (ap format_in same ∙ format_in-first) in
    cc

pub returns-then-eq-2 : goal.returns-then-eq-2
returns-then-eq-2 c =
    let same = is_text c.args.line.now c.as_slice-2.result.now (codes "pmtrace 2 32") c.eq-2.result c.eq-2.ensures c.as_slice-2.ensures c.if-eq-2.true in
    let judged = sym (ap format_in same ∙ format_in-32) in
    cc

pub returns-then-eq-3 : goal.returns-then-eq-3
returns-then-eq-3 c =
    let same = is_text c.args.line.now c.as_slice-3.result.now (codes "pmtrace 2 64") c.eq-3.result c.eq-3.ensures c.as_slice-3.ensures c.if-eq-3.true in
    let judged = sym (ap format_in same ∙ format_in-64) in
    cc

pub returns-then-eq-4 : goal.returns-then-eq-4
returns-then-eq-4 c =
    let same = is_text c.args.line.now c.as_slice-4.result.now (codes "pmtrace 2 128") c.eq-4.result c.eq-4.ensures c.as_slice-4.ensures c.if-eq-4.true in
    let judged = sym (ap format_in same ∙ format_in-128) in
    cc

pub returns-then-eq-5 : goal.returns-then-eq-5
returns-then-eq-5 c =
    let same = is_text c.args.line.now c.as_slice-5.result.now (codes "pmtrace 2 256") c.eq-5.result c.eq-5.ensures c.as_slice-5.ensures c.if-eq-5.true in
    let judged = sym (ap format_in same ∙ format_in-256) in
    cc

pub returns : goal.returns
returns c = format_in-other c.args.line.now
    (no_text c.args.line.now c.as_slice.result.now (codes "pmtrace 1") c.eq.result c.eq.ensures c.as_slice.ensures c.if-eq.false)
    (no_text c.args.line.now c.as_slice-2.result.now (codes "pmtrace 2 32") c.eq-2.result c.eq-2.ensures c.as_slice-2.ensures c.if-eq-2.false)
    (no_text c.args.line.now c.as_slice-3.result.now (codes "pmtrace 2 64") c.eq-3.result c.eq-3.ensures c.as_slice-3.ensures c.if-eq-3.false)
    (no_text c.args.line.now c.as_slice-4.result.now (codes "pmtrace 2 128") c.eq-4.result c.eq-4.ensures c.as_slice-4.ensures c.if-eq-4.false)
    (no_text c.args.line.now c.as_slice-5.result.now (codes "pmtrace 2 256") c.eq-5.result c.eq-5.ensures c.as_slice-5.ensures c.if-eq-5.false)
