use Rattle.std.proofs.Common.{ℕ, subst}
use Rattle.pmt_laws.specs.Prelude.{Layout, empty}
use Rattle.pmt_taking.specs.Sourcing.{shown_by}
use Rattle.pmt_sweep.specs.Passing.{HasSwept}
use Rattle.pmt_report.specs.declared.checked.Taken.{Taken}
use Rattle.pmt_report.proofs.BlockLemmas.{first-block, fault-kept, told-kept, counts-kept}
use Rattle.pmt_report.proofs.checked.taken_whole.Goals as goal

pub take_others-requires-clause-fresh : goal.take_others-requires-clause-fresh
take_others-requires-clause-fresh g c = subst (λ (f : Layout). HasSwept (empty f) c.in_ok-sweeper.sweeper) c.format.ensures.value c.in_ok-sweeper.ensures

pub take_others-requires-clause-first : goal.take_others-requires-clause-first
take_others-requires-clause-first g c =
    let source = g.S.EventSource in
    let shown = shown_by source.coming source.state source.known_format source.failures source.room in
    let old = shown c.args.source.now in
    let said = c.in_ok-block.ensures in
    let known = first-block 1024 old (shown c.take_block.new.source) c.in_ok-block.block (g.met.S.EventSource.few c.args.source.now) said.block said.failures in
    (old, known)

pub returns-in-Ok-clause-taken : goal.returns-in-Ok-clause-taken
returns-in-Ok-clause-taken g c =
    let source = g.S.EventSource in
    let shown = shown_by source.coming source.state source.known_format source.failures source.room in
    let old = shown c.args.source.now in
    let said = c.in_ok-block.ensures in
    let known = first-block 1024 old (shown c.take_block.new.source) c.in_ok-block.block (g.met.S.EventSource.few c.args.source.now) said.block said.failures in
    let whole = c.in-Ok.ensures.taken old known in
    (whole.0, record { swept = whole.1; counted = whole.2 }, whole.3)

pub returns-in-Ok-clause-told : goal.returns-in-Ok-clause-told
returns-in-Ok-clause-told g c =
    let source = g.S.EventSource in
    let shown = shown_by source.coming source.state source.known_format source.failures source.room in
    let old = shown c.args.source.now in
    let said = c.in_ok-block.ensures in
    let known = first-block 1024 old (shown c.take_block.new.source) c.in_ok-block.block (g.met.S.EventSource.few c.args.source.now) said.block said.failures in
    c.in-Ok.ensures.told old known

pub returns-in-Ok-clause-failures : goal.returns-in-Ok-clause-failures
returns-in-Ok-clause-failures g c =
    let source = g.S.EventSource in
    let shown = shown_by source.coming source.state source.known_format source.failures source.room in
    let old = shown c.args.source.now in
    let said = c.in_ok-block.ensures in
    let known = first-block 1024 old (shown c.take_block.new.source) c.in_ok-block.block (g.met.S.EventSource.few c.args.source.now) said.block said.failures in
    c.in-Ok.ensures.failures old known

pub returns-in-Err-clause-fault : goal.returns-in-Err-clause-fault
returns-in-Err-clause-fault g c =
    let source = g.S.EventSource in
    let shown = shown_by source.coming source.state source.known_format source.failures source.room in
    let old = shown c.args.source.now in
    let said = c.in_ok-block.ensures in
    let known = first-block 1024 old (shown c.take_block.new.source) c.in_ok-block.block (g.met.S.EventSource.few c.args.source.now) said.block said.failures in
    fault-kept ℕ Taken old.coming c.in-Err.error (c.in-Err.ensures.fault old known)

pub returns-in-Err-clause-told : goal.returns-in-Err-clause-told
returns-in-Err-clause-told g c =
    let source = g.S.EventSource in
    let shown = shown_by source.coming source.state source.known_format source.failures source.room in
    let old = shown c.args.source.now in
    let said = c.in_ok-block.ensures in
    let known = first-block 1024 old (shown c.take_block.new.source) c.in_ok-block.block (g.met.S.EventSource.few c.args.source.now) said.block said.failures in
    told-kept ℕ Taken old.state _ c.in-Err.error (c.in-Err.ensures.told old known)

pub returns-in-Err-clause-failures : goal.returns-in-Err-clause-failures
returns-in-Err-clause-failures g c =
    let source = g.S.EventSource in
    let shown = shown_by source.coming source.state source.known_format source.failures source.room in
    let old = shown c.args.source.now in
    let said = c.in_ok-block.ensures in
    let known = first-block 1024 old (shown c.take_block.new.source) c.in_ok-block.block (g.met.S.EventSource.few c.args.source.now) said.block said.failures in
    counts-kept ℕ Taken old.failures _ c.in-Err.error (c.in-Err.ensures.failures old known)
