use Rattle.std.proofs.Common.{◌<◌, length, arith}
use Rattle.std.proofs.lemmas.Grind.{elements}
use Rattle.pmt_taking.specs.Sourcing.{LeavesRest, shown_by}
use Rattle.pmt_taking.proofs.SourceRunLemmas.{BlockSoFar, block-more, block-ready, block-ended, event-leaves, refused-leaves, still-leaves}
use Rattle.pmt_taking.proofs.taking.take_block.Goals as goal

pub block-preserved : goal.block-preserved
block-preserved g c =
    let source = g.S.EventSource in
    let shown = shown_by source.coming source.state source.known_format source.failures source.room in
    let said = c.in_ok-event.ensures in
    let taken = rw c.in-Some.is at said.taken in
    let told = rw c.in-Some.is at said.told in
    let counted = rw c.in-Some.is at said.failures in
    let fewer = rw c.in-Some.is at said.room in
    let within : length c.block.block.events < c.args.most = omega (arith, c.block-test.true, c.len.ensures.value) in
    let one : BlockSoFar c.args.most (shown c.args.source.now) (shown c.next.new.self) c.add.new.trace = rw c.in_ok-add-in-Some.ensures.added
    (block-more c.args.most (shown c.args.source.now) (shown c.block.source) (shown c.next.new.self) c.block.block c.in-Some.event within c.block.invariant.block taken told said.kept counted fewer) in
    let ready = c.in_ok-take_ready-2.ensures in
    record {
      block = block-ready c.args.most (shown c.args.source.now) (shown c.next.new.self) (shown c.take_ready-in-block.new.self) (source.lent c.take_ready-in-block.new.self) c.add.new.trace c.take_ready-in-block.new.trace one ready.taken ready.few ready.room ready.state ready.format ready.failures;
      within = λ first read. c.take_ready-in-block.ensures.within first (said.within first (c.block.invariant.within first read));
    }

pub returns-in-None-clause-block : goal.returns-in-None-clause-block
returns-in-None-clause-block g c =
    let source = g.S.EventSource in
    let shown = shown_by source.coming source.state source.known_format source.failures source.room in
    let said = c.in_ok-event.ensures in
    let taken = rw c.in-None.is at said.taken in
    let told = rw c.in-None.is at said.told in
    let same = rw c.in-None.is at said.room in
    let fewer : length c.block.block.events < c.args.most = omega (arith, c.block-test.true, c.len.ensures.value) in
    block-ended c.args.most (shown c.args.source.now) (shown c.block.source) (shown c.next.new.self) c.block.block fewer c.block.invariant.block taken told said.kept same

pub returns-in_err-add-in-Some-clause-rest : goal.returns-in_err-add-in-Some-clause-rest
returns-in_err-add-in-Some-clause-rest g c =
    let source = g.S.EventSource in
    let shown = shown_by source.coming source.state source.known_format source.failures source.room in
    let said = c.in_ok-event.ensures in
    let taken = rw c.in-Some.is at said.taken in
    let fewer = rw c.in-Some.is at said.room in
    let within : length c.block.block.events < c.args.most = omega (arith, c.block-test.true, c.len.ensures.value) in
    let left : LeavesRest c.args.most (shown c.args.source.now) (shown c.next.new.self) =
    event-leaves c.args.most (shown c.args.source.now) (shown c.block.source) (shown c.next.new.self) c.block.block c.in-Some.event within c.block.invariant.block taken fewer in
    refused-leaves c.args.most (shown c.args.source.now) (shown c.next.new.self) c.from_residual-in_err-add-in-Some.result left

pub returns-in_err-take_ready-2-clause-rest : goal.returns-in_err-take_ready-2-clause-rest
returns-in_err-take_ready-2-clause-rest g c =
    let source = g.S.EventSource in
    let shown = shown_by source.coming source.state source.known_format source.failures source.room in
    let said = c.in_ok-event.ensures in
    let taken = rw c.in-Some.is at said.taken in
    let fewer = rw c.in-Some.is at said.room in
    let within : length c.block.block.events < c.args.most = omega (arith, c.block-test.true, c.len.ensures.value) in
    let left : LeavesRest c.args.most (shown c.args.source.now) (shown c.next.new.self) =
    event-leaves c.args.most (shown c.args.source.now) (shown c.block.source) (shown c.next.new.self) c.block.block c.in-Some.event within c.block.invariant.block taken fewer in
    let refused = c.in_err-take_ready-2.ensures in
    refused-leaves c.args.most (shown c.args.source.now) (shown c.take_ready-in-block.new.self) c.from_residual-in_err-take_ready-2.result
    (still-leaves c.args.most (shown c.args.source.now) (shown c.next.new.self) (shown c.take_ready-in-block.new.self) left refused.refused refused.refused_room)

pub format-requires : goal.format-requires
format-requires g c = grind (arith, elements)

pub add-requires-clause-room : goal.add-requires-clause-room
add-requires-clause-room g c = grind (arith, elements)

pub take_ready-requires-in-block-clause-roomy : goal.take_ready-requires-in-block-clause-roomy
take_ready-requires-in-block-clause-roomy g c = grind (arith, elements)

pub block-smaller : goal.block-smaller
block-smaller g c = grind (arith, elements)
