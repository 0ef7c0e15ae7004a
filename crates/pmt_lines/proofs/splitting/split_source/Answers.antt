use Rattle.std.proofs.Common.{arith, ◌≡◌, Err, rules}
use Rattle.std.proofs.lemmas.Grind.{elements}
use Rattle.pmt_taking.specs.declared.taking.TakeError.TheVariants.{OutOfMemory}
use Rattle.pmt_taking.specs.Sourcing.{shown_by}
use Rattle.pmt_taking.proofs.SourceRunLemmas.{counts-refused, so_far-more, so_far-none, so_far-all}
use Rattle.pmt_lines.proofs.splitting.split_source.Goals as goal

pub all-init : goal.all-init
all-init g c =
    let source = g.S.EventSource in
    let shown = shown_by source.coming source.state source.known_format source.failures source.room in
    let said = c.in_ok-format.ensures in (
      rw c.new_with-trace.ensures
          (so_far-none (shown c.args.source.now) (shown c.format.new.self) c.in_ok-format.format said.taken said.told said.known said.failures (g.met.S.EventSource.few c.format.new.self)),
      rw c.new_with-trace.ensures c.in_ok-splitter.ensures,
    )

pub all-preserved : goal.all-preserved
all-preserved g c =
    let source = g.S.EventSource in
    let shown = shown_by source.coming source.state source.known_format source.failures source.room in
    let said = c.in_ok-event.ensures in
    let taken = rw c.in-Some.is at said.taken in
    let told = rw c.in-Some.is at said.told in
    let counted = rw c.in-Some.is at said.failures in
    let fewer = rw c.in-Some.is at said.room in (
      rw c.in_ok-take_into-in-Some.ensures.trace
          (so_far-more (shown c.args.source.now) (shown c.all.source) (shown c.next.new.self) c.all.trace c.in-Some.event c.all.invariant.0 taken told said.kept counted fewer),
      c.in_ok-take_into-in-Some.ensures.taken,
    )

pub returns-in-None-clause-whole : goal.returns-in-None-clause-whole
returns-in-None-clause-whole g c =
    let source = g.S.EventSource in
    let shown = shown_by source.coming source.state source.known_format source.failures source.room in
    let said = c.in_ok-event.ensures in
    let taken = rw c.in-None.is at said.taken in
    let told = rw c.in-None.is at said.told in
    rw c.finish.ensures.trace (so_far-all (shown c.args.source.now) (shown c.all.source) (shown c.next.new.self) c.all.trace c.all.invariant.0 taken told).0

pub returns-in-None-clause-told : goal.returns-in-None-clause-told
returns-in-None-clause-told g c =
    let source = g.S.EventSource in
    let shown = shown_by source.coming source.state source.known_format source.failures source.room in
    let said = c.in_ok-event.ensures in
    let taken = rw c.in-None.is at said.taken in
    let told = rw c.in-None.is at said.told in
    (so_far-all (shown c.args.source.now) (shown c.all.source) (shown c.next.new.self) c.all.trace c.all.invariant.0 taken told).1

pub returns-in_err-take_into-in-Some-clause-failures : goal.returns-in_err-take_into-in-Some-clause-failures
returns-in_err-take_into-in-Some-clause-failures g c =
    let reads = g.S.EventSource.failures in
    let counted = rw c.in-Some.is at c.in_ok-event.ensures.failures in
    let refused : c.from_residual-in_err-take_into-in-Some.result ≡ Err OutOfMemory = search rules in
    counts-refused (reads c.args.source.now) (reads c.all.source) (reads c.next.new.self) _ _ c.all.invariant.0.same_reads counted refused

pub take_into-requires-clause-room : goal.take_into-requires-clause-room
take_into-requires-clause-room g c = grind (arith, elements)

pub take_into-requires-clause-known : goal.take_into-requires-clause-known
take_into-requires-clause-known g c = grind (arith, elements)
