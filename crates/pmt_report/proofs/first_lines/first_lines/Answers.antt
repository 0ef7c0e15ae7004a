use Rattle.std.proofs.Common.{◌≡◌, ◌<◌, Err, length, sym, subst, arith, rules}
use Rattle.std.proofs.lemmas.Grind.{elements}
use Rattle.pmt_laws.specs.Prelude.{empty, with_event, Layout, IsEventIn}
use Rattle.pmt_taking.specs.declared.taking.TakeError.TheVariants.{OutOfMemory}
use Rattle.pmt_taking.specs.Sourcing.{shown_by}
use Rattle.pmt_taking.proofs.GrownLemmas.{length-grown}
use Rattle.pmt_taking.proofs.SourceRunLemmas.{counts-refused, so_far-more, so_far-none, so_far-full, so_far-ended}
use Rattle.pmt_report.proofs.first_lines.first_lines.Goals as goal

pub first-init : goal.first-init
first-init g c =
    let source = g.S.EventSource in
    let shown = shown_by source.coming source.state source.known_format source.failures source.room in
    let said = c.in_ok-format.ensures in (
      empty c.in_ok-format.format,
      so_far-none (shown c.args.source.now) (shown c.format.new.self) c.in_ok-format.format said.taken said.told said.known said.failures (g.met.S.EventSource.few c.format.new.self),
      c.new-lines.ensures,
      omega (arith, c.new-lines.ensures.counted),
      said.within,
    )

pub take-requires-clause-taking : goal.take-requires-clause-taking
take-requires-clause-taking g c = (c.first.invariant.0, c.first.invariant.2)

pub take-requires-clause-room : goal.take-requires-clause-room
take-requires-clause-room g c =
    let fewer = rw c.in-Some.is at c.in_ok-event.ensures.room in
    omega (arith, fewer, c.first.invariant.1.roomy, c.first.invariant.2.counted)

pub take-requires-clause-known : goal.take-requires-clause-known
take-requires-clause-known g c =
    let T = c.first.invariant.0 in
    let given = rw c.in-Some.is at c.in_ok-event.ensures.in_format in
    let kept = rw c.first.invariant.1.in_format at c.in_ok-event.ensures.kept in
    subst (λ (f : Layout). IsEventIn f c.in-Some.event) (sym c.first.invariant.2.format) (rw kept at given)

pub first-preserved : goal.first-preserved
first-preserved g c =
    let source = g.S.EventSource in
    let shown = shown_by source.coming source.state source.known_format source.failures source.room in
    let T = c.first.invariant.0 in
    let said = c.in_ok-event.ensures in
    let taken = rw c.in-Some.is at said.taken in
    let told = rw c.in-Some.is at said.told in
    let counted = rw c.in-Some.is at said.failures in
    let fewer = rw c.in-Some.is at said.room in
    let lines = c.in_ok-take-in-Some.ensures T c.first.invariant.2 in (
      with_event T c.in-Some.event,
      so_far-more (shown c.args.source.now) (shown c.first.source) (shown c.next.new.self) T c.in-Some.event c.first.invariant.1 taken told said.kept counted fewer,
      lines,
      omega (arith, lines.counted, length-grown T c.in-Some.event, c.first.invariant.2.counted, c.first-test.true),
      (λ bytes read. said.within bytes (c.first.invariant.4 bytes read)),
    )

pub returns-clause-first : goal.returns-clause-first
returns-clause-first g c =
    let source = g.S.EventSource in
    let shown = shown_by source.coming source.state source.known_format source.failures source.room in
    let T = c.first.invariant.0 in
    let full : length T.events ≡ c.args.most = omega (arith, c.first-test.false, c.first.invariant.2.counted, c.first.invariant.3) in
    record { trace = T; known = c.first.invariant.2; first = so_far-full c.args.most (shown c.args.source.now) (shown c.first.source) T c.first.invariant.1 full }

pub returns-in-None-clause-first : goal.returns-in-None-clause-first
returns-in-None-clause-first g c =
    let source = g.S.EventSource in
    let shown = shown_by source.coming source.state source.known_format source.failures source.room in
    let T = c.first.invariant.0 in
    let said = c.in_ok-event.ensures in
    let taken = rw c.in-None.is at said.taken in
    let told = rw c.in-None.is at said.told in
    let fewer : length T.events < c.args.most = omega (arith, c.first-test.true, c.first.invariant.2.counted) in
    record { trace = T; known = c.first.invariant.2; first = so_far-ended c.args.most (shown c.args.source.now) (shown c.first.source) (shown c.next.new.self) T c.first.invariant.1 fewer taken told }

pub returns-in_err-take-in-Some-clause-failures : goal.returns-in_err-take-in-Some-clause-failures
returns-in_err-take-in-Some-clause-failures g c =
    let reads = g.S.EventSource.failures in
    let counted = rw c.in-Some.is at c.in_ok-event.ensures.failures in
    let refused : c.from_residual-in_err-take-in-Some.result ≡ Err OutOfMemory = search rules in
    counts-refused (reads c.args.source.now) (reads c.first.source) (reads c.next.new.self) _ _ c.first.invariant.1.same_reads counted refused

pub first-smaller : goal.first-smaller
first-smaller g c = grind (arith, elements)

pub returns-in-None-clause-failures : goal.returns-in-None-clause-failures
returns-in-None-clause-failures g c = grind (arith, elements)

pub returns-clause-failures : goal.returns-clause-failures
returns-clause-failures g c = grind (arith, elements)
