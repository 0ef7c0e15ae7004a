use Rattle.std.proofs.Common.{List, ℕ, ap, subst, length, rules, arith}
use Rattle.std.proofs.lemmas.Grind.{elements}
use Rattle.std.specs.Io.KnownBytes.{Appends}
use Rattle.pmt_model.specs.Traces.{empty}
use Rattle.pmt_text.specs.Counting.{inner_device}
use Rattle.pmt_taking.specs.Sourcing.{shown_by}
use Rattle.pmt_taking.proofs.SourceRunLemmas.{so_far-none, so_far-more}
use Rattle.pmt_trimming.proofs.FlowEnds.{memory-streams, source-streams, rest-streams, rest-told, rest-counts, first-streams, event-in, piece-fits, piece-streams, flow-more, showed}
use Rattle.pmt_trimming.proofs.StreamLemmas.{lent-is}
use Rattle.pmt_trimming.proofs.streaming.trim_stream.Goals as goal

pub returns-in_default-take-clause-streams : goal.returns-in_default-take-clause-streams
returns-in_default-take-clause-streams g c =
    let more = rw c.in-Ok-Some.field-0-is at c.in-Ok-Some.ensures.given in
    memory-streams c.take.invariant.flow _ _ more _ _ _ _ c.close.ensures.kept c.close.ensures.told

pub returns-in-Err-next-clause-streams : goal.returns-in-Err-next-clause-streams
returns-in-Err-next-clause-streams g c =
    let said = c.in-Err-next.ensures in
    source-streams c.take.invariant.flow _ _ said.given said.kept _ _ _ c.in-Err-next.fault _ _ said.taken said.later_line said.told c.close-in-Err-next.ensures.kept c.close-in-Err-next.ensures.told

pub returns-in-Ok-None-clause-streams : goal.returns-in-Ok-None-clause-streams
returns-in-Ok-None-clause-streams g c =
    let f = c.take.invariant.flow in
    let taken = rw c.in-Ok-None.field-0-is at c.in-Ok-None.ensures.taken in
    let same = rw c.in-Ok-None.field-0-is at c.in-Ok-None.ensures.given in
    rest-streams f _ _ same _ _ taken.0 (c.write_rest.ensures.rest f.trace f.text f.stream)

pub returns-in-Ok-None-clause-told : goal.returns-in-Ok-None-clause-told
returns-in-Ok-None-clause-told g c =
    let f = c.take.invariant.flow in
    let told = rw c.in-Ok-None.field-0-is at c.in-Ok-None.ensures.told in
    rest-told f _ _ _ told (c.write_rest.ensures.rest f.trace f.text f.stream)

pub returns-in-Ok-None-clause-read_failures : goal.returns-in-Ok-None-clause-read_failures
returns-in-Ok-None-clause-read_failures g c =
    let f = c.take.invariant.flow in
    let counted = rw c.in-Ok-None.field-0-is at c.in-Ok-None.ensures.failures in
    rest-counts f _ _ _ counted (c.write_rest.ensures.rest f.trace f.text f.stream)

pub write_piece-requires-in-Ok-Some-clause-fits : goal.write_piece-requires-in-Ok-Some-clause-fits
write_piece-requires-in-Ok-Some-clause-fits g c =
    let f = c.take.invariant.flow in
    let said = c.in-Ok-Some.ensures in
    let fewer = rw c.in-Ok-Some.field-0-is at said.room in
    let given = rw c.in-Ok-Some.field-0-is at said.in_format in
    piece-fits f _ _ (event-in f _ _ said.kept given) fewer c.take-in-Ok-Some.new.self _ (c.in-Ok-take.ensures.out f.trace f.text f.stream.stream) c.text-in-Ok-Some.ensures

pub take-preserved : goal.take-preserved
take-preserved g c =
    let source = g.S.EventSource in
    let shown = shown_by source.coming source.state source.known_format source.failures source.room in
    let f = c.take.invariant.flow in
    let said = c.in-Ok-Some.ensures in
    let fewer = rw c.in-Ok-Some.field-0-is at said.room in
    let given = rw c.in-Ok-Some.field-0-is at said.in_format in
    let taken = rw c.in-Ok-Some.field-0-is at said.taken in
    let told = rw c.in-Ok-Some.field-0-is at said.told in
    let counted = rw c.in-Ok-Some.field-0-is at said.failures in
    let more = rw c.in-Ok-Some.field-0-is at said.given in
    let came = c.in-Ok-take.ensures in
    record {
      flow =
          flow-more f _ _ (event-in f _ _ said.kept given) fewer c.take-in-Ok-Some.new.self _ (came.out f.trace f.text f.stream.stream) c.text-in-Ok-Some.ensures _ more _ _ _ _ _ _ _
          (so_far-more _ _ (shown c.next.new.self) f.trace c.in-Ok-Some.event f.source taken told said.kept counted fewer) (came.stream f.trace f.text f.stream.stream)
          c.in-Ok-write_piece-2.ensures.written c.in-Ok-write_piece-2.ensures.failures;
      within = λ bytes read. said.within bytes (c.take.invariant.within bytes read);
    }

pub returns-in-Err-write_piece-2-clause-streams : goal.returns-in-Err-write_piece-2-clause-streams
returns-in-Err-write_piece-2-clause-streams g c =
    let f = c.take.invariant.flow in
    let said = c.in-Ok-Some.ensures in
    let fewer = rw c.in-Ok-Some.field-0-is at said.room in
    let given = rw c.in-Ok-Some.field-0-is at said.in_format in
    let taken = rw c.in-Ok-Some.field-0-is at said.taken in
    let more = rw c.in-Ok-Some.field-0-is at said.given in
    piece-streams f _ _ (event-in f _ _ said.kept given) fewer c.take-in-Ok-Some.new.self _ (c.in-Ok-take.ensures.out f.trace f.text f.stream.stream) c.text-in-Ok-Some.ensures _ _ more _ _
    c.in-Err-write_piece-2.fault taken c.in-Err-write_piece-2.ensures.written

pub returns-in-Err-write_piece-clause-streams : goal.returns-in-Err-write_piece-clause-streams
returns-in-Err-write_piece-clause-streams g c =
    let taken = c.in-Ok.ensures.taken in
    first-streams _ (g.S.EventSource.coming c.format.new.self) _ _ _ c.in-Ok.format _ _ c.in-Ok-new.stream.queue.text _ c.in-Err-write_piece.fault c.in-Ok.ensures.given taken.1 taken.0 c.in-Ok-new.ensures.out c.text.ensures
    c.in-Err-write_piece.ensures.written

pub take-init : goal.take-init
take-init g c =
    let source = g.S.EventSource in
    let shown = shown_by source.coming source.state source.known_format source.failures source.room in
    let first = showed (source.coming c.args.source.now) (source.state c.args.source.now) (source.failures c.args.source.now) in
    let said = c.in-Ok.ensures in
    let writes = c.in-Ok-write_piece.ensures.written in
    let size = ap length c.text.ensures in
    record {
      flow = record {
        trace = empty c.in-Ok.format;
        text = c.in-Ok-new.stream.queue.text;
        source = so_far-none first (shown c.format.new.self) c.in-Ok.format said.taken said.told said.known said.failures (g.met.S.EventSource.few c.format.new.self);
        given = (let none = c.in-Ok.ensures.given in omega (arith, none));
        stream = record { trace = search rules; stream = c.in-Ok-new.ensures.stream; out = c.in-Ok-new.ensures.out; many = omega (arith, size, writes.1) };
        out = subst (λ (bytes : List ℕ). Appends (g.W.Write.contents (inner_device c.args.out.now)) (g.W.Write.contents (inner_device c.write_piece.new.out)) bytes) c.text.ensures writes.0;
        unfailed = search rules;
      };
      within = said.within;
    }

pub take-requires-clause-line : goal.take-requires-clause-line
take-requires-clause-line g c =
    let lent = rw c.in-Ok-Some.field-0-is at c.in-Ok-Some.ensures.lent in
    lent-is c.in-Ok-Some.event _ _ lent c.last_line.ensures

pub take-requires-clause-room : goal.take-requires-clause-room
take-requires-clause-room g c =
    let f = c.take.invariant.flow in
    let fewer = rw c.in-Ok-Some.field-0-is at c.in-Ok-Some.ensures.room in
    let roomy = f.source.roomy in
    let all = f.stream.stream.pass.all in
    omega (arith, roomy, all, fewer)

pub take-requires-clause-stream : goal.take-requires-clause-stream
take-requires-clause-stream g c = let f = c.take.invariant.flow in (f.trace, f.text, f.stream.stream)

pub format-requires : goal.format-requires
format-requires g c = grind (arith, elements)

pub take-smaller : goal.take-smaller
take-smaller g c = grind (arith, elements)
