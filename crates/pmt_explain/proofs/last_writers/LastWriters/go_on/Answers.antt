use Rattle.std.proofs.Common.{◌≡◌, ◌+◌, ◌<◌, length, Some, ap, sym, ◌∙◌, arith}
use Rattle.std.specs.Prelude.{slice_get}
use Rattle.std.proofs.lemmas.Option.{slice_get-get_or}
use Rattle.pmt_explain.proofs.WriterLemmas.{written-next}
use Rattle.pmt_explain.proofs.last_writers.LastWriters.go_on.Goals as goal

pub loop-index-preserved : goal.loop-index-preserved
loop-index-preserved c =
    let T = c.args.trace.now in
    let i = c.loop-index.index in
    let es = c.events-events.result.now in
    let e = c.index-events-index.result in
    let size : length c.events-events.result.now ≡ length T.events = ap (λ xs. length xs) c.events-events.ensures.value in
    let within : c.loop-index.index < length c.events-events.result.now = omega (arith, size, c.requires.within) in
    let at : slice_get T.events i ≡ Some e = ap (λ xs. slice_get xs i) (sym c.events-events.ensures.value) ∙ slice_get-get_or es i e within ∙ ap Some (sym c.index-events-index.is) in
    record {
      written = written-next T i (c.loop-index.index + 1) c.loop-index.self.low c.loop-index.self.high e c.loop-index.self.blocks c.note_op.new.blocks (omega arith) at (omega arith) c.in_ok-note_op.ensures c.loop-index.invariant.written;
      from = omega (arith, c.loop-index.invariant.from);
      upto = omega arith;
      low = c.loop-index.invariant.low;
      high = c.loop-index.invariant.high;
    }
