use Rattle.std.proofs.Common.{◌<◌, arith}
use Rattle.pmt_taking.proofs.GrownLemmas.{length-grown}
use Rattle.pmt_lines.proofs.TakeLemmas.{end_before, fences_before, flush-taken}
use Rattle.pmt_lines.proofs.splitter.Splitter.take_flush.Goals as goal

pub take_on_line-requires-clause-later : goal.take_on_line-requires-clause-later
take_on_line-requires-clause-later c =
    let s = c.args.self.now in
    let before = c.requires.taking.1 in
    end_before c.requires.taking.0 s.lines.keys s.jobs.items s.open_flushes s.fences _ (omega (arith, before.taken)) before.so_far

pub push-requires-clause-later : goal.push-requires-clause-later
push-requires-clause-later c =
    let s = c.args.self.now in
    let before = c.requires.taking.1 in
    fences_before c.requires.taking.0 s.lines.keys s.jobs.items s.open_flushes s.fences _ (omega (arith, before.taken)) before.so_far

pub returns : goal.returns
returns c = λ T e thread is before.
    let s = c.args.self.now in
    let few : c.args.thread < 256 = omega arith in
    record {
      format = before.format;
      taken = omega (arith, before.taken, length-grown T e);
      so_far = rw (c.in_ok-add.ensures, c.in_ok-push.ensures.ok)
          (flush-taken T e s.lines.keys s.jobs.items s.open_flushes s.fences before.so_far c.args.line c.args.thread _ _ _ _ c.in_ok-place.ensures (omega (arith, before.taken)) few thread is);
    }
