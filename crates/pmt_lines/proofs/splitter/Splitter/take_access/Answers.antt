use Rattle.std.proofs.Common.{arith}
use Rattle.pmt_taking.proofs.GrownLemmas.{length-grown}
use Rattle.pmt_lines.proofs.TakeLemmas.{end_before, access-taken}
use Rattle.pmt_lines.proofs.splitter.Splitter.take_access.Goals as goal

pub take_on_line-requires-clause-later : goal.take_on_line-requires-clause-later
take_on_line-requires-clause-later c =
    let s = c.args.self.now in
    let before = c.requires.taking.1 in
    end_before c.requires.taking.0 s.lines.keys s.jobs.items s.open_flushes s.fences _ (omega (arith, before.taken)) before.so_far

pub returns : goal.returns
returns c = λ T e thread is before.
    let s = c.args.self.now in
    record {
      format = before.format;
      taken = omega (arith, before.taken, length-grown T e);
      so_far = access-taken T e s.lines.keys s.jobs.items s.open_flushes s.fences before.so_far c.args.line _ _ _ _ c.in_ok-take_on_line.ensures (omega (arith, before.taken)) thread is;
    }
