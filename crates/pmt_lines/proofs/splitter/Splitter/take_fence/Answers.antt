use Rattle.std.proofs.Common.{◌<◌, arith}
use Rattle.std.proofs.lemmas.Grind.{elements}
use Rattle.pmt_taking.proofs.GrownLemmas.{length-grown}
use Rattle.pmt_lines.proofs.TakeLemmas.{end_before, fences_before, fence-taken}
use Rattle.pmt_lines.proofs.splitter.Splitter.take_fence.Goals as goal

pub end_intervals-requires-clause-later : goal.end_intervals-requires-clause-later
end_intervals-requires-clause-later c =
    let s = c.args.self.now in
    let before = c.requires.taking.1 in
    end_before c.requires.taking.0 s.lines.keys s.jobs.items s.open_flushes s.fences _ (omega (arith, before.taken)) before.so_far

pub push-requires-clause-later : goal.push-requires-clause-later
push-requires-clause-later c =
    let s = c.args.self.now in
    let before = c.requires.taking.1 in
    fences_before c.requires.taking.0 s.lines.keys s.jobs.items s.open_flushes s.fences _ (omega (arith, before.taken)) before.so_far

pub returns : goal.returns
returns c = λ T e thread is before.
    let s = c.args.self.now in
    let few : c.args.thread < 256 = omega arith in
    let ends = rw c.of.ensures at c.in_ok-end_intervals.ensures in
    record {
      format = before.format;
      taken = omega (arith, before.taken, length-grown T e);
      so_far = rw (c.clear.ensures, c.in_ok-push.ensures.ok)
          (fence-taken T e s.lines.keys s.jobs.items s.open_flushes s.fences before.so_far c.args.thread _ _ ends (omega (arith, before.taken)) few thread is);
    }

pub returns-in_err-end_intervals : goal.returns-in_err-end_intervals
returns-in_err-end_intervals c = grind (arith, elements)

pub returns-in_err-push : goal.returns-in_err-push
returns-in_err-push c = grind (arith, elements)
