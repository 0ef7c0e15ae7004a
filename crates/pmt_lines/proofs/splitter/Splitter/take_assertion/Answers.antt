use Rattle.std.proofs.Common.{arith}
use Rattle.pmt_lines.proofs.FenceActLemmas.{split-assert}
use Rattle.pmt_taking.proofs.GrownLemmas.{length-grown}
use Rattle.pmt_lines.proofs.splitter.Splitter.take_assertion.Goals as goal

pub returns : goal.returns
returns c = λ T e is before.
    let s = c.args.self.now in
    record {
      format = before.format;
      taken = omega (arith, before.taken, length-grown T e);
      so_far = split-assert T e s.lines.keys s.jobs.items s.open_flushes s.fences before.so_far is;
    }
