use Rattle.std.proofs.Common.{length, ap, arith, length-drop}
use Rattle.pmt_trimming.proofs.SettlingLemmas.{given-out, marks-left}
use Rattle.pmt_trimming.proofs.pass.Pass.give_out.Goals as goal

pub returns-clause-passing : goal.returns-clause-passing
returns-clause-passing c = λ T is decided.
    let p = c.args.self.now in
    let count = c.args.count in
    record {
      format = is.format;
      lines = is.lines;
      all = omega (arith, is.all, ap length c.leave.ensures, length-drop count p.marks.items, c.requires.within);
      marks = marks-left T p.settled count p.marks.items _ c.leave.ensures is.marks;
      before = given-out T p.settled _ is.before decided;
    }
