use Rattle.std.proofs.Common.{arith}
use Rattle.pmt_sources.proofs.LineLemmas.{cut-front, whole-front, byte-is, byte-not}
use Rattle.pmt_sources.proofs.lines.first_of.Goals as goal

pub returns-in-Some : goal.returns-in-Some
returns-in-Some c =
    let text = c.args.text.now in
    let end = c.in-Some.end in
    cut-front text end c.in-Some.ensures.0.high (byte-is text end c.in-Some.ensures.1) (λ i below. byte-not text i (c.in-Some.ensures.0.before i (omega arith) below))

pub returns-in-None : goal.returns-in-None
returns-in-None c =
    let text = c.args.text.now in
    whole-front text (λ i below. byte-not text i (c.in-None.ensures i (omega arith) below))
