use Rattle.std.proofs.Common.{◌≡◌, ◌+◌, suc, drop, length, ap, ◌∙◌, arith}
use Rattle.std.proofs.lemmas.List.{take_rest}
use Rattle.pmt_sources.proofs.LineLemmas.{cut-after, whole-after, byte-is, byte-not, drop-length}
use Rattle.pmt_sources.proofs.lines.rest_after.Goals as goal

pub returns-in-Some : goal.returns-in-Some
returns-in-Some c =
    let text = c.args.text.now in
    let end = c.in-Some.end in
    let next : end + 1 ≡ suc end = omega arith in
    take_rest text (end + 1) ∙ ap (λ n. drop n text) next
    ∙ cut-after text end c.in-Some.ensures.0.high (byte-is text end c.in-Some.ensures.1) (λ i below. byte-not text i (c.in-Some.ensures.0.before i (omega arith) below))

pub returns-in-None : goal.returns-in-None
returns-in-None c =
    let text = c.args.text.now in
    take_rest text (length text) ∙ drop-length text ∙ whole-after text (λ i below. byte-not text i (c.in-None.ensures i (omega arith) below))
