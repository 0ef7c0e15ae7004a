use Rattle.std.proofs.Common.{refl}
use Rattle.pmt_asserts.proofs.JudgeLemmas.{ranked-line, unwritten-line}
use Rattle.pmt_asserts.proofs.judge.is_line_in_order.Goals as goal

pub returns-in-None : goal.returns-in-None
returns-in-None c = λ T k. (λ t. unwritten-line T c.args.number c.args.line c.args.first c.args.second (c.in-None.ensures {u = tt} T k), λ ordered. refl)

pub returns-in-Some : goal.returns-in-Some
returns-in-Some c = λ T k.
    let ranked = ranked-line T c.args.number c.args.line c.args.first c.args.second c.in-Some.oldest (c.in-Some.ensures {u = tt} T k) in
    let told = c.is_line_ranked.ensures T k in
    (λ t. ranked.0 (told.0 t), λ ordered. told.1 (ranked.1 ordered))
