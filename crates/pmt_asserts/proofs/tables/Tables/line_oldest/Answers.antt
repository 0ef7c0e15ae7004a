use Rattle.std.proofs.Common.{subst, sym, ◌∙◌, arith}
use Rattle.pmt_asserts.specs.Tables.{IsOldestOf}
use Rattle.pmt_asserts.proofs.PlacingLemmas.{unwritten-line, of-job}
use Rattle.pmt_asserts.proofs.PartLemmas.{part-moved, oldest-in-part}
use Rattle.pmt_asserts.proofs.tables.Tables.line_oldest.Goals as goal

pub returns-then-part : goal.returns-then-part
returns-then-part c = λ T k b j own.
    let part = part-moved c.args.format T.format c.args.range c.args.line c.part_of-part.result (sym k.formatted) c.part_of-part.ensures in
    let within = (part b).1 (j, own) in
    absurd (omega (arith, within.0, within.1, c.if-part.true))

pub returns-in-None : goal.returns-in-None
returns-in-None c = λ T k b j own. unwritten-line T c.args.line c.args.self.now c.args.number b k.trace k.results (c.in-None.ensures {u = tt}) own

pub returns-in-Some : goal.returns-in-Some
returns-in-Some c = λ T k.
    let there = c.in-Some.ensures {u = tt} in
    let job = of-job T c.args.self.now c.in-Some.table.now k.results there.0 in
    let p = c.part_of-part.result in
    let part = part-moved c.args.format T.format c.args.range c.args.line p (sym k.formatted) c.part_of-part.ensures in
    oldest-in-part T c.args.number c.args.line c.args.range p c.oldest.result part
    (subst (λ l. IsOldestOf T c.args.number l p.low p.high c.oldest.result) there.1
    (c.oldest.ensures T k.trace job (λ b low high. ((part b).0 (low, high)).1 ∙ sym there.1)))
