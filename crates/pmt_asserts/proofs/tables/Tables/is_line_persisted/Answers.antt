use Rattle.std.proofs.Common.{◌≤◌, IfSome, refl, sym, subst, ◌∙◌, le_trans}
use Rattle.pmt_laws.specs.Prelude.{front_at, Placed}
use Rattle.pmt_asserts.proofs.PlacingLemmas.{unwritten-line, of-job}
use Rattle.pmt_asserts.proofs.PartLemmas.{part-moved}
use Rattle.pmt_asserts.proofs.tables.Tables.is_line_persisted.Goals as goal

pub returns-in-None : goal.returns-in-None
returns-in-None c = λ T k h. (
  λ t b j own. subst (λ o. IfSome o (λ (x : Placed). x.rank ≤ front_at T x.line c.args.by)) (sym (unwritten-line T c.args.line c.args.self.now c.args.number b k.trace k.results (c.in-None.ensures {u = tt}) own)) tt,
  λ f. refl,
)

pub returns-in-Some : goal.returns-in-Some
returns-in-Some c = λ T k h.
    let there = c.in-Some.ensures {u = tt} in
    let job = of-job T c.args.self.now c.in-Some.table.now k.results there.0 in
    let part = part-moved c.args.format T.format c.args.range c.args.line c.part_of-part.result (sym k.formatted) c.part_of-part.ensures in
    let d = c.is_persisted_by.ensures T k.trace job (le_trans h k.within) (λ b low high. ((part b).0 (low, high)).1 ∙ sym there.1) in
    (λ t b j own. let r = (part b).1 (j, own) in d.0 t b r.0 r.1, λ each. d.1 (λ b low high. let r = (part b).0 (low, high) in each b r.0 r.1))
