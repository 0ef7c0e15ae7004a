use Rattle.pmt_slices.proofs.Prelude.{subst, suc, TakesStore}
use Rattle.pmt_slices.proofs.GoingLemmas.{gone-untaken, gone-taken, taken-meets}
use Rattle.pmt_slices.proofs.slicing.over_store.Goals as goal

pub returns-then-not-take-clause-goes : goal.returns-then-not-take-clause-goes
returns-then-not-take-clause-goes c = λ T A m n before format is same within old.
    let takes = subst (λ t. TakesStore c.args.store t c.args.unwritten.now c.take.new.self) c.if-not-take.true c.take.ensures.takes in
    gone-untaken T A m n c.args.line c.args.store before c.args.chosen.now c.args.scan.now c.args.unwritten.now c.take.new.self is within old takes

pub returns-in-Some-clause-goes : goal.returns-in-Some-clause-goes
returns-in-Some-clause-goes c = λ T A m n before format is same within old.
    let takes = subst (λ t. TakesStore c.args.store t c.args.unwritten.now c.take.new.self) c.if-not-take.false c.take.ensures.takes in
    gone-taken T A m n c.args.line c.args.store before c.args.chosen.now c.args.scan.now c.args.unwritten.now c.take.new.self is within old c.args.number c.in-Some.coming c.choose_store.new.chosen same takes (c.in-Some.ensures T A (suc m) (suc n) old.scan) c.choose_store.ensures

pub returns-in_default-clause-goes : goal.returns-in_default-clause-goes
returns-in_default-clause-goes c = λ T A m n before format is same within old.
    let takes = subst (λ t. TakesStore c.args.store t c.args.unwritten.now c.take.new.self) c.if-not-take.false c.take.ensures.takes in
    absurd (taken-meets T A m n c.args.line c.args.store before c.args.chosen.now c.args.scan.now c.args.unwritten.now c.take.new.self is within old format c.take.ensures.store takes (c.in_default.ensures T A (suc m) (suc n) old.scan))
