use Rattle.std.proofs.Common.{arith}
use Rattle.pmt_slices.proofs.StoreStoryLemmas.{told-saves, told-own, told-flush, told-cover, told-fence, told-other}
use Rattle.pmt_slices.proofs.store_story.StoreStory.part.Goals as goal

pub returns-then-number-coming : goal.returns-then-number-coming
returns-then-number-coming c = λ T n is has. told-saves T n c.args.self.now is c.args.number has c.if-number-self.false c.if-number-coming.true

pub returns-then-number-self-2 : goal.returns-then-number-self-2
returns-then-number-self-2 c = λ T n is has. told-own T n c.args.self.now is c.args.number c.if-number-self.false c.if-self-coming.true c.if-number-self-2.true

pub returns-then-number-coming-2 : goal.returns-then-number-coming-2
returns-then-number-coming-2 c = λ T n is has.
    told-flush T n c.args.self.now is c.args.number has c.if-number-self.false c.if-number-coming.false c.if-number-coming-2.true

pub returns-then-number-coming-3 : goal.returns-then-number-coming-3
returns-then-number-coming-3 c = λ T n is has.
    told-cover T n c.args.self.now is c.args.number has c.if-number-self.false c.if-number-coming.false c.if-number-coming-2.false c.if-coming-self.true c.if-number-coming-3.true

pub returns-then-number-coming-4 : goal.returns-then-number-coming-4
returns-then-number-coming-4 c = λ T n is has.
    told-fence T n c.args.self.now is c.args.number has c.if-number-self.false c.if-number-coming.false
    (λ less. elim c.else-self-coming.branch [
      | goal.else-self-coming-via-then-self-coming+else-number-self-2 w ↦ w.if-number-self-2.false
      | goal.else-self-coming-via-else-self-coming w ↦ absurd (omega (arith, w.if-self-coming.false, less))
    ])
    c.if-number-coming-2.false c.if-coming.true c.if-coming-self-2.true c.if-number-coming-4.true

pub returns-else-coming : goal.returns-else-coming
returns-else-coming c = λ T n is has.
    told-other T n c.args.self.now is c.args.number has c.if-number-self.false c.if-number-coming.false
    (λ less. elim c.else-self-coming.branch [
      | goal.else-self-coming-via-then-self-coming+else-number-self-2 w ↦ w.if-number-self-2.false
      | goal.else-self-coming-via-else-self-coming w ↦ absurd (omega (arith, w.if-self-coming.false, less))
    ])
    c.if-number-coming-2.false
    (λ early. elim c.else-coming-self.branch [
      | goal.else-coming-self-via-then-coming-self+else-number-coming-3 w ↦ w.if-number-coming-3.false
      | goal.else-coming-self-via-else-coming-self w ↦ absurd (omega (arith, w.if-coming-self.false, early))
    ])
    (λ late flushed. elim c.else-coming.branch [
      | goal.else-coming-via-then-coming+then-coming-self-2+else-number-coming-4 w ↦ w.if-number-coming-4.false
      | goal.else-coming-via-then-coming+else-coming-self-2 w ↦ absurd (omega (arith, w.if-coming-self-2.false, flushed))
      | goal.else-coming-via-else-coming w ↦ absurd (omega (arith, w.if-coming.false, late))
    ])
