use Rattle.std.proofs.Common.{sym, ◌∙◌, arith}
use Rattle.pmt_slices.proofs.StoryLemmas.{told-saves, told-flush, told-cover, told-fence, part-unkept}
use Rattle.pmt_slices.proofs.story.Story.part.Goals as goal

pub returns-then-number-self-3 : goal.returns-then-number-self-3
returns-then-number-self-3 c = λ T n f is has.
    told-saves T n f c.args.self.now is c.args.number has c.if-number-self.false c.if-number-self-2.false (part-unkept c.args.self.now.kept c.args.number (sym c.eq.ensures ∙ c.if-eq.false)) c.if-number-self-3.true

pub returns-then-number-self-4 : goal.returns-then-number-self-4
returns-then-number-self-4 c = λ T n f is has.
    told-flush T n f c.args.self.now is c.args.number has c.if-number-self.false c.if-number-self-2.false (part-unkept c.args.self.now.kept c.args.number (sym c.eq.ensures ∙ c.if-eq.false)) c.if-number-self-3.false c.if-number-self-4.true

pub returns-then-number-self-5 : goal.returns-then-number-self-5
returns-then-number-self-5 c = λ T n f is has.
    told-cover T n f c.args.self.now is c.args.number has c.if-number-self.false c.if-number-self-2.false (part-unkept c.args.self.now.kept c.args.number (sym c.eq.ensures ∙ c.if-eq.false)) c.if-number-self-3.false c.if-number-self-4.false
    c.if-self.true c.if-number-self-5.true

pub returns-else-self : goal.returns-else-self
returns-else-self c = λ T n f is has.
    told-fence T n f c.args.self.now is c.args.number has c.if-number-self.false c.if-number-self-2.false (part-unkept c.args.self.now.kept c.args.number (sym c.eq.ensures ∙ c.if-eq.false)) c.if-number-self-3.false c.if-number-self-4.false
    (λ early. elim c.else-self.branch [
      | goal.else-self-via-then-self+else-number-self-5 w ↦ w.if-number-self-5.false
      | goal.else-self-via-else-self w ↦ absurd (omega (arith, w.if-self.false, early))
    ])
