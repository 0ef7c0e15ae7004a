use Rattle.std.proofs.Common.{◌≡◌, ◌+◌, length, subst, arith}
use Rattle.pmt_trimming.specs.Passing.{AreDecidedFrom}
use Rattle.pmt_trimming.proofs.WholeTextLemmas.{all-gone, decided-more, held-popped, none-gone}
use Rattle.pmt_trimming.proofs.whole_text.pop_decided.Goals as goal

pub loop-index-init : goal.loop-index-init
loop-index-init c = (
  omega arith,
  λ T place waiting are many held. none-gone T place waiting c.args.held held,
  λ T place are k low high. absurd (omega (arith, low, high)),
)

pub loop-index-preserved : goal.loop-index-preserved
loop-index-preserved c =
    let before = c.loop-index.invariant in
    let i = c.loop-index.index in
    let ms = c.args.marks.now in (
      omega (arith, c.loop-index-test.true),
      λ T place waiting are many held.
          held-popped T place i ms _ c.in-Some.kept _ c.loop-index.left c.pop.new.self c.loop-index-test.true c.decision.ensures c.in-Some.is many are c.pop.ensures (before.1 T place waiting are many held),
      λ T place are. decided-more T place i ms _ c.in-Some.kept _ c.loop-index-test.true c.decision.ensures c.in-Some.is are (before.2 T place are),
    )

pub returns-in-None-clause-left : goal.returns-in-None-clause-left
returns-in-None-clause-left c = c.loop-index.invariant.1

pub returns-in-None-clause-decided : goal.returns-in-None-clause-decided
returns-in-None-clause-decided c = c.loop-index.invariant.2

pub returns-clause-left : goal.returns-clause-left
returns-clause-left c = λ T place waiting are many held.
    let all : c.loop-index.index ≡ length c.args.marks.now = omega (arith, c.loop-index-test.false, c.loop-index.invariant.0) in
    all-gone T place c.loop-index.index (length c.args.marks.now) c.loop-index.left all (c.loop-index.invariant.1 T place waiting are many held)

pub returns-clause-decided : goal.returns-clause-decided
returns-clause-decided c = λ T place are.
    let all : c.loop-index.index ≡ length c.args.marks.now = omega (arith, c.loop-index-test.false, c.loop-index.invariant.0) in
    subst (λ n. AreDecidedFrom T place (place + n)) all (c.loop-index.invariant.2 T place are)
