use Rattle.std.proofs.Common.{◌++◌, ℕ, sym, subst, arith}
use Rattle.pmt_trimming.specs.Streaming.{HaveLeft}
use Rattle.pmt_trimming.proofs.StreamLemmas.{left-popped, all-left, left-is_out}
use Rattle.pmt_trimming.proofs.stream.Stream.leave.Goals as goal

pub next_settled-requires : goal.next_settled-requires
next_settled-requires c =
    let of = c.requires.stream in
    let before = (c.loop-kept.invariant of.0 of.1 of.2).pass in
    let start = of.2.pass in
    let room = c.requires.room in
    record { passing = (of.0, before); room = omega (arith, before.all, start.all, room) }

pub loop-kept-smaller : goal.loop-kept-smaller
loop-kept-smaller c =
    let of = c.requires.stream in
    let before = (c.loop-kept.invariant of.0 of.1 of.2).pass in
    let after = c.next_settled.ensures.passing of.0 before in
    let some = rw c.in-Some.is at c.next_settled.ensures.settles of.0 before in
    omega (arith, before.all, after.all, some.0)

pub loop-kept-preserved : goal.loop-kept-preserved
loop-kept-preserved c = λ T text is.
    let before = c.loop-kept.invariant T text is in
    let told = c.next_settled.ensures.settles T before.pass in
    let popped = left-popped T _ _ _ _ before.waiting _ _ text c.loop-kept.self.queue.text _ c.in-Some.is told before.lines c.pop.ensures before.left in
    record { pass = c.next_settled.ensures.passing T before.pass; waiting = popped.0; lines = popped.1; left = popped.2 }

pub returns-clause-stream : goal.returns-clause-stream
returns-clause-stream c = λ T text is.
    let before = c.loop-kept.invariant T text is in
    let told = c.next_settled.ensures.settles T before.pass in
    let none = all-left T _ _ _ c.in_default.is told in
    record {
      pass = c.next_settled.ensures.passing T before.pass;
      waiting = before.waiting;
      lines = before.lines;
      left = subst (λ (n : ℕ). HaveLeft T n before.waiting (text ++ c.loop-kept.self.queue.text)) (sym none.0) before.left;
    }

pub returns-clause-out : goal.returns-clause-out
returns-clause-out c = λ T text is.
    let before = c.loop-kept.invariant T text is in
    let told = c.next_settled.ensures.settles T before.pass in
    let none = all-left T _ _ _ c.in_default.is told in
    left-is_out T _ _ _ before.pass.before none.1 before.left
