use Rattle.std.proofs.Common.{arith, refl, sym, subst, ℕ, List, [], ◌∷◌, ◌++◌, length-append}
use Rattle.pmt_model.specs.Traces.{with_event}
use Rattle.pmt_trimming.specs.Streaming.{HaveLeft}
use Rattle.pmt_trimming.proofs.StreamLemmas.{left-next, lines-more}
use Rattle.pmt_trimming.proofs.stream.Stream.take_behind.Goals as goal

pub leave-requires-clause-stream : goal.leave-requires-clause-stream
leave-requires-clause-stream c =
    let of = c.requires.stream in
    let is = of.2 in
    let T = of.0 in
    let e = c.args.event.now in
    let took = c.in_ok-take.ensures in
    let same = c.in_ok-wait.ensures.text in (
      with_event T e,
      of.1,
      record {
        pass = took.follows T is.pass;
        waiting = is.waiting ++ e ∷ [];
        lines = lines-more is.waiting (e ∷ []) _ _ is.lines c.in_ok-wait.ensures.lines;
        left = left-next T (e ∷ []) _ _ _ is.waiting _ _ took.settled refl is.pass.before is.pass.all (subst (λ (bytes : List ℕ). HaveLeft T c.args.self.now.pass.settled is.waiting (of.1 ++ bytes)) (sym same) is.left);
      },
    )

pub leave-requires-clause-room : goal.leave-requires-clause-room
leave-requires-clause-room c =
    let of = c.requires.stream in
    let start = of.2.pass in
    let after = c.in_ok-take.ensures.follows of.0 start in
    let size = length-append of.0.events (c.args.event.now ∷ []) in
    let room = c.requires.room in
    omega (arith, start.all, after.all, size, room)

pub returns-clause-stream : goal.returns-clause-stream
returns-clause-stream c = λ T text is.
    let e = c.args.event.now in
    let took = c.in_ok-take.ensures in
    let same = c.in_ok-wait.ensures.text in
    c.leave.ensures.stream (with_event T e) text
    (record {
      pass = took.follows T is.pass;
      waiting = is.waiting ++ e ∷ [];
      lines = lines-more is.waiting (e ∷ []) _ _ is.lines c.in_ok-wait.ensures.lines;
      left = left-next T (e ∷ []) _ _ _ is.waiting _ _ took.settled refl is.pass.before is.pass.all (subst (λ (bytes : List ℕ). HaveLeft T c.args.self.now.pass.settled is.waiting (text ++ bytes)) (sym same) is.left);
    })

pub returns-clause-out : goal.returns-clause-out
returns-clause-out c = λ T text is.
    let e = c.args.event.now in
    let took = c.in_ok-take.ensures in
    let same = c.in_ok-wait.ensures.text in
    c.leave.ensures.out (with_event T e) text
    (record {
      pass = took.follows T is.pass;
      waiting = is.waiting ++ e ∷ [];
      lines = lines-more is.waiting (e ∷ []) _ _ is.lines c.in_ok-wait.ensures.lines;
      left = left-next T (e ∷ []) _ _ _ is.waiting _ _ took.settled refl is.pass.before is.pass.all (subst (λ (bytes : List ℕ). HaveLeft T c.args.self.now.pass.settled is.waiting (text ++ bytes)) (sym same) is.left);
    })
