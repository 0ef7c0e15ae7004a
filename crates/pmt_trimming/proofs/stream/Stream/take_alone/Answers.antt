use Rattle.std.proofs.Common.{◌++◌, ◌∷◌, [], ℕ, List, ap, ◌∙◌, sym, subst, arith}
use Rattle.pmt_model.specs.Traces.{with_event}
use Rattle.pmt_text.specs.Spelling.{event_text}
use Rattle.pmt_trimming.specs.Streaming.{HaveLeft}
use Rattle.pmt_trimming.proofs.StreamLemmas.{left-after, left-alone, alone-left, none-left, left-is_out, no-marks}
use Rattle.pmt_trimming.proofs.stream.Stream.take_alone.Goals as goal

pub take_alone-requires-clause-alone : goal.take_alone-requires-clause-alone
take_alone-requires-clause-alone c =
    let is = c.requires.stream.2 in
    no-marks c.requires.stream.0 c.args.self.now.pass is.waiting _ _ c.requires.alone is.lines is.pass.all is.left

pub take_alone-requires-clause-passing : goal.take_alone-requires-clause-passing
take_alone-requires-clause-passing c = (c.requires.stream.0, c.requires.stream.2.pass)

pub returns-in_ok-put-in-Some-clause-stream : goal.returns-in_ok-put-in-Some-clause-stream
returns-in_ok-put-in-Some-clause-stream c = λ T text is.
    let R = with_event T c.args.event.now in
    let took = c.in_ok-kept.ensures in
    let told = rw c.in-Some.is at took.settles T is.pass in
    let came = left-alone T c.args.event.now _ _ is.waiting _ _ c.requires.alone is.lines is.pass.before is.pass.all is.left in
    record {
      pass = took.follows T is.pass;
      waiting = [];
      lines = c.in_ok-put-in-Some.ensures.lines;
      left = alone-left R _ _ _ c.args.event.now text _ _ told c.in_ok-put-in-Some.ensures.text came;
    }

pub returns-in_ok-put-in-Some-clause-out : goal.returns-in_ok-put-in-Some-clause-out
returns-in_ok-put-in-Some-clause-out c = λ T text is.
    let R = with_event T c.args.event.now in
    let took = c.in_ok-kept.ensures in
    let after = took.follows T is.pass in
    let told = rw c.in-Some.is at took.settles T is.pass in
    let came = left-alone T c.args.event.now _ _ is.waiting _ _ c.requires.alone is.lines is.pass.before is.pass.all is.left in
    let left = alone-left R _ _ _ c.args.event.now text _ _ told c.in_ok-put-in-Some.ensures.text came in
    left-is_out R _ _ _ after.before (none-left R _ _ _ after.all left) left

pub returns-in_ok-wait-in-None-clause-stream : goal.returns-in_ok-wait-in-None-clause-stream
returns-in_ok-wait-in-None-clause-stream c = λ T text is.
    let e = c.args.event.now in
    let took = c.in_ok-kept.ensures in
    let told = rw c.in-None.is at took.settles T is.pass in
    let came = left-alone T e _ _ is.waiting _ _ c.requires.alone is.lines is.pass.before is.pass.all is.left in
    let place = subst (λ (n : ℕ). HaveLeft (with_event T e) n (e ∷ []) (text ++ c.args.self.now.queue.text)) (sym told.0) came in
    record {
      pass = took.follows T is.pass;
      waiting = e ∷ [];
      lines = c.in_ok-wait-in-None.ensures.lines ∙ ap (λ (ls : List (List ℕ)). ls ++ event_text e ∷ []) c.requires.alone;
      left = left-after (with_event T e) _ (e ∷ []) text _ _ c.in_ok-wait-in-None.ensures.text place;
    }

pub returns-in_ok-wait-in-None-clause-out : goal.returns-in_ok-wait-in-None-clause-out
returns-in_ok-wait-in-None-clause-out c = λ T text is.
    let e = c.args.event.now in
    let R = with_event T e in
    let took = c.in_ok-kept.ensures in
    let after = took.follows T is.pass in
    let told = rw c.in-None.is at took.settles T is.pass in
    let came = left-alone T e _ _ is.waiting _ _ c.requires.alone is.lines is.pass.before is.pass.all is.left in
    let longer = left-after R c.args.self.now.pass.settled (e ∷ []) text _ _ c.in_ok-wait-in-None.ensures.text came in
    left-is_out R _ _ _ (λ k h. after.before k (omega (arith, told.0, h))) told.1 longer
