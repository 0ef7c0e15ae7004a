use Rattle.std.proofs.Common.{◌≡◌, ◌+◌, ◌-◌, ◌<◌, ◌≤◌, ◌^◌, length, true, is_some, refl, ap, sym, subst, arith}
use Rattle.std.proofs.lemmas.Grind.{elements}
use Rattle.pmt_model.specs.Traces.{event_limit}
use Rattle.pmt_text.specs.Counting.{failure_count}
use Rattle.pmt_text.proofs.PlainLemmas.{given-few, ready-taken}
use Rattle.pmt_text.proofs.text_source.TextSourceEventSource.take_ready.Goals as goal

pub invariant_of-self-2 : goal.invariant_of-self-2
invariant_of-self-2 g c =
    let self = c.args.self.now in
    let some : is_some self.format ≡ true = ap is_some c.requires.known in
    let bound : c.min.result ≤ c.len-before.result + (event_limit - self.given) = omega (arith, c.min.ensures) in
    let few : self.given + (c.len.result - c.len-before.result) ≤ event_limit =
    rw (c.len.ensures.value, c.len-before.ensures.value) (given-few self.given _ _ c.min.result c.in_ok-take_plain.ensures.few (omega (arith, bound, c.len-before.ensures.value)) self.few) in
    record {
      few = few;
      fresh = λ none. cc;
      known_at_end = λ ended. some;
      counted = λ is_open. subst (λ i. failure_count i < 2 ^ 64 - 1) (sym c.take_plain.ensures.input) (self.counted is_open);
    }

pub returns-clause-taken : goal.returns-clause-taken
returns-clause-taken g c =
    let self = c.args.self.now in
    let after = self.given + (c.len.result - c.len-before.result) in
    let count : after ≡ self.given + (length c.take_plain.new.trace.events - length c.args.trace.now.events) = rw (c.len.ensures.value, c.len-before.ensures.value) refl in
    let bound : c.min.result ≤ length c.args.trace.now.events + (event_limit - self.given) = omega (arith, c.min.ensures, c.len-before.ensures.value) in
    let few : after ≤ event_limit = omega (arith, count, given-few self.given _ _ c.min.result c.in_ok-take_plain.ensures.few bound self.few) in
    ready-taken g.R.Read.remaining self.lines c.take_plain.new.self c.args.trace.now c.take_plain.new.trace self.given after self.state self.format c.in-Open.is c.requires.known c.in_ok-take_plain.ensures.taken
    c.take_plain.ensures.input c.take_plain.ensures.room count few c.in_ok-take_plain.ensures.last

pub returns-in_err-take_plain-clause-taken : goal.returns-in_err-take_plain-clause-taken
returns-in_err-take_plain-clause-taken c = grind (arith, elements)

pub returns-in_err-take_plain-clause-few : goal.returns-in_err-take_plain-clause-few
returns-in_err-take_plain-clause-few c = grind (arith, elements)

pub returns-in_err-take_plain-clause-given : goal.returns-in_err-take_plain-clause-given
returns-in_err-take_plain-clause-given c = grind (arith, elements)

pub returns-in_err-take_plain-clause-refused : goal.returns-in_err-take_plain-clause-refused
returns-in_err-take_plain-clause-refused c = grind (arith, elements)

pub overflow_sub-self : goal.overflow_sub-self
overflow_sub-self c = grind (arith, elements)

pub returns-clause-few : goal.returns-clause-few
returns-clause-few c = grind (arith, elements)

pub returns-clause-given : goal.returns-clause-given
returns-clause-given c = grind (arith, elements)

pub returns-clause-room : goal.returns-clause-room
returns-clause-room c = grind (arith, elements)
