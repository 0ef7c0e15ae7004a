use Rattle.std.proofs.Common.{rules, subst}
use Rattle.std.specs.Prelude.{IfOk, IfSome}
use Rattle.pmt_asked.specs.declared.choosing.Kind.TheVariants as kinds
use Rattle.pmt_explanation.specs.Prelude.{AreDropped, AreWaited, is_asked_for, IsUpcoming}
use Rattle.pmt_explanation.specs.Explaining.{AreAskedLate, AreBroken, AreLost, AreEarly}
use Rattle.pmt_explanation.proofs.found.begun_of.Goals as goal

pub returns : goal.returns
returns g c =
    let a = c.args.analysis.now in
    let labels = c.args.labels.now in
    let numbers = c.args.numbers.now in
    let frames = c.args.frames.now in
    let o = c.args.options.now in
    let late_so = is_asked_for a.trace labels o.choice kinds.Late in
    let upcoming : IfOk c.join_mut-following.result.0 (λ x. IfSome x.upcoming (IsUpcoming a.trace)) = search rules in
    let dropped : IfOk c.join_mut-following.result.0 (λ x. AreDropped a.trace x.dropped.items) = search rules in
    let broken : IfOk c.join_mut-following.result.0 (λ x. AreBroken a labels frames o x.broken) = search rules in
    let waited : IfOk c.join_mut-following.result.1.0 (λ x. AreWaited a.trace x.waited.items) = search rules in
    let late : IfOk c.join_mut-following.result.1.0 (λ x. AreAskedLate a.trace frames (is_asked_for a.trace labels o.choice kinds.Late) x.groups.items) = search rules in
    let lost : IfOk c.join_mut-following.result.1.1.0 (AreLost a labels frames o) = search rules in
    let early : IfOk c.join_mut-following.result.1.1.1 (AreEarly a.trace frames numbers) = search rules in
    record {
      firsts = record {
        upcoming = subst (λ r. IfOk r (λ x. IfSome x.upcoming (IsUpcoming a.trace))) c.in_ok-upcoming.was upcoming;
        dropped = subst (λ r. IfOk r (λ x. AreDropped a.trace x.dropped.items)) c.in_ok-upcoming.was dropped;
        waited = subst (λ r. IfOk r (λ x. AreWaited a.trace x.waited.items)) c.in_ok-waited.was waited;
        late = subst (λ r. IfOk r (λ x. AreAskedLate a.trace frames late_so x.groups.items)) c.in_ok-waited.was late;
      };
      risks = record {
        lost = subst (λ r. IfOk r (AreLost a labels frames o)) c.in_ok-lost.was lost;
        broken = subst (λ r. IfOk r (λ x. AreBroken a labels frames o x.broken)) c.in_ok-upcoming.was broken;
      };
      early = subst (λ r. IfOk r (AreEarly a.trace frames numbers)) c.in_ok-early.was early;
    }
