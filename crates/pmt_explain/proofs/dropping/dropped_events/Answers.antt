use Rattle.std.proofs.Common.{◌≡◌, length, sym, ap, subst, arith}
use Rattle.pmt_model.specs.Keeping.{IsKeep}
use Rattle.pmt_explain.proofs.DroppingLemmas.{dropped-nothing}
use Rattle.pmt_explain.proofs.dropping.dropped_events.Goals as goal

pub returns-then-count-events : goal.returns-then-count-events
returns-then-count-events c =
    let T = c.args.safe.now.trace.now in
    let many : length c.args.kept.now ≡ length T.events =
    omega (arith, c.if-count-events.true, c.len-events.ensures.value, ap (λ U. length U.events) c.trace-trace.ensures, ap (λ xs. length xs) c.numbers-kept.ensures.value)
    in
    dropped-nothing T c.args.kept.now _ c.requires.kept many c.new.ensures.items

pub dropped_by-requires-clause-kept : goal.dropped_by-requires-clause-kept
dropped_by-requires-clause-kept c = subst (IsKeep c.args.safe.now.trace.now) (sym c.numbers-kept.ensures.value) c.requires.kept
