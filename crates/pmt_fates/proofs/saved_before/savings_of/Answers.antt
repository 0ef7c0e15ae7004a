use Rattle.pmt_fates.proofs.Prelude.{length, sym, subst, AreSavers}
use Rattle.pmt_fates.proofs.SaverLemmas.{left-told, no-left}
use Rattle.pmt_fates.proofs.saved_before.savings_of.Goals as goal

pub returns-then-not-has_left : goal.returns-then-not-has_left
returns-then-not-has_left c = λ i is. absurd (no-left c.args.fates.now i (c.has_left.ensures c.if-not-has_left.true) is)

pub returns : goal.returns
returns c = left-told c.args.trace.now c.args.safe.now c.args.fates.now (record { fences = c.in_ok-fences.fences; last = c.in_ok-last.last }) c.requires.safe c.requires.fates c.in_ok-fences.ensures (c.in_ok-last.ensures c.args.trace.now (subst (AreSavers c.args.trace.now (length c.args.trace.now.events)) (sym c.as_slice.ensures.value) c.in_ok-savers.ensures))
