use Rattle.std.proofs.Common.{sym, subst}
use Rattle.pmt_model.specs.Keeping.{IsKeep}
use Rattle.pmt_hints.specs.Hints.{AreThose, IsOpenAtStore}
use Rattle.pmt_hints.proofs.open_at.open_at_store.Goals as goal

pub open_numbers-requires-clause-keep : goal.open_numbers-requires-clause-keep
open_numbers-requires-clause-keep c = subst (IsKeep c.args.trace.now) (sym c.numbers.ensures.value) c.requires

pub selection_of-requires : goal.selection_of-requires
selection_of-requires c = c.in_ok-open.ensures.those.rising

pub returns : goal.returns
returns c = subst (AreThose (IsOpenAtStore c.args.trace.now)) (sym c.selection_of.ensures) c.in_ok-open.ensures.those
