use Rattle.std.proofs.Common.{length, subst}
use Rattle.pmt_laws.proofs.Histories.{act-within}
use Rattle.pmt_model.specs.Machine.{Stores}
use Rattle.pmt_explain.specs.CauseOf.{IsCauseOf}
use Rattle.pmt_explain.proofs.LostGroupLemmas.{none-lost, safe-lost, lost-alone}
use Rattle.pmt_explain.proofs.lost_grouping.group_of.Goals as goal

pub returns-in_err-line : goal.returns-in_err-line
returns-in_err-line c = rw c.from_residual.ensures (none-lost c.args.trace.now c.args.store c.in_err-line.ensures)

pub cause_of-requires-clause-first : goal.cause_of-requires-clause-first
cause_of-requires-clause-first c = let store = c.in_ok-line.ensures {u = tt} in (act-within c.args.trace.now c.args.store (Stores c.in_ok-line.line store.0) store.1).0

pub returns-in_err-cause : goal.returns-in_err-cause
returns-in_err-cause c =
    let T = c.args.trace.now in
    rw c.from_residual-in_err-cause.ensures (safe-lost T c.args.store (subst (IsCauseOf T (length T.events) c.args.store) (c.in_err-cause.was {u = tt}) c.cause_of.ensures))

pub returns : goal.returns
returns c =
    let T = c.args.trace.now in
    let store = c.in_ok-line.ensures {u = tt} in
    lost-alone T c.args.store c.in_ok-line.line c.in_ok-cause.cause store.0 store.1 (subst (IsCauseOf T (length T.events) c.args.store) (c.in_ok-cause.was {u = tt}) c.cause_of.ensures)
