use Rattle.std.proofs.Common.{sym, ◌∙◌, arith}
use Rattle.std.proofs.lemmas.Bool.{false≢true}
use Rattle.pmt_model.specs.Machine.{Stores}
use Rattle.pmt_laws.proofs.Histories.{act-within}
use Rattle.pmt_explain.proofs.SavingLemmas.{lost-by-place, place-at}
use Rattle.pmt_explain.proofs.lost.is_lost.Goals as goal

pub loses-requires-clause-first : goal.loses-requires-clause-first
loses-requires-clause-first c = (act-within c.args.trace.now c.args.store (Stores c.in-Some.line c.in-Some.ensures.0) c.in-Some.ensures.1).0

pub loses-requires-clause-within : goal.loses-requires-clause-within
loses-requires-clause-within c = omega (arith, (act-within c.args.trace.now c.args.store (Stores c.in-Some.line c.in-Some.ensures.0) c.in-Some.ensures.1).1, c.requires.safe.size)

pub returns-in-None : goal.returns-in-None
returns-in-None c = (λ e. absurd (false≢true e), λ lost. absurd (c.in-None.ensures lost.line lost.what lost.is_store))

pub returns-in-Some : goal.returns-in-Some
returns-in-Some c =
    let T = c.args.trace.now in
    let by = lost-by-place T c.args.place c.args.full c.in-Some.line c.args.store _ c.in-Some.ensures.0 c.requires.place c.in-Some.ensures.1 (place-at T c.args.safe.now c.args.store c.in-Some.line c.in-Some.ensures.0 0 c.requires.safe c.in-Some.ensures.1) in (
      λ e. by.0 (sym c.loses.ensures ∙ e),
      λ lost. c.loses.ensures ∙ by.1 lost,
    )
