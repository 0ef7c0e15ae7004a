use Rattle.std.proofs.Common.{arith, rules, ◌≡◌, ◌≤◌, length, Option, None, Some, MatchOption, refl, subst, sym}
use Rattle.std.proofs.lemmas.Grind.{elements}
use Rattle.pmt_model.specs.Traces.{event, act}
use Rattle.pmt_laws.proofs.Histories.{act-within}
use Rattle.pmt_reasons.specs.Failures.{IsFailureAt}
use Rattle.pmt_causes.specs.declared.failure_keys.FailureKey.{FailureKey}
use Rattle.pmt_causes.specs.Groups.{IsFailureKey}
use Rattle.pmt_causes.proofs.KeyLemmas.{persist-keyed, ordered-keyed}
use Rattle.pmt_causes.proofs.failing.key_at.Goals as goal

pub returns-in_ok-found-in-IsPersist-clause-key : goal.returns-in_ok-found-in-IsPersist-clause-key
returns-in_ok-found-in-IsPersist-clause-key c =
    let T = c.args.trace.now in
    let i = c.args.number in
    let is : event T i ≡ Some c.in-Some.event = search rules in
    let within : c.args.number ≤ length T.events = (act-within T i (act T.format c.in-Some.event) (c.in-Some.event, is, refl)).1 in
    subst (λ (o : Option FailureKey). MatchOption o (IsFailureAt T i None) (IsFailureKey T c.args.labels.now i)) (sym c.found_key.ensures)
    (persist-keyed T c.args.labels.now c.args.flushes.now i c.in-Some.event c.in-IsPersist.range c.in_ok-found-in-IsPersist.found is c.in-IsPersist.is within c.requires.flushes
    c.in_ok-found-in-IsPersist.ensures.failure)

pub returns-in_ok-found-in-IsOrderedBefore-clause-key : goal.returns-in_ok-found-in-IsOrderedBefore-clause-key
returns-in_ok-found-in-IsOrderedBefore-clause-key c =
    let T = c.args.trace.now in
    let i = c.args.number in
    let is : event T i ≡ Some c.in-Some.event = search rules in
    subst (λ (o : Option FailureKey). MatchOption o (IsFailureAt T i None) (IsFailureKey T c.args.labels.now i)) (sym c.found_key-in-IsOrderedBefore.ensures)
    (ordered-keyed T c.args.labels.now c.args.flushes.now i c.in-Some.event c.in-IsOrderedBefore.range c.in-IsOrderedBefore.second c.in_ok-found-in-IsOrderedBefore.found is c.in-IsOrderedBefore.is
    c.requires.flushes c.in_ok-found-in-IsOrderedBefore.ensures.failure)

pub returns-in_default-clause-key : goal.returns-in_default-clause-key
returns-in_default-clause-key c = grind (arith, elements)

pub persist_at-requires-clause-number : goal.persist_at-requires-clause-number
persist_at-requires-clause-number c = grind (arith, elements)

pub persist_at-requires-clause-safe : goal.persist_at-requires-clause-safe
persist_at-requires-clause-safe c = grind (arith, elements)

pub persist_at-requires-clause-writers : goal.persist_at-requires-clause-writers
persist_at-requires-clause-writers c = grind (arith, elements)

pub returns-in_err-found-in-IsPersist-clause-key : goal.returns-in_err-found-in-IsPersist-clause-key
returns-in_err-found-in-IsPersist-clause-key c = grind (arith, elements)

pub returns-in_err-found-in-IsPersist-clause-writers : goal.returns-in_err-found-in-IsPersist-clause-writers
returns-in_err-found-in-IsPersist-clause-writers c = grind (arith, elements)

pub ordered_at-requires-clause-number : goal.ordered_at-requires-clause-number
ordered_at-requires-clause-number c = grind (arith, elements)

pub returns-in_err-found-in-IsOrderedBefore-clause-key : goal.returns-in_err-found-in-IsOrderedBefore-clause-key
returns-in_err-found-in-IsOrderedBefore-clause-key c = grind (arith, elements)

pub returns-in_ok-found-in-IsPersist-clause-writers : goal.returns-in_ok-found-in-IsPersist-clause-writers
returns-in_ok-found-in-IsPersist-clause-writers c = grind (arith, elements)

pub returns-in_ok-found-in-IsOrderedBefore-clause-writers : goal.returns-in_ok-found-in-IsOrderedBefore-clause-writers
returns-in_ok-found-in-IsOrderedBefore-clause-writers c = grind (arith, elements)

pub returns-in-Store-clause-key : goal.returns-in-Store-clause-key
returns-in-Store-clause-key c = grind (arith, elements)
