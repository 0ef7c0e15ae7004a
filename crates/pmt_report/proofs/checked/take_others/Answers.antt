use Rattle.std.proofs.Common.{rules, ◌≡◌, Ok, Err, sym, subst, arith}
use Rattle.std.proofs.lemmas.Grind.{elements}
use Rattle.std.proofs.lemmas.List.{length-append}
use Rattle.pmt_laws.specs.Prelude.{empty, with_events, Recording}
use Rattle.pmt_taking.specs.declared.taking.TakeError.TheVariants.{OutOfMemory}
use Rattle.pmt_taking.specs.Sourcing.{TakesBlock, shown_by}
use Rattle.pmt_sweep.specs.Passing.{HasSwept}
use Rattle.pmt_text.specs.Sources.{CountsReads}
use Rattle.pmt_report.specs.Checks.{IsTakenSoFar}
use Rattle.pmt_report.proofs.BlockLemmas.{next-block, untold_fault, next-trace, untold, uncounted, unfaulted, refused-fault, refused-told, refused-counted}
use Rattle.pmt_report.proofs.checked.take_others.Goals as goal

pub take-init : goal.take-init
take-init g c =
    let source = g.S.EventSource in
    let shown = shown_by source.coming source.state source.known_format source.failures source.room in
    let now = shown c.args.source.now in (
      empty c.args.first.format,
      c.requires.fresh,
      c.len-events.ensures.is_trace,
      (λ before so_far. subst (IsTakenSoFar before now c.args.first) (sym c.is_full-more.ensures) so_far),
      omega (arith, c.len-events.ensures.value),
      (λ bytes read. read),
    )

pub sweep_and_take-swept-requires : goal.sweep_and_take-swept-requires
sweep_and_take-swept-requires g c = (c.take.invariant.0, c.take.invariant.1, c.take.invariant.2)

pub take-requires : goal.take-requires
take-requires g c =
    let T = c.take.invariant.0 in
    (T, c.take.invariant.1, rw c.events.ensures.value c.take.invariant.2)

pub returns-in_err-next-clause-fault : goal.returns-in_err-next-clause-fault
returns-in_err-next-clause-fault g c = λ before known.
    let source = g.S.EventSource in
    let shown = shown_by source.coming source.state source.known_format source.failures source.room in
    let mid = shown c.take.source in
    let now = shown c.sweep_and_take-swept.new.source in
    let so_far = (c.take.invariant.3 before known).on c.take-test.true in
    let said = c.sweep_and_take-swept.ensures in
    let e = c.in_err-next.field-0.0 in
    let is : c.sweep_and_take-swept.result.1 ≡ Err e = c.in_err-next.was in
    let refused : c.from_residual.result ≡ Err e = search (rules, c.from_residual.ensures) in
    refused-fault Recording _ before mid now (with_events c.take.invariant.0 c.take.block.events) e c.from_residual.result refused so_far (rw is at said.fault)

pub returns-in_err-next-clause-told : goal.returns-in_err-next-clause-told
returns-in_err-next-clause-told g c = λ before known.
    let source = g.S.EventSource in
    let shown = shown_by source.coming source.state source.known_format source.failures source.room in
    let mid = shown c.take.source in
    let now = shown c.sweep_and_take-swept.new.source in
    let so_far = (c.take.invariant.3 before known).on c.take-test.true in
    let said = c.sweep_and_take-swept.ensures in
    let e = c.in_err-next.field-0.0 in
    let is : c.sweep_and_take-swept.result.1 ≡ Err e = c.in_err-next.was in
    let refused : c.from_residual.result ≡ Err e = search (rules, c.from_residual.ensures) in
    refused-told Recording _ before mid now (with_events c.take.invariant.0 c.take.block.events) e c.from_residual.result refused so_far (rw is at said.told)

pub returns-in_err-next-clause-failures : goal.returns-in_err-next-clause-failures
returns-in_err-next-clause-failures g c = λ before known.
    let source = g.S.EventSource in
    let shown = shown_by source.coming source.state source.known_format source.failures source.room in
    let mid = shown c.take.source in
    let now = shown c.sweep_and_take-swept.new.source in
    let so_far = (c.take.invariant.3 before known).on c.take-test.true in
    let said = c.sweep_and_take-swept.ensures in
    let e = c.in_err-next.field-0.0 in
    let is : c.sweep_and_take-swept.result.1 ≡ Err e = c.in_err-next.was in
    let refused : c.from_residual.result ≡ Err e = search (rules, c.from_residual.ensures) in
    refused-counted Recording _ before mid now (with_events c.take.invariant.0 c.take.block.events) e c.from_residual.result refused so_far (rw is at said.failures)

pub returns-in_err-swept-clause-told : goal.returns-in_err-swept-clause-told
returns-in_err-swept-clause-told g c = λ before known.
    let source = g.S.EventSource in
    let shown = shown_by source.coming source.state source.known_format source.failures source.room in
    let mid = shown c.take.source in
    let now = shown c.sweep_and_take-swept.new.source in
    let so_far = (c.take.invariant.3 before known).on c.take-test.true in
    let said = c.sweep_and_take-swept.ensures in
    let block = c.in_ok-next.next in
    let is : c.sweep_and_take-swept.result.1 ≡ Ok block = c.in_ok-next.was in
    let next = next-block _ before mid now (with_events c.take.invariant.0 c.take.block.events) block so_far (rw is at said.block) (rw is at said.failures) in
    let refused : c.from_residual-in_err-swept.result ≡ Err OutOfMemory = search (rules, c.from_residual-in_err-swept.ensures) in
    untold before now (with_events (with_events c.take.invariant.0 c.take.block.events) block.events) _ c.from_residual-in_err-swept.result refused next

pub returns-in_err-swept-clause-failures : goal.returns-in_err-swept-clause-failures
returns-in_err-swept-clause-failures g c = λ before known.
    let source = g.S.EventSource in
    let shown = shown_by source.coming source.state source.known_format source.failures source.room in
    let mid = shown c.take.source in
    let now = shown c.sweep_and_take-swept.new.source in
    let so_far = (c.take.invariant.3 before known).on c.take-test.true in
    let said = c.sweep_and_take-swept.ensures in
    let block = c.in_ok-next.next in
    let is : c.sweep_and_take-swept.result.1 ≡ Ok block = c.in_ok-next.was in
    let next = next-block _ before mid now (with_events c.take.invariant.0 c.take.block.events) block so_far (rw is at said.block) (rw is at said.failures) in
    let refused : c.from_residual-in_err-swept.result ≡ Err OutOfMemory = search (rules, c.from_residual-in_err-swept.ensures) in
    uncounted before now (with_events (with_events c.take.invariant.0 c.take.block.events) block.events) _ c.from_residual-in_err-swept.result refused next

pub returns-in_err-swept-clause-fault : goal.returns-in_err-swept-clause-fault
returns-in_err-swept-clause-fault g c = λ before known.
    let refused : c.from_residual-in_err-swept.result ≡ Err OutOfMemory = search (rules, c.from_residual-in_err-swept.ensures) in
    unfaulted before.coming c.from_residual-in_err-swept.result refused

pub returns-in_err-take-clause-fault : goal.returns-in_err-take-clause-fault
returns-in_err-take-clause-fault g c = λ before known.
    let refused : c.from_residual-in_err-take.result ≡ Err OutOfMemory = search (rules, c.from_residual-in_err-take.ensures) in
    unfaulted before.coming c.from_residual-in_err-take.result refused

pub returns-in_err-take-clause-told : goal.returns-in_err-take-clause-told
returns-in_err-take-clause-told g c = λ before known.
    let source = g.S.EventSource in
    let shown = shown_by source.coming source.state source.known_format source.failures source.room in
    let refused : c.from_residual-in_err-take.result ≡ Err OutOfMemory = search (rules, c.from_residual-in_err-take.ensures) in
    untold before (shown c.take.source) (with_events c.take.invariant.0 c.take.block.events) c.take.more c.from_residual-in_err-take.result refused (c.take.invariant.3 before known)

pub returns-in_err-take-clause-failures : goal.returns-in_err-take-clause-failures
returns-in_err-take-clause-failures g c = λ before known.
    let source = g.S.EventSource in
    let shown = shown_by source.coming source.state source.known_format source.failures source.room in
    let refused : c.from_residual-in_err-take.result ≡ Err OutOfMemory = search (rules, c.from_residual-in_err-take.ensures) in
    uncounted before (shown c.take.source) (with_events c.take.invariant.0 c.take.block.events) c.take.more c.from_residual-in_err-take.result refused (c.take.invariant.3 before known)

pub take-preserved : goal.take-preserved
take-preserved g c =
    let source = g.S.EventSource in
    let shown = shown_by source.coming source.state source.known_format source.failures source.room in
    let mid = shown c.take.source in
    let now = shown c.sweep_and_take-swept.new.source in
    let T = with_events c.take.invariant.0 c.take.block.events in
    let said = c.sweep_and_take-swept.ensures in
    let next = c.in_ok-next.next in
    let is : c.sweep_and_take-swept.result.1 ≡ Ok next = c.in_ok-next.was in
    let block : TakesBlock c.args.most mid now next = rw is at said.block in
    let counts : CountsReads mid.failures untold_fault now.failures = rw is at said.failures in
    let first = c.requires.first in
    let so_far = (c.take.invariant.3 first.0 first.1).on c.take-test.true in
    let done : c.sweep_and_take-swept.result.0 ≡ Ok c.in_ok-swept.field-0 = c.in_ok-swept.was in (
      T,
      rw done at (said.swept c.take.invariant.0 c.take.invariant.1 c.take.invariant.2),
      next-trace c.args.most first.0 mid now T next so_far block c.take.invariant.2 c.len.ensures.is_trace,
      (λ before known.
          subst (IsTakenSoFar before now (with_events T next.events)) (sym c.is_full-more-in-take.ensures)
          (next-block c.args.most before mid now T next ((c.take.invariant.3 before known).on c.take-test.true) block counts)),
      omega (arith, c.take.invariant.4, c.len.ensures.value, length-append c.take.invariant.0.events c.take.block.events),
      (λ bytes read. said.within bytes (c.take.invariant.5 bytes read)),
    )

pub returns-clause-taken : goal.returns-clause-taken
returns-clause-taken g c = λ before known.
    let T = c.take.invariant.0 in
    let all = (c.take.invariant.3 before known).over c.take-test.false in (
      with_events T c.take.block.events,
      subst (λ es. HasSwept (with_events T es) c.take-2.new.self) c.events.ensures.value (c.in_ok-take.ensures T c.take.invariant.1 (rw c.events.ensures.value c.take.invariant.2)),
      omega (arith, c.take.invariant.4, length-append T.events c.take.block.events),
      all.comes,
    )

pub returns-clause-told : goal.returns-clause-told
returns-clause-told g c = grind (arith, elements)
