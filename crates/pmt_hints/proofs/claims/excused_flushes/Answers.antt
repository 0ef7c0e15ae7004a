use Rattle.std.proofs.Common.{subst, sym, arith}
use Rattle.std.proofs.lemmas.List.{take_all}
use Rattle.pmt_model.specs.Keeping.{IsKeep}
use Rattle.pmt_hints.proofs.ClaimLemmas.{AreNoted, noted-all, noted-more, noted-none}
use Rattle.pmt_hints.proofs.claims.excused_flushes.Goals as goal

pub loop-number-init : goal.loop-number-init
loop-number-init c = noted-none c.args.trace.now c.args.flushes.now c.new-excused.result.items c.in_ok-lines.lines c.in_ok-lines.ensures c.new-excused.ensures.items

pub loop-number-preserved : goal.loop-number-preserved
loop-number-preserved c =
    let T = c.args.trace.now in
    let numbers = c.numbers-numbers.result.now in
    noted-more T numbers c.args.flushes.now c.args.claimed.now c.loop-number.number-index (subst (IsKeep T) (sym c.numbers-numbers.ensures.value) c.requires.kept) c.requires.claimed c.loop-number-test.true
    c.loop-number.lines c.note_event.new.lines c.loop-number.excused.items c.push_if.new.numbers.items _ c.in_ok-is_excused.ensures.flush c.in_ok-is_excused.ensures.lines c.in_ok-push_if.ensures c.loop-number.invariant

pub returns : goal.returns
returns c =
    let T = c.args.trace.now in
    let numbers = c.numbers-numbers.result.now in
    noted-all T numbers c.args.flushes.now c.loop-number.excused.items c.loop-number.lines (subst (IsKeep T) (sym c.numbers-numbers.ensures.value) c.requires.kept)
    (subst (λ ks. AreNoted T c.args.flushes.now ks c.loop-number.excused.items c.loop-number.lines) (take_all c.loop-number.number-index numbers (omega arith)) c.loop-number.invariant)
