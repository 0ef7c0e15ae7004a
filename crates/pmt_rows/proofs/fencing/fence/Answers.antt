use Rattle.std.proofs.Common.{◌-◌, ◌<◌, true, false, length, drop, refl, sym, ◌∙◌, arith}
use Rattle.std.proofs.lemmas.List.{get_or_default, length-set}
use Rattle.pmt_rows.specs.declared.open.OpenFlush.{OpenFlush}
use Rattle.pmt_rows.specs.Waiting.{raise_all, waits, waits_all}
use Rattle.pmt_rows.proofs.FencingLemmas.{deciding-none, deciding-next, deciding-all, marks-raiser, marks-other}
use Rattle.pmt_rows.proofs.fencing.fence.Goals as goal

abbrev none : OpenFlush
none = record { number = 0; slot = 0; store = 0 }

pub loop-index-init : goal.loop-index-init
loop-index-init c = record {
  size = refl;
  decides = λ T lines n safe are. deciding-none T lines n safe c.args.rows.now c.args.links.now c.args.kept.now c.args.flushes.now _ refl are.at;
}

pub raise-requires : goal.raise-requires
raise-requires c =
    let r = c.requires.known in
    let so_far = c.loop-index.invariant.decides r.0 r.1 r.2 r.3 r.4 in
    (r.0, r.1, r.2, raise_all (waits_all r.1 (drop c.loop-index.index c.args.flushes.now)) r.3, so_far.at, r.4.each (c.loop-index.index - 1) none (omega arith), r.4.numbered)

pub overflow_sub-kept : goal.overflow_sub-kept
overflow_sub-kept c = (c.requires.flagged (c.loop-index.index - 1) none (omega arith)).0

pub bounds-kept-flush : goal.bounds-kept-flush
bounds-kept-flush c =
    let x = c.requires.flagged (c.loop-index.index - 1) none (omega arith) in
    omega (arith, x.0, x.1, c.loop-index.invariant.size)

pub loop-index-preserved-then-raise : goal.loop-index-preserved-then-raise
loop-index-preserved-then-raise c = record {
  size = length-set c.loop-index.kept _ _ ∙ c.loop-index.invariant.size;
  decides = λ T lines n safe are.
      let xs = c.args.flushes.now in
      let i = c.loop-index.index in
      let within : i - 1 < length xs = omega arith in
      let so_far = c.loop-index.invariant.decides T lines n safe are in
      let able = are.each (i - 1) none within in
      let flagged = c.requires.flagged (i - 1) none within in
      let before = raise_all (waits_all lines (drop i xs)) safe in
      let told = sym c.if-raise.true ∙ c.raise.ensures.tells T lines n before so_far.at able in
      deciding-next T lines n safe c.loop-index.rows c.raise.new.rows c.loop-index.links c.raise.new.links c.args.kept.now c.loop-index.kept _ xs i c.loop-index.rises true true _ (omega arith) (omega arith) (get_or_default xs (i - 1) none _ within) so_far
      (c.raise.ensures.raised T lines n before so_far.at able are.numbered) told refl
      (marks-raiser c.args.kept.now c.loop-index.kept (waits lines _) (waits_all lines (drop i xs)) safe told flagged.0 (omega (arith, flagged.1, c.loop-index.invariant.size)) so_far.flags);
}

pub loop-index-preserved : goal.loop-index-preserved
loop-index-preserved c = record {
  size = c.loop-index.invariant.size;
  decides = λ T lines n safe are.
      let xs = c.args.flushes.now in
      let i = c.loop-index.index in
      let within : i - 1 < length xs = omega arith in
      let so_far = c.loop-index.invariant.decides T lines n safe are in
      let able = are.each (i - 1) none within in
      let before = raise_all (waits_all lines (drop i xs)) safe in
      let told = sym c.if-raise.false ∙ c.raise.ensures.tells T lines n before so_far.at able in
      deciding-next T lines n safe c.loop-index.rows c.raise.new.rows c.loop-index.links c.raise.new.links c.args.kept.now c.loop-index.kept c.loop-index.kept xs i c.loop-index.rises false c.loop-index.rises _ (omega arith) (omega arith) (get_or_default xs (i - 1) none _ within) so_far
      (c.raise.ensures.raised T lines n before so_far.at able are.numbered) told refl
      (marks-other c.args.kept.now c.loop-index.kept (waits lines _) (waits_all lines (drop i xs)) safe told so_far.flags);
}

pub returns-clause-raised : goal.returns-clause-raised
returns-clause-raised c = λ T lines n safe are.
    (deciding-all T lines n safe c.loop-index.rows c.loop-index.links c.args.kept.now c.loop-index.kept c.args.flushes.now c.loop-index.index c.loop-index.rises (omega arith) (c.loop-index.invariant.decides T lines n safe are)).at

pub returns-clause-tells : goal.returns-clause-tells
returns-clause-tells c = λ T lines n safe are.
    (deciding-all T lines n safe c.loop-index.rows c.loop-index.links c.args.kept.now c.loop-index.kept c.args.flushes.now c.loop-index.index c.loop-index.rises (omega arith) (c.loop-index.invariant.decides T lines n safe are)).tells

pub returns-clause-flags : goal.returns-clause-flags
returns-clause-flags c = λ T lines n safe are.
    (deciding-all T lines n safe c.loop-index.rows c.loop-index.links c.args.kept.now c.loop-index.kept c.args.flushes.now c.loop-index.index c.loop-index.rises (omega arith) (c.loop-index.invariant.decides T lines n safe are)).flags
