use Rattle.std.proofs.Common.{rules, subst}
use Rattle.std.specs.Prelude.{IfOk}
use Rattle.pmt_explanation.specs.Explaining.{AreDrops, ArePlacesOf, AreHints, AreLate}
use Rattle.pmt_explanation.proofs.found.found_of.Goals as goal

pub returns : goal.returns
returns g c =
    let a = c.args.analysis.now in
    let labels = c.args.labels.now in
    let numbers = c.args.numbers.now in
    let frames = c.args.frames.now in
    let o = c.args.options.now in
    let first = c.in_ok-first.first in
    let dropped = first.firsts.dropped.items in
    let stores = first.risks.lost.stores.items in
    let drops : IfOk c.join_mut-drops.result.0 (AreDrops a.trace labels numbers o dropped) = search rules in
    let table : IfOk c.join_mut-drops.result.1.0 (ArePlacesOf a.trace numbers frames stores dropped) = search rules in
    let late : IfOk c.join_mut-drops.result.1.1 (AreLate a.trace frames) = search rules in
    let hints : AreHints a.trace frames numbers c.in_ok-hints.hints.items = record {
      early = first.early;
      late = c.in_ok-late.late;
      are_early = c.in_ok-first.ensures.early;
      are_late = subst (λ r. IfOk r (AreLate a.trace frames)) c.in_ok-late.was late;
      whole = c.in_ok-hints.ensures;
    } in
    record {
      begun = c.in_ok-first.ensures;
      drops = subst (λ r. IfOk r (AreDrops a.trace labels numbers o dropped)) c.in_ok-drops.was drops;
      table = subst (λ r. IfOk r (ArePlacesOf a.trace numbers frames stores dropped)) c.in_ok-table.was table;
      told = c.in_ok-told.ensures numbers hints;
    }
