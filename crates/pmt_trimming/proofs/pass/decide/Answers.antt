use Rattle.std.proofs.Common.{◌-◌, ◌<◌, length, drop, get_or, refl, ap, ◌∙◌, arith}
use Rattle.std.specs.Prelude.{nat_lt}
use Rattle.std.proofs.lemmas.List.{get_or_default, length-set, length-map}
use Rattle.std.proofs.lemmas.Option.{slice_get-get_or}
use Rattle.pmt_laws.specs.Prelude.{last_flush, history}
use Rattle.pmt_safety.specs.Safety.{last_line_store, safe_store_at}
use Rattle.pmt_rows.specs.declared.open.OpenFlush.{OpenFlush}
use Rattle.pmt_rows.specs.Known.{row_after}
use Rattle.pmt_rows.specs.Waiting.{raise_all, waits_all}
use Rattle.pmt_rows.proofs.FencingLemmas.{line_in}
use Rattle.pmt_trimming.proofs.FencingLemmas.{deciding-none, deciding-next, deciding-all, has-mark}
use Rattle.pmt_trimming.proofs.pass.decide.Goals as goal

-- What is read past the last flush.
abbrev none : OpenFlush
none = record { number = 0; slot = 0; store = 0 }

pub loop-i-init : goal.loop-i-init
loop-i-init c = record { size = refl; decides = λ T n lines at. deciding-none T n lines c.args.settled c.args.flushes.now c.args.rows.now c.args.marks.now.items at _ refl }

pub raise-safe-requires : goal.raise-safe-requires
raise-safe-requires c =
    let r = c.requires in
    let T = r.0 in
    let n = r.1 in
    let lines = r.2 in
    let so_far = c.loop-i.invariant.decides T n lines r.3 in
    let safe = raise_all (waits_all lines (drop c.loop-i.i c.args.flushes.now)) (λ l. safe_store_at T l n) in
    omega (arith, r.3.within (c.loop-i.i - 1) none (omega arith), ap length so_far.known.rows, length-map lines (row_after safe (history T n)))

pub overflow_sub-index : goal.overflow_sub-index
overflow_sub-index c =
    let r = c.requires in
    let range = has-mark r.0 r.1 r.2 c.args.settled c.args.flushes.now c.args.rows.now c.args.marks.now.items r.3 (c.loop-i.i - 1) none (omega arith) in
    omega (arith, range.0)

pub overflow_sub-index-in-loop-i : goal.overflow_sub-index-in-loop-i
overflow_sub-index-in-loop-i c =
    let r = c.requires in
    let range = has-mark r.0 r.1 r.2 c.args.settled c.args.flushes.now c.args.rows.now c.args.marks.now.items r.3 (c.loop-i.i - 1) none (omega arith) in
    omega (arith, range.0)

pub put-requires : goal.put-requires
put-requires c =
    let r = c.requires in
    let range = has-mark r.0 r.1 r.2 c.args.settled c.args.flushes.now c.args.rows.now c.args.marks.now.items r.3 (c.loop-i.i - 1) none (omega arith) in
    omega (arith, range.0, range.1, c.loop-i.invariant.size)

pub loop-i-preserved : goal.loop-i-preserved
loop-i-preserved c = record {
  size = ap length c.put.ensures ∙ length-set c.loop-i.marks.items _ c.mark_of.result ∙ c.loop-i.invariant.size;
  decides = λ T n lines at.
      let xs = c.args.flushes.now in
      let i = c.loop-i.i in
      let x = get_or xs (i - 1) none in
      let within : i - 1 < length xs = omega arith in
      let so_far = c.loop-i.invariant.decides T n lines at in
      let there = slice_get-get_or lines x.slot 0 (at.within (i - 1) none within) in
      let safe = raise_all (waits_all lines (drop i xs)) (λ l. safe_store_at T l n) in
      let raised = c.raise-safe.ensures.raised lines (λ l. last_line_store l (history T n)) safe (λ l. last_flush l (history T n)) (line_in lines x) there so_far.known in
      let was = c.raise-safe.ensures.was lines (λ l. last_line_store l (history T n)) safe (λ l. last_flush l (history T n)) (line_in lines x) there so_far.known in
      rw (c.put.ensures, c.mark_of.ensures)
      (deciding-next T n lines c.args.settled xs c.args.rows.now c.args.marks.now.items at i x (omega arith) (omega arith) (get_or_default xs (i - 1) none x within) c.loop-i.rows c.raise-safe.new.self c.loop-i.marks.items
      c.loop-i.rises (nat_lt c.raise-safe.result x.store) _ c.raise-safe.result so_far was refl refl raised);
}

pub returns-clause-decides : goal.returns-clause-decides
returns-clause-decides c = λ T n lines at.
    deciding-all T n lines c.args.settled c.args.flushes.now c.args.rows.now c.args.marks.now.items at c.loop-i.rows c.loop-i.marks.items c.loop-i.i c.loop-i.rises (omega arith) (c.loop-i.invariant.decides T n lines at)
