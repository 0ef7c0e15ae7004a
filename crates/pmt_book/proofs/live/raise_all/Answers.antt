use Rattle.std.proofs.Common.{◌≡◌, ◌-◌, ◌<◌, [], length, drop, get_or, sym, ap, subst, arith}
use Rattle.std.proofs.lemmas.List.{drop_all, get_or_default, length-map}
use Rattle.std.proofs.lemmas.Option.{slice_get-get_or}
use Rattle.pmt_rows.specs.declared.open.OpenFlush.{OpenFlush}
use Rattle.pmt_rows.specs.Known.{AreRows, row_by}
use Rattle.pmt_rows.specs.Waiting.{raise_all, waits_all}
use Rattle.pmt_rows.proofs.FencingLemmas.{line_in, raising-next}
use Rattle.pmt_book.proofs.live.raise_all.Goals as goal

abbrev none : OpenFlush
none = record { number = 0; slot = 0; store = 0 }

pub loop-index-init : goal.loop-index-init
loop-index-init c = λ lines last safe flush inside is.
    let done : drop (length c.args.flushes.now) c.args.flushes.now ≡ [] = drop_all (length c.args.flushes.now) c.args.flushes.now (omega arith) in
    subst (λ fs. AreRows lines last (raise_all (waits_all lines fs) safe) flush c.args.rows.now) (sym done) is

pub raise-requires : goal.raise-requires
raise-requires c =
    let r = c.requires in
    let so_far = c.loop-index.invariant r.0 r.1 r.2 r.3 r.5 r.4 in
    let safe = raise_all (waits_all r.0 (drop c.loop-index.index c.args.flushes.now)) r.2 in
    omega (arith, r.5 (c.loop-index.index - 1) none (omega arith), ap length so_far.rows, length-map r.0 (row_by r.1 safe r.3))

pub loop-index-preserved : goal.loop-index-preserved
loop-index-preserved c = λ lines last safe flush inside is.
    let xs = c.args.flushes.now in
    let i = c.loop-index.index in
    let within : i - 1 < length xs = omega arith in
    let x = get_or xs (i - 1) none in
    let at = slice_get-get_or lines x.slot 0 (inside (i - 1) none within) in
    raising-next lines last safe flush c.raise.new.self xs i x (omega arith) (omega arith) (get_or_default xs (i - 1) none x within)
    (c.raise.ensures.raised lines last (raise_all (waits_all lines (drop i xs)) safe) flush (line_in lines x) at (c.loop-index.invariant lines last safe flush inside is))
