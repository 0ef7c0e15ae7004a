use Rattle.pmt_slices.proofs.Prelude.{◌∙◌, ap, sym, refl, Some, arith, slice_get-get_or}
use Rattle.pmt_slices.proofs.ScanLemmas.{IsOff, scan-flush, scan-flush-off}
use Rattle.pmt_slices.proofs.scan.Scan.flush.Goals as goal

pub returns-in-Some : goal.returns-in-Some
returns-in-Some c = λ T A m past is number early old.
    let s = c.args.self.now in
    let coming = c.index-coming.result.now in
    let here = slice_get-get_or s.lines.items c.in-Some.place coming c.in-Some.ensures.1 ∙ ap Some (sym c.index-coming.ensures) in
    scan-flush T A m past c.args.thread c.args.line c.in-Some.place _ s _ coming c.before_flush.result is early (omega arith) c.in-Some.ensures.0 c.in-Some.ensures.1 refl here
    (c.before_flush.ensures.flush ∙ number) c.before_flush.ensures.fence (λ by. let x = c.before_flush.ensures.sooner by in (x.0, x.1 ∙ number)) c.before_flush.ensures.later refl refl refl refl old

pub returns-in_default : goal.returns-in_default
returns-in_default c = λ T A m past is number early old. let off : IsOff c.args.self.now c.args.line = c.in_default.ensures in scan-flush-off T A m past c.args.thread c.args.line c.args.self.now is off old
