use Rattle.std.proofs.Common.{◌∙◌, refl}
use Rattle.pmt_slices.proofs.ScanLemmas.{IsOff, scan-clflush, scan-clflush-off}
use Rattle.pmt_slices.proofs.scan.Scan.clflush.Goals as goal

pub returns-in-Some : goal.returns-in-Some
returns-in-Some c = λ T A m past is number early old.
    let new = c.before_clflush.ensures in
    scan-clflush T A m past c.args.line c.in-Some.place c.args.self.now _ c.before_clflush.result is early c.in-Some.ensures.0 c.in-Some.ensures.1 (new.flush ∙ number) new.fence (new.safe ∙ number) (new.cover ∙ number) refl refl refl refl old

pub returns-in_default : goal.returns-in_default
returns-in_default c = λ T A m past is number early old. let off : IsOff c.args.self.now c.args.line = c.in_default.ensures in scan-clflush-off T A m past c.args.line c.args.self.now is off old
