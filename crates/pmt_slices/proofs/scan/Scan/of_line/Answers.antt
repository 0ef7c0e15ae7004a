use Rattle.std.proofs.Common.{refl}
use Rattle.pmt_slices.proofs.ScanLemmas.{scan-line}
use Rattle.pmt_slices.proofs.scan.Scan.of_line.Goals as goal

pub returns : goal.returns
returns c = λ T A n past inside.
    let new = c.nothing.ensures in
    scan-line T A n c.args.past c.args.line c.nothing.result _ past inside refl c.in_ok-lines.ensures.items new.flush new.fence new.safe refl refl
