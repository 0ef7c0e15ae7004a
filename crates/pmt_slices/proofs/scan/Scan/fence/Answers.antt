use Rattle.std.proofs.Common.{refl, arith}
use Rattle.pmt_slices.proofs.ScanLemmas.{scan-fence}
use Rattle.pmt_slices.proofs.scan.Scan.fence.Goals as goal

pub returns : goal.returns
returns c = λ T A m past is number early old. scan-fence T A m past c.args.thread c.args.number c.args.self.now _ is number early (omega arith) refl refl refl refl old
