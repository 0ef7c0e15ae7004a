-- The line has as many bytes as were taken.
use Rattle.std.proofs.Common.{true, subst}
use Rattle.pmt_text.specs.Spelled.{Adds}
use Rattle.pmt_text.proofs.StoreReading.{adds-line}
use Rattle.pmt_text.proofs.plain.add_other.Goals as goal

pub returns-in-true : goal.returns-in-true
returns-in-true c =
    let e = c.in-Some.event in
    let added : Adds e true c.args.trace.now c.add.new.trace = subst (λ b. Adds e b c.args.trace.now c.add.new.trace) c.in-true.is c.in_ok-add.ensures in
    adds-line e c.args.trace.now c.add.new.trace c.args.text.now c.in-Some.rest.now c.in-Some.ensures added.0 added.1
