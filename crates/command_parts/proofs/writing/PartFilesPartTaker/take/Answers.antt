use Rattle.std.proofs.Common.{arith}
use Rattle.command_parts.proofs.CountingLemmas.{counted-more}
use Rattle.command_parts.proofs.writing.PartFilesPartTaker.take.Goals as goal

pub returns : goal.returns
returns g c parts counted =
    let now = c.in_ok-self.ensures in
    counted-more parts c.args.part.now c.args.self.now.written c.in_ok-self.field-0 counted (omega (arith, now.0, c.saturating_add-number.ensures)) now.1
