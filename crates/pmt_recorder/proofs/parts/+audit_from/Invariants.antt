use Rattle.std.proofs.Common.{length}
use Rattle.pmt_recorder.proofs.parts.+audit_from.Given as goal

abbrev pub decreases-audit_from : goal.decreases-audit_from
decreases-audit_from g l = length l.tapes.now
