use Rattle.pmt_explain.proofs.behind.Behind.reason.Goals as goal

pub returns-then-is_kept : goal.returns-then-is_kept
returns-then-is_kept c = c.requires.kept c.if-is_kept.true
