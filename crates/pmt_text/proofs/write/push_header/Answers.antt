-- The header of either version.
use Rattle.std.proofs.Common.{rules, append_assoc, sym, ◌∙◌}
use Rattle.pmt_text.proofs.LineWriting.{header-first, header-second}
use Rattle.pmt_text.proofs.write.push_header.Goals as goal

pub returns-then-version-eq1 : goal.returns-then-version-eq1
returns-then-version-eq1 c = rw (header-first c.args.format (sym c.version.ensures.value ∙ c.if-version-eq1.true)) (search rules)

pub returns : goal.returns
returns c = rw (header-second c.args.format (λ e. c.if-version-eq1.false (c.version.ensures.value ∙ e))) (search (rules, append_assoc))
