use Rattle.pmt_tables.specs.Flags.{marked_from}
use Rattle.pmt_tables.proofs.FlagLemmas.{marked-rise, has-numbers}
use Rattle.pmt_sweep.proofs.FlagLemmas.{flags-keep}
use Rattle.pmt_sweep.proofs.VerdictLemmas.{verdicts-end}
use Rattle.pmt_sweep.proofs.sweeping.Sweeper.finish.Goals as goal

pub of-requires : goal.of-requires
of-requires c = (c.requires.0, c.requires.1.known)

pub returns-clause-lines : goal.returns-clause-lines
returns-clause-lines c T swept = c.in_ok-lines.ensures.lines T swept.known

pub returns-clause-findings : goal.returns-clause-findings
returns-clause-findings c T swept = c.in_ok-findings.ensures T swept.found (c.in_ok-lines.ensures.lost T swept.known)

pub returns-clause-verdicts : goal.returns-clause-verdicts
returns-clause-verdicts c T swept = verdicts-end T c.args.self.verdicts.items swept.verdicts

pub returns-clause-kept : goal.returns-clause-kept
returns-clause-kept c T swept =
    let kept = c.args.self.kept.items in
    flags-keep T kept (marked_from 0 kept) swept.kept (marked-rise 0 kept) (has-numbers kept)

pub returns-clause-safe : goal.returns-clause-safe
returns-clause-safe c T swept = c.in_ok-lines.ensures.safe T swept.known
