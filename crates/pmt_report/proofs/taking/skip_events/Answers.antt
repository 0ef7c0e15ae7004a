use Rattle.std.proofs.Common.{◌∷◌, [], ◌++◌}
use Rattle.pmt_text.proofs.SourceLemmas.{Gives-trans}
use Rattle.pmt_report.proofs.TakingLemmas.{open-some, count-ok, ends-after}
use Rattle.pmt_report.proofs.taking.skip_events.Goals as goal

pub skip-preserved : goal.skip-preserved
skip-preserved g c =
    let given = rw c.in-Some.is at c.in_ok-next.ensures in
    let before = c.skip.invariant in
    record {
      still_open = open-some _ _ _ before.still_open given.told;
      events = (before.events.0 ++ c.in-Some.field-0 ∷ [], Gives-trans _ _ _ _ _ before.events.1 given.taken);
      count = count-ok _ _ _ _ before.count given.failures;
      within = λ bytes read. given.within bytes (before.within bytes read);
    }

pub returns-in-None-clause-taken : goal.returns-in-None-clause-taken
returns-in-None-clause-taken g c =
    let given = rw c.in-None.is at c.in_ok-next.ensures in
    let before = c.skip.invariant in
    (before.events.0, ends-after _ _ _ _ before.events.1 given.taken)
