use Rattle.std.proofs.Common.{◌≡◌, subst, sym, take, map}
use Rattle.pmt_explanation.specs.Explaining.{first_members}
use Rattle.pmt_failures.specs.declared.failures.ShownFailure.{ShownFailure}
use Rattle.pmt_explanation.proofs.CausingLemmas.{shown-firsts}
use Rattle.pmt_explanation.proofs.explaining.explained.Goals as goal

pub returns-clause-explained : goal.returns-clause-explained
returns-clause-explained c = λ labels o p same.
    let T = c.args.analysis.trace in
    let parts = c.args.parts in
    let failed = parts.found.begun.risks.broken.failed in
    let firsts = p.found.begun.firsts in
    let drops = p.found.drops in
    let lost = p.found.begun.risks.lost in
    let broken = p.found.begun.risks.broken in
    let shown = shown-firsts T parts.frames.items failed.asked.items failed.causes.items o.limit failed.shown.items broken.causes broken.shown in
    record {
      failing = broken.failing;
      asked_failing = broken.asked_failing;
      label_numbers = p.label_numbers;
      frames = p.frames;
      places = p.found.table.places;
      paths = p.found.table.paths;
      left_paths = p.found.table.left_paths;
      hints = p.found.told.hints;
      asked_hints = p.found.told.asked;
      entries = p.found.told.entries;
      causes = broken.causes;
      failures = broken.shown.each;
      shown = subst (λ k. map (λ (s : ShownFailure). s.event) failed.shown.items ≡ take k (first_members failed.causes.items)) (sym same) shown;
      stores = lost.stores;
      lost = lost.groups;
      lost_causes = lost.causes;
      dropped = firsts.dropped;
      asked_dropped = drops.asked;
      dropped_groups = drops.groups;
      late = firsts.late;
      waited = firsts.waited;
      overwritten = broken.overwritten;
      unwritten = lost.unwritten;
      ignored_stores = lost.ignored;
      ignored_pairs = broken.ignored_pairs;
    }
