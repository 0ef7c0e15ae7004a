use Rattle.std.proofs.Common.{◌≡◌, ◌++◌, List, take}
use Rattle.std.specs.List.{flat_map}
use Rattle.pmt_explanation.specs.Prelude.{ShownCrash, AreShownCrashes}
use Rattle.pmt_explain_json.specs.Entries.{failure_line}
use Rattle.pmt_explain_json.proofs.lines.push_failures.Given as goal

abbrev pub invariant-loop-shown : goal.invariant-loop-shown
invariant-loop-shown l =
    (crashes : List ShownCrash) × AreShownCrashes l.trace (take l.shown-index l.failures) crashes
    × (l.text.items ≡ l.initial.text.items ++ flat_map (failure_line l.trace l.labels) crashes)
