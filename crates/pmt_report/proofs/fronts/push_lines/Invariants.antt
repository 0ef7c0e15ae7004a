use Rattle.std.proofs.Common.{◌≡◌, ◌++◌, length, drop}
use Rattle.pmt_laws.specs.Prelude.{flat_map, Recording}
use Rattle.pmt_report.specs.Reports.{AreLinesOf, line_entry}
use Rattle.pmt_report.proofs.fronts.push_lines.Given as goal

abbrev pub invariant-loop-slot : goal.invariant-loop-slot
invariant-loop-slot l =
    (T : Recording) → AreLinesOf T l.lines →
    l.text.items ++ flat_map (line_entry T (length T.events)) (drop l.slot l.all) ≡ l.initial.text.items ++ flat_map (line_entry T (length T.events)) l.all
