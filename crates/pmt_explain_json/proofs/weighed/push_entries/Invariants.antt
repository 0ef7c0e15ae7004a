use Rattle.std.proofs.Common.{◌≡◌, ◌++◌, drop}
use Rattle.std.specs.List.{flat_map}
use Rattle.pmt_explain_json.specs.Lines.{entry_line}
use Rattle.pmt_explain_json.proofs.weighed.push_entries.Given as goal

abbrev pub invariant-loop-entry : goal.invariant-loop-entry
invariant-loop-entry l =
    l.text.items ++ flat_map (entry_line l.explanation l.labels) (drop l.entry-index l.entries)
    ≡ l.initial.text.items ++ flat_map (entry_line l.explanation l.labels) l.entries
