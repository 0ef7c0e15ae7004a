use Rattle.std.proofs.Common.{rules, ◌≡◌, true, false, List, ◌++◌, ℕ, take}
use Rattle.std.specs.List.{flat_map}
use Rattle.pmt_explain_json.specs.Places.{hint_line, place_line}
use Rattle.pmt_explain_json.specs.Lines.{late_line, table_lines}
use Rattle.pmt_explain_json.proofs.Pushing.{pushed-4}
use Rattle.pmt_explain_json.proofs.tables.push_tables.Goals as goal

pub returns : goal.returns
unfolding table_lines
returns c =
    let x = c.args.explanation.now in
    let T = x.analysis.trace in
    let labels = c.args.labels.now in
    let old : List ℕ = c.args.text.now.items in
    let p : List ℕ = flat_map (place_line T labels false) (take x.limit x.places.items) in
    let w : List ℕ = flat_map (place_line T labels true) (take x.limit x.left_paths.items) in
    let k : List ℕ = flat_map (hint_line T labels) (take x.limit x.asked_hints.items) in
    let a : List ℕ = flat_map (late_line T labels) (take x.limit x.late.items) in
    let h0 : c.push_places.new.text.items ≡ old ++ p = search rules in
    let h5 : c.push_places-2.new.text.items ≡ c.push_places.new.text.items ++ w = search rules in
    let h4 : c.push_hints.new.text.items ≡ c.push_places-2.new.text.items ++ k = search rules in
    let h1 : c.push_late_groups.new.text.items ≡ c.push_hints.new.text.items ++ a = search rules in
    pushed-4 old _ _ _ _ p w k a h0 h5 h4 h1
