use Rattle.std.proofs.Common.{rules, ◌≡◌, List, [], ◌++◌, ℕ, take}
use Rattle.std.specs.List.{flat_map}
use Rattle.pmt_explanation.specs.Prelude.{ShownCrash, AreShownCrashes}
use Rattle.pmt_explain_json.specs.Entries.{dropped_line, failure_line, lost_line, overwritten_line, unwritten_line}
use Rattle.pmt_explain_json.specs.Places.{cause_line}
use Rattle.pmt_explain_json.specs.Lines.{json_lines, summary_line, table_lines, entry_line, told_entries}
use Rattle.pmt_explain_json.proofs.Pushing.{pushed-9}
use Rattle.pmt_explain_json.proofs.lines.json_text.Goals as goal

pub returns : goal.returns
unfolding json_lines
returns c =
    let x = c.args.explanation.now in
    let T = x.analysis.trace in
    let labels = c.args.labels.now in
    let s = c.summary_of-counts.result in
    let a : List ℕ = summary_line x c.args.choice.now s c.args.lacks.now in
    let w : List ℕ = flat_map (entry_line x labels) (take x.limit (told_entries x c.args.choice.now)) in
    let k : List ℕ = flat_map (cause_line labels) (take x.limit x.causes.items) in
    let crashes : List ShownCrash = c.in_ok-push_failures.ensures.0 in
    let b : List ℕ = flat_map (failure_line T labels) crashes in
    let d : List ℕ = flat_map (lost_line T labels) (take x.limit x.lost.items) in
    let e : List ℕ = flat_map (dropped_line T labels) (take x.limit x.asked_dropped.items) in
    let f : List ℕ = flat_map (overwritten_line T labels) (take x.limit x.overwritten.items) in
    let g : List ℕ = flat_map (unwritten_line T labels) (take x.limit x.unwritten.items) in
    let h1 : c.push_summary.new.text.items ≡ [] ++ a = search rules in
    let h9 : c.push_entries.new.text.items ≡ c.push_summary.new.text.items ++ w = search rules in
    let h7 : c.push_causes.new.text.items ≡ c.push_entries.new.text.items ++ k = search rules in
    let h2 : c.push_failures.new.text.items ≡ c.push_causes.new.text.items ++ b = search (rules, c.in_ok-push_failures.ensures.2) in
    let h3 : c.push_losses.new.text.items ≡ c.push_failures.new.text.items ++ d = search rules in
    let h4 : c.push_drops.new.text.items ≡ c.push_losses.new.text.items ++ e = search rules in
    let h5 : c.push_overwritings.new.text.items ≡ c.push_drops.new.text.items ++ f = search rules in
    let h6 : c.push_unwrittens.new.text.items ≡ c.push_overwritings.new.text.items ++ g = search rules in
    let h8 : c.push_tables.new.text.items ≡ c.push_unwrittens.new.text.items ++ table_lines x labels = search rules in
    let are : AreShownCrashes T x.failures.items crashes = search (rules, c.in_ok-push_failures.ensures.1) in
    (s, crashes, c.summary_of-counts.ensures, are, pushed-9 [] _ _ _ _ _ _ _ _ _ a w k b d e f g (table_lines x labels) h1 h9 h7 h2 h3 h4 h5 h6 h8)
