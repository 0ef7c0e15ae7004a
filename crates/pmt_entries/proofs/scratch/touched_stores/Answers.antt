use Rattle.std.proofs.Common.{◌≡◌, ◌∙◌}
use Rattle.std.specs.List.{filter}
use Rattle.std.proofs.lemmas.Result.{IfOk-weaker}
use Rattle.pmt_entries.specs.Sites.{is_noted}
use Rattle.pmt_entries.proofs.ScratchLemmas.{stores-touched}
use Rattle.pmt_entries.proofs.scratch.touched_stores.Goals as goal

pub returns : goal.returns
returns c =
    let T = c.args.trace.now in
    let stores = c.args.stores.now in
    let made = c.in_ok-lines.ensures in
    IfOk-weaker c.stores_to.result (λ found. found.items ≡ filter (is_noted T c.in_ok-lines.lines) stores) _ (λ found same. same ∙ stores-touched T stores made.0 c.in_ok-lines.lines made.1 made.2) c.stores_to.ensures
