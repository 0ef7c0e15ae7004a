use Rattle.std.proofs.Common.{rules, ◌≡◌, ℕ, List, Option, Some, None, bytes_eq, if◌then◌else◌, unwrap_or, sym, ap, ◌∙◌}
use Rattle.std.proofs.lemmas.Map.Text.{hash_map_updates_str}
use Rattle.pmt_explanation.specs.Summing.{first_in}
use Rattle.pmt_explanation.proofs.numbering.first_with.Goals as goal

pub returns-clause-firsts : goal.returns-clause-firsts
returns-clause-firsts c = λ q.
    let text : List ℕ = c.args.text.now in
    let first : List ℕ → Option ℕ = first_in c.args.firsts.now in
    let none : first text ≡ None = search rules in
    let own : Some c.args.event ≡ Some (unwrap_or (first text) c.args.event) = ap (λ (o : Option ℕ). Some (unwrap_or o c.args.event)) (sym none) in
    let put = hash_map_updates_str text c.args.firsts.now c.insert.new.self _ c.in_ok-insert.ensures.updates q in
    put ∙ ap (λ (o : Option ℕ). if bytes_eq text q then o else first q) own
