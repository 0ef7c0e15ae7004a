use Rattle.std.proofs.Common.{◌≡◌, List, ℕ, ◌++◌, ap, subst, IfOk, codes, string_bytes}
use Rattle.std.specs.Fmt.{decimal}
use Rattle.pmt_report.proofs.record_fault.line_fault.Goals as goal

pub returns : goal.returns
returns c =
    let script = c.args.script in
    let line = c.args.error.now.line in
    let same = ap (λ (name : List ℕ). codes "script " ++ (decimal script ++ (codes " line " ++ (decimal line ++ (codes ": " ++ name))))) c.name-name.ensures in
    subst (λ (bytes : List ℕ). IfOk c.format.result (λ s. string_bytes s ≡ bytes)) same c.format.ensures.ok
