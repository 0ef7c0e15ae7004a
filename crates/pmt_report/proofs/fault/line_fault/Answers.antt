use Rattle.std.proofs.Common.{◌≡◌, List, ℕ, ◌++◌, ◌<◌, ◌^◌, arith, ap, ◌∙◌, subst, IfOk, codes, string_bytes}
use Rattle.pmt_text.specs.Spelling.{numeral}
use Rattle.pmt_report.proofs.Decimals.{fault-of_line}
use Rattle.pmt_report.proofs.fault.line_fault.Goals as goal

pub returns : goal.returns
returns c =
    let line = c.args.fault.now.line in
    let small : line < 2 ^ 64 = omega arith in
    let same = fault-of_line line c.name-name.result.now small
    ∙ ap (λ (name : List ℕ). codes "trace line " ++ numeral 10 line ++ codes ": " ++ name) c.name-name.ensures in
    subst (λ (bytes : List ℕ). IfOk c.format.result (λ s. string_bytes s ≡ bytes)) same c.format.ensures.ok
