use Rattle.std.proofs.Common.{◌≡◌, List, ℕ, ◌++◌, ◌<◌, ◌^◌, arith, ap, sym, subst, IfOk, codes, string_bytes}
use Rattle.pmt_report.proofs.Decimals.{numeral-decimal}
use Rattle.pmt_report.proofs.fault.place_fault.Goals as goal

pub returns : goal.returns
returns c =
    let events = c.args.events in
    let small : events < 2 ^ 64 = omega arith in
    let same = ap (λ (digits : List ℕ). codes "place past end " ++ digits) (sym (numeral-decimal events small)) in
    subst (λ (bytes : List ℕ). IfOk c.format.result (λ s. string_bytes s ≡ bytes)) same c.format.ensures.ok
