use Rattle.pmt_slices.proofs.Prelude.{◌∙◌, ap, sym, subst, Some, slice_get-get_or, IsComing}
use Rattle.pmt_slices.proofs.scan.Scan.coming.Goals as goal

pub returns-in-Some : goal.returns-in-Some
returns-in-Some c = λ T A m past old.
    let coming = c.index.result.now in
    let here = slice_get-get_or c.args.self.now.lines.items c.in-Some.place coming c.in-Some.ensures.1 ∙ ap Some (sym c.index.ensures) in
    subst (λ l. IsComing T l m past coming) c.in-Some.ensures.0 (old.lines c.in-Some.place coming here)
