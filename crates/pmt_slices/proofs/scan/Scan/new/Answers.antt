use Rattle.pmt_slices.proofs.Prelude.{refl, sym, subst, IsSpanned}
use Rattle.pmt_slices.proofs.ScanLemmas.{scan-new, spanned-few}
use Rattle.pmt_slices.proofs.scan.Scan.new.Goals as goal

pub nothing_comes-requires : goal.nothing_comes-requires
nothing_comes-requires c = let few = spanned-few c.lines_are_met.ensures c.args.format c.args.range c.new-spanned.result c.new-spanned.ensures in record { order = few.0; few = few.1 }

pub returns : goal.returns
returns c = λ T n format past.
    let spanned = subst (λ f. IsSpanned f c.args.range c.new-spanned.result) (sym format) c.new-spanned.ensures in
    scan-new c.lines_are_met.ensures T c.args.range n c.args.past c.new-spanned.result _ spanned past refl c.in_ok-lines.ensures.size c.in_ok-lines.ensures.each refl refl
