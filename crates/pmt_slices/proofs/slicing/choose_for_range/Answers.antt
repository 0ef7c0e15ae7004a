use Rattle.pmt_slices.proofs.Prelude.{◌≡◌, ◌+◌, suc, sym, subst, arith, IsScan}
use Rattle.pmt_slices.proofs.VerdictLemmas.{last-by_now}
use Rattle.pmt_slices.proofs.ChosenLemmas.{chosen-none}
use Rattle.pmt_slices.proofs.slicing.choose_for_range.Goals as goal

pub returns-clause-chosen : goal.returns-clause-chosen
returns-clause-chosen c =
    let T = c.args.trace.now in
    let A = c.args.range in
    let n = c.args.number in
    let past : n + 1 ≡ suc n = omega arith in
    c.go_back_to_start.ensures.chosen A (record {
      scan = subst (λ p. IsScan T A n p c.in_ok-scan.scan) past (c.in_ok-scan.ensures T n (sym c.format.ensures.value) past);
      unwritten = c.in_ok-unwritten.ensures T n;
      chosen = chosen-none T A n c.args.chosen.now c.requires.size (last-by_now T n A);
    })
