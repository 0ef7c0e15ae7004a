use Rattle.pmt_fates.proofs.Prelude.{◌≡◌, length, ap, ◌∙◌, arith, rows_below, counts_in}
use Rattle.pmt_fates.proofs.figures.rows_of.Goals as goal

pub returns : goal.returns
returns c =
    let all : c.loop-thread.thread ≡ length c.args.threads.now = omega (arith, c.requires) in
    c.loop-thread.invariant ∙ ap (rows_below (counts_in c.args.threads.now)) all
