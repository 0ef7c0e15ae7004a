use Rattle.pmt_page.proofs.Prelude.{◌∷◌, arith, source_file}
use Rattle.pmt_page.proofs.Pushing.{piece-pushed, pieces-pushed}
use Rattle.pmt_page.proofs.sources.push_later_files.Goals as goal

pub loop-file-preserved : goal.loop-file-preserved
loop-file-preserved c =
    piece-pushed (λ x. 44 ∷ source_file x) c.args.files.now c.loop-file.file-index _ _ _ _ c.loop-file-test.true c.loop-file.invariant c.in_ok-push_later_file.ensures

pub returns : goal.returns
returns c = pieces-pushed (λ x. 44 ∷ source_file x) c.args.files.now c.loop-file.file-index _ _ c.loop-file.invariant (omega (arith, c.loop-file-test.false))
