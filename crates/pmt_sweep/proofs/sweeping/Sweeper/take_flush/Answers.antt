use Rattle.std.proofs.Common.{◌≡◌, suc, ◌+◌, ◌++◌, sym, ap, subst, ◌∙◌, arith}
use Rattle.pmt_laws.specs.Prelude.{RedundantFlush, Flushes}
use Rattle.pmt_sweep.specs.Found.{found_if}
use Rattle.pmt_sweep.specs.Passing.{AreFlagsTo}
use Rattle.pmt_sweep.proofs.FlagLemmas.{flags-flush}
use Rattle.pmt_sweep.proofs.OldestLemmas.{oldest-on}
use Rattle.pmt_sweep.proofs.PassKnownLemmas.{known-flush, known-next}
use Rattle.pmt_sweep.proofs.VerdictLemmas.{verdicts-act}
use Rattle.pmt_sweep.proofs.sweeping.Sweeper.take_flush.Goals as goal

pub flush-requires : goal.flush-requires
flush-requires c = (c.requires.0, c.requires.1, c.requires.2.known, c.requires.3)

pub returns : goal.returns
returns c T n pass is =
    let s = c.args.self.now in
    let b = c.in_ok-is_redundant.is_redundant in
    let number : c.len.result + 1 ≡ suc n = omega (arith, c.len.ensures, pass.kept.all) in
    let pushed = c.in_ok-push_if.ensures ∙ ap (λ i. s.found.items ++ found_if b (RedundantFlush i)) number in
    record {
      format = pass.format;
      known = c.in_ok-is_redundant.ensures.known T n pass.known is;
      oldest = oldest-on T n s.oldest.found.items pass.oldest;
      found = known-next T n s.found.items c.push_if.new.found.items pass.found (found_if b (RedundantFlush (suc n)), pushed, known-flush T (suc n) c.args.thread c.args.line b is (c.in_ok-is_redundant.ensures.tells T n pass.known is));
      over = pass.over;
      kept = subst (AreFlagsTo T (suc n)) (sym c.in_ok-push.ensures.items) (flags-flush T n c.args.thread c.args.line s.kept.items is pass.kept);
      verdicts = verdicts-act T n s.verdicts.items (Flushes c.args.thread c.args.line) is (λ e. cc) pass.verdicts;
    }
