use Rattle.std.proofs.Common.{refl, sym, subst, arith}
use Rattle.pmt_laws.specs.Prelude.{empty, IsTrace}
use Rattle.pmt_sweep.specs.Judged.{AreOldestOf}
use Rattle.pmt_sweep.specs.Passing.{AreFlagsTo}
use Rattle.pmt_sweep.specs.Found.{AreKnownTo, AreVerdictsTo}
use Rattle.pmt_sweep.proofs.FlagLemmas.{flags-start}
use Rattle.pmt_sweep.proofs.OldestLemmas.{oldest-start}
use Rattle.pmt_sweep.proofs.PassKnownLemmas.{known-start}
use Rattle.pmt_sweep.proofs.VerdictLemmas.{verdicts-start}
use Rattle.pmt_sweep.proofs.sweeping.Sweeper.new.Goals as goal

pub returns : goal.returns
returns c =
    let T = empty c.args.format in
    let trace : IsTrace T = record { format = c.line_size-is_format.ensures.allowed; few = omega arith; each = tt } in
    record {
      format = refl;
      known = c.in_ok-new.ensures T trace refl;
      oldest = subst (AreOldestOf T 0) (sym c.new-2.ensures) (oldest-start T);
      found = subst (AreKnownTo T 0) (sym c.new-3.ensures.items) (known-start T);
      over = c.new-4.ensures.items;
      kept = subst (AreFlagsTo T 0) (sym c.new-5.ensures.items) (flags-start T);
      verdicts = subst (AreVerdictsTo T 0) (sym c.new-6.ensures.items) (verdicts-start T);
    }
