use Rattle.std.proofs.Common.{suc, List, refl, sym, subst}
use Rattle.pmt_laws.specs.Prelude.{Stores, line_of}
use Rattle.pmt_tables.specs.declared.words.Overwrite.{Overwrite}
use Rattle.pmt_sweep.specs.Known.{AddsOverwrittenBy}
use Rattle.pmt_sweep.specs.Passing.{AreFlagsTo}
use Rattle.pmt_sweep.proofs.FlagLemmas.{flags-stays}
use Rattle.pmt_sweep.proofs.OldestLemmas.{oldest-on}
use Rattle.pmt_sweep.proofs.PassKnownLemmas.{adds-overwritten, known-next}
use Rattle.pmt_sweep.proofs.VerdictLemmas.{verdicts-act}
use Rattle.pmt_sweep.proofs.sweeping.Sweeper.take_store.Goals as goal

pub store-requires : goal.store-requires
store-requires c = (c.requires.0, c.requires.1, c.requires.2.known, c.requires.3)

pub returns : goal.returns
returns c T n pass next =
    let s = c.args.self.now in
    let w = c.args.store.now in
    let over = c.store.new.over.items in
    let by = subst (λ (old : List Overwrite). AddsOverwrittenBy T (suc n) old over) pass.over (c.in_ok-store.ensures.tells T n pass.known next) in
    let adds = adds-overwritten T (suc n) (line_of T.format w.addr) w over s.found.items c.move_overwritten.new.found.items next by c.in_ok-move_overwritten.ensures.found in
    record {
      format = pass.format;
      known = c.in_ok-store.ensures.known T n pass.known next;
      oldest = oldest-on T n s.oldest.found.items pass.oldest;
      found = known-next T n s.found.items c.move_overwritten.new.found.items pass.found adds;
      over = c.in_ok-move_overwritten.ensures.none;
      kept = subst (AreFlagsTo T (suc n)) (sym c.in_ok-push.ensures.items) (flags-stays T n s.kept.items (Stores (line_of T.format w.addr) w) next refl pass.kept);
      verdicts = verdicts-act T n s.verdicts.items (Stores (line_of T.format w.addr) w) next (λ e. cc) pass.verdicts;
    }
