use Rattle.std.proofs.Common.{◌≡◌, Bool, List, [], ◌∷◌, suc, ◌+◌, ◌++◌, length, drop, sym, ap, subst, ◌∙◌, arith}
use Rattle.std.proofs.lemmas.List.{take_at}
use Rattle.pmt_laws.specs.Prelude.{FenceWithoutFlush, Fences}
use Rattle.pmt_sweep.specs.Passing.{FlagsKept, AreFlagsTo}
use Rattle.pmt_sweep.specs.Found.{found_if}
use Rattle.pmt_sweep.proofs.FlagLemmas.{flags-fence}
use Rattle.pmt_sweep.proofs.OldestLemmas.{oldest-on}
use Rattle.pmt_sweep.proofs.PassKnownLemmas.{known-fence, known-next}
use Rattle.pmt_sweep.proofs.VerdictLemmas.{verdicts-act}
use Rattle.pmt_sweep.proofs.sweeping.Sweeper.take_fence.Goals as goal

pub fence-requires : goal.fence-requires
fence-requires c = (c.requires.0, c.requires.1, c.requires.2.known, c.requires.3, ap length c.as_mut_slice.ensures.value ∙ c.requires.2.kept.all)

pub returns : goal.returns
returns c T n pass is =
    let s = c.args.self.now in
    let t = c.args.thread in
    let fenced = c.in_ok-fenced.fenced in
    let flags = c.fence.new.kept in
    let number : c.len.result + 1 ≡ suc n = omega (arith, c.len.ensures, pass.kept.all) in
    let pushed = c.in_ok-push_if.ensures ∙ ap (λ i. s.found.items ++ found_if fenced.without_flush (FenceWithoutFlush i)) number in
    let kept = subst (λ (old : List Bool). FlagsKept T n t old flags) c.as_mut_slice.ensures.value (c.fence.ensures.flags T n pass.known is) in
    let same : length flags ≡ length s.kept.items = omega arith in
    let all : length flags ≡ s.kept.len = omega (arith, same) in
    let added = c.in_ok-push.ensures.items ∙ ap (λ (bs : List Bool). bs ++ fenced.kept ∷ []) (take_at flags (drop (length flags) s.kept.items) s.kept.len all) in
    record {
      format = pass.format;
      known = c.in_ok-fenced.ensures.known T n pass.known is;
      oldest = oldest-on T n s.oldest.found.items pass.oldest;
      found = known-next T n s.found.items c.push_if.new.found.items pass.found (found_if fenced.without_flush (FenceWithoutFlush (suc n)), pushed, known-fence T (suc n) t fenced.without_flush is (c.in_ok-fenced.ensures.empty T n pass.known is));
      over = pass.over;
      kept = subst (AreFlagsTo T (suc n)) (sym added) (flags-fence T n t s.kept.items flags fenced.kept is same pass.kept kept (c.in_ok-fenced.ensures.kept T n pass.known is));
      verdicts = verdicts-act T n s.verdicts.items (Fences t) is (λ e. cc) pass.verdicts;
    }
