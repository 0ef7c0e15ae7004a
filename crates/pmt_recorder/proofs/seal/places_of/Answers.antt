use Rattle.std.proofs.Common.{◌≡◌, ◌≢◌, ℕ, get_or, arith, get_or-set_other, get_or-set_same, below_more, sym, subst, ◌∙◌}
use Rattle.std.proofs.Math.ListN.{set, length-set}
use Rattle.pmt_recorder.specs.Strips.{IsPlaceOf}
use Rattle.pmt_recorder.proofs.seal.places_of.Goals as goal

pub loop-thread-preserved : goal.loop-thread-preserved
loop-thread-preserved g c =
    let l = c.loop-thread in
    let at : get_or (set l.places l.thread c.place_of.result) l.thread 0 ≡ c.place_of.result = get_or-set_same l.places l.thread c.place_of.result 0 (omega (arith, l.invariant.size, c.requires.few)) in
    record {
      size = length-set l.places l.thread c.place_of.result ∙ l.invariant.size;
      found = below_more _ _
          (λ k h. let ne : k ≢ l.thread = omega arith in rw get_or-set_other (l.invariant.found k h))
          (subst (λ (p : ℕ). IsPlaceOf l.thread c.args.tapes.now p) (sym at) c.place_of.ensures);
    }
