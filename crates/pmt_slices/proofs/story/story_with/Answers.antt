use Rattle.pmt_slices.proofs.Prelude.{◌≡◌, suc, length, refl, sym, ap, subst, ◌∙◌, arith, line_of, IsChosen, IsComing, Chooses, IsOfFailure}
use Rattle.pmt_slices.proofs.TakenLemmas.{refill-all}
use Rattle.pmt_slices.proofs.StoryLemmas.{story-made}
use Rattle.pmt_slices.proofs.story.story_with.Goals as goal

pub returns : goal.returns
returns c =
    let T = c.args.trace.now in
    let n = c.args.number in
    let f = c.args.failure.now in
    let flags = c.in_ok-chosen.chosen in
    let ws = c.choose_failure.new.chosen in
    let after = c.in_ok-coming.coming in
    let coming = subst (λ a. IsComing T (line_of T.format a) f.lost.store (suc n) after) c.addr.ensures.value c.in_ok-coming.ensures in
    let chooses = subst (λ xs. Chooses (IsOfFailure f after (length xs)) xs ws) c.as_mut_slice.ensures.value c.choose_failure.ensures in
    let same = refill-all flags.len flags.items ws (omega (arith, c.as_mut_slice.ensures.len, ap (λ xs. length xs) c.as_mut_slice.ensures.value)) chooses.size in
    let seen : c.as_slice.result.now ≡ ws = c.as_slice.ensures.value ∙ same in
    story-made T n f (line_of T.format c.args.store.addr) c.args.store _ flags.items ws c.requires.store c.requires.order c.requires.within coming c.in_ok-numbers.ensures.rising
    (λ k. let just = c.in_ok-numbers.ensures.just k in (λ has. subst (λ xs. IsChosen xs k) seen (just.0 has), λ own. just.1 (subst (λ xs. IsChosen xs k) (sym seen) own)))
    c.in_ok-chosen.ensures.just c.in_ok-chosen.ensures.size chooses refl refl c.kept_store.ensures
