use Rattle.pmt_slices.proofs.Prelude.{◌≡◌, length, refl, sym, ap, subst, ◌∙◌, arith, elements, line_of, IsChosen, Chooses, line_in, AreOthers, IsOfStory}
use Rattle.pmt_slices.proofs.TakenLemmas.{refill-all}
use Rattle.pmt_slices.proofs.StoreStoryLemmas.{store-story-made}
use Rattle.pmt_slices.proofs.store_story.story_with.Goals as goal

pub returns : goal.returns
returns c =
    let T = c.args.trace.now in
    let t = c.args.thread in
    let j = c.args.number in
    let w = c.args.store in
    let fate = c.in_ok-fate.fate in
    let others = c.in_ok-others.others in
    let flags = c.in_ok-chosen.chosen in
    let ws = c.choose_story.new.chosen in
    let line : c.line_of-line.result ≡ line_in T w = c.line_of-line.ensures ∙ ap (λ f. line_of f c.addr.result) c.format.ensures.value ∙ ap (line_of T.format) c.addr.ensures.value in
    let are = subst (λ l. AreOthers T t l j others) line c.in_ok-others.ensures in
    let told = subst (λ os. Chooses (IsOfStory j fate os (length c.as_mut_slice.result.now)) c.as_mut_slice.result.now ws) c.numbers.ensures.value c.choose_story.ensures in
    let chooses = subst (λ xs. Chooses (IsOfStory j fate others (length xs)) xs ws) c.as_mut_slice.ensures.value told in
    let same = refill-all flags.len flags.items ws (omega (arith, c.as_mut_slice.ensures.len, ap (λ xs. length xs) c.as_mut_slice.ensures.value)) chooses.size in
    let seen : c.as_slice.result.now ≡ ws = c.as_slice.ensures.value ∙ same in
    store-story-made T t j w _ flags.items ws c.requires.store refl c.len-2.ensures.value c.in_ok-fate.ensures are c.in_ok-numbers.ensures.rising
    (λ k. let just = c.in_ok-numbers.ensures.just k in (λ has. subst (λ xs. IsChosen xs k) seen (just.0 has), λ own. just.1 (subst (λ xs. IsChosen xs k) (sym seen) own)))
    c.in_ok-chosen.ensures.none (c.in_ok-chosen.ensures.size ∙ c.len.ensures.value) chooses

pub returns-in_err-numbers : goal.returns-in_err-numbers
returns-in_err-numbers c = grind (arith, elements)
