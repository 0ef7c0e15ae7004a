use Rattle.std.proofs.Common.{◌≡◌, ℕ, ◌+◌, ◌-◌, ◌<◌, ◌≤◌, List, [], ◌∷◌, ◌++◌, length, refl, Some, sym, ◌∙◌, ap, subst, get_or, take, arith}
use Rattle.std.proofs.lemmas.Grind.{common_steps}
use Rattle.std.proofs.lemmas.List.{take_all}
use Rattle.std.specs.List.{AllByRecursion, filter_map}
use Rattle.pmt_model.specs.declared.event.Event.{Event}
use Rattle.pmt_model.specs.Traces.{Recording, event, IsTrace}
use Rattle.pmt_model.specs.Selections.{IsRising, cut}
use Rattle.pmt_model.proofs.SelectLemmas.{all-at, rising-above, select-more, event-within, cut-is-trace}
use Rattle.pmt_model.proofs.trace.Trace.select.Goals as goal

pub overflow_sub-number : goal.overflow_sub-number
overflow_sub-number c =
    let rising : IsRising 0 c.numbers-numbers.result.now = subst (λ (ks : List ℕ). IsRising 0 ks) (sym c.numbers-numbers.ensures.value) c.numbers-numbers.ensures.rising in
    rising-above 0 c.numbers-numbers.result.now c.loop-number.number-index rising (omega arith)

pub loop-number-preserved : goal.loop-number-preserved
loop-number-preserved c =
    let K : List ℕ = c.numbers-numbers.result.now in
    let i : ℕ = c.loop-number.number-index in
    let x : Event = c.index.result.now in
    let here : i < length K = omega arith in
    let rising : IsRising 0 K = subst (λ (ks : List ℕ). IsRising 0 ks) (sym c.numbers-numbers.ensures.value) c.numbers-numbers.ensures.rising in
    let within : AllByRecursion (λ k. k ≤ length c.args.self.now.events) K = subst (λ (ks : List ℕ). AllByRecursion (λ k. k ≤ length c.args.self.now.events) ks) (sym c.numbers-numbers.ensures.value) c.requires in
    let is : get_or c.args.self.now.events (get_or K i 0 - 1) x ≡ x = subst (λ (T : Recording). get_or T.events (get_or K i 0 - 1) x ≡ x) c.self.view_is (sym c.index.ensures) in
    let found : event c.args.self.now (get_or K i 0) ≡ Some x = event-within c.args.self.now (get_or K i 0) x (rising-above 0 K i rising here) (all-at (λ k. k ≤ length c.args.self.now.events) K i within here) is in
    let more : filter_map (event c.args.self.now) (take (i + 1) K) ≡ filter_map (event c.args.self.now) (take i K) ++ (x ∷ []) = select-more c.args.self.now K i (get_or K i 0) x here refl found in
    (c.push_reserved.ensures.items ∙ ap (λ (es : List Event). es ++ (x ∷ [])) c.loop-number.invariant.0 ∙ sym more, omega arith, omega arith)

pub invariant_of-result : goal.invariant_of-result
invariant_of-result c =
    let K : List ℕ = c.numbers-numbers.result.now in
    let T : Recording = c.args.self.now in
    let rising : IsRising 0 K = subst (λ (ks : List ℕ). IsRising 0 ks) (sym c.numbers-numbers.ensures.value) c.numbers-numbers.ensures.rising in
    let within : AllByRecursion (λ k. k ≤ length T.events) K = subst (λ (ks : List ℕ). AllByRecursion (λ k. k ≤ length T.events) ks) (sym c.numbers-numbers.ensures.value) c.requires in
    let is : IsTrace T = subst (λ (R : Recording). IsTrace R) c.self.view_is c.self.invariant in
    let all : take c.loop-number.number-index K ≡ K = take_all c.loop-number.number-index K (omega arith) in
    let events : c.loop-number.events.items ≡ filter_map (event T) K = c.loop-number.invariant.0 ∙ ap (λ (ks : List ℕ). filter_map (event T) ks) all in
    let same : cut T K ≡ record { format = c.self.inside.format; events = c.loop-number.events.items } = cc in
    subst (λ (R : Recording). IsTrace R) same (cut-is-trace T K is rising within)

pub index-requires : goal.index-requires
index-requires c = grind (arith, common_steps)
