use Rattle.pmt_parts.proofs.Prelude.{◌≡◌, ℕ, Bool, ◌-◌, ◌++◌, filter, sym, ap, subst, ◌∙◌, not, IsRising, is_ignored, stretch, AreChosen}
use Rattle.pmt_tables.proofs.FlagLemmas.{rising-no_fall}
use Rattle.pmt_parts.proofs.ChosenLemmas.{chosen_list, chosen-rising, chosen-are}
use Rattle.pmt_parts.proofs.part.chosen_events.Goals as goal

pub unreachable-requires : goal.unreachable-requires
unreachable-requires c =
    let T = c.args.trace.now in
    let told : ℕ → Bool = λ i. not (is_ignored T c.args.ranges.now i) in
    let m = c.args.place in
    let C = c.in_ok-carry.carry in
    let first : c.in_ok-numbers.numbers.items ≡ filter told C = c.in_ok-numbers.ensures ∙ ap (filter told) c.numbers.ensures.value in
    let all : c.push_stretch.new.numbers.items ≡ chosen_list T c.args.ranges.now m C =
    c.in_ok-push_stretch.ensures ∙ ap (λ xs. xs ++ stretch m (c.len.result - m)) first ∙ ap (λ n. filter told C ++ stretch m (n - m)) c.len.ensures.value in
    let rising : IsRising 0 c.push_stretch.new.numbers.items = subst (IsRising 0) (sym all) (chosen-rising T c.args.ranges.now m C c.in_ok-carry.ensures) in
    let none = rising-no_fall 0 c.push_stretch.new.numbers.items rising in
    let some = c.in_default.ensures.judged in
    cc (none, some)

pub returns-clause-chosen : goal.returns-clause-chosen
returns-clause-chosen c =
    let T = c.args.trace.now in
    let told : ℕ → Bool = λ i. not (is_ignored T c.args.ranges.now i) in
    let m = c.args.place in
    let C = c.in_ok-carry.carry in
    let first : c.in_ok-numbers.numbers.items ≡ filter told C = c.in_ok-numbers.ensures ∙ ap (filter told) c.numbers.ensures.value in
    let all : c.push_stretch.new.numbers.items ≡ chosen_list T c.args.ranges.now m C =
    c.in_ok-push_stretch.ensures ∙ ap (λ xs. xs ++ stretch m (c.len.result - m)) first ∙ ap (λ n. filter told C ++ stretch m (n - m)) c.len.ensures.value in
    subst (AreChosen T c.args.ranges.now m) (sym (c.in-Ok.ensures.taken ∙ all)) (chosen-are T c.args.ranges.now m C c.in_ok-carry.ensures)
