use Rattle.std.proofs.Common.{◌≡◌, ◌+◌, suc, take, true, false, sym, ap, subst, ◌∙◌, arith}
use Rattle.std.proofs.lemmas.List.{take_all, append-nil}
use Rattle.std.specs.Prelude.{◌↔◌}
use Rattle.pmt_tables.specs.Flags.{is_kept_at, marked_from}
use Rattle.pmt_model.specs.Selections.{IsRising, Has}
use Rattle.pmt_tables.proofs.FlagLemmas.{marked-next, marked-rise, rising-no_fall, has-numbers}
use Rattle.pmt_tables.proofs.flags.marked_numbers.Goals as goal
use Rattle.pmt_tables.proofs.flags.marked_numbers.Goals.{then-marked-i+in_ok-push, else-marked-i}

pub loop-i-preserved : goal.loop-i-preserved
loop-i-preserved c =
    elim c.if-marked-i.branch [
      | then-marked-i+in_ok-push w ↦
          let next = marked-next c.args.marked.now c.loop-i.i true c.loop-i-test.true w.if-marked-i.true in
          let e : c.loop-i.i + 1 ≡ suc c.loop-i.i = omega arith in
          cc (next, e, w.in_ok-push.ensures.items, c.loop-i.invariant, w.numbers-is)
      | else-marked-i w ↦
          let next = marked-next c.args.marked.now c.loop-i.i false c.loop-i-test.true w.if-marked-i.false in
          let same = append-nil (marked_from 0 (take c.loop-i.i c.args.marked.now)) in
          cc (next, same, c.loop-i.invariant, w.numbers-is)
    ]

pub unreachable-requires : goal.unreachable-requires
unreachable-requires c =
    let rising : IsRising 0 c.loop-i.numbers.items = subst (λ ks. IsRising 0 ks) (sym c.loop-i.invariant) (marked-rise 0 (take c.loop-i.i c.args.marked.now)) in
    let none = rising-no_fall 0 c.loop-i.numbers.items rising in
    let some = c.in_default.ensures.judged in
    cc (none, some)

pub returns-clause-just : goal.returns-clause-just
returns-clause-just c =
    let all = take_all c.loop-i.i c.args.marked.now c.loop-i-test.false in
    let numbers : c.in-Ok.selection ≡ marked_from 0 c.args.marked.now = c.in-Ok.ensures.taken ∙ c.loop-i.invariant ∙ ap (marked_from 0) all in
    λ n. subst (λ ks. Has ks n ↔ (is_kept_at c.args.marked.now n ≡ true)) (sym numbers) (has-numbers c.args.marked.now n)
