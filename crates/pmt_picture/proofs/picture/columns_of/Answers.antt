use Rattle.std.proofs.Common.{◌+◌, ◌++◌, ◌∷◌, [], take, get_or, sym, ◌∙◌, subst}
use Rattle.std.proofs.lemmas.List.{take_more}
use Rattle.pmt_picture.specs.declared.picture.Column.{Column}
use Rattle.pmt_picture.specs.Columns.{AreColumns}
use Rattle.pmt_picture.proofs.ColumnLemmas.{columns-more, columns-skip}
use Rattle.pmt_picture.proofs.picture.columns_of.Goals as goal

pub loop-number-preserved-in_default : goal.loop-number-preserved-in_default
loop-number-preserved-in_default c =
    let T = c.args.known.trace.now in
    let k = c.loop-number.number-index in
    let xs = c.args.numbers.now in
    let cs = c.loop-number.columns.items in
    subst (λ ys. AreColumns T ys cs) (sym (take_more xs k 0 c.loop-number-test.true)) (columns-skip T (take k xs) cs (get_or xs k 0) c.loop-number.invariant (sym c.get.ensures ∙ c.in_default.is))

pub loop-number-preserved : goal.loop-number-preserved
loop-number-preserved c =
    let T = c.args.known.trace.now in
    let k = c.loop-number.number-index in
    let xs = c.args.numbers.now in
    let cs = c.loop-number.columns.items in
    let column : Column = record {
      number = get_or xs k 0;
      event = record { thread = c.in-Some.field-0.thread; op = c.in-Some.field-0.op };
      dropped = c.reason.result;
      pass = c.pass.result;
      fence = c.fence_after.result;
    } in
    subst (AreColumns T (take (k + 1) xs)) (sym c.in_ok-push.ensures.items)
    (subst (λ ys. AreColumns T ys (cs ++ column ∷ [])) (sym (take_more xs k 0 c.loop-number-test.true)) (columns-more T (take k xs) cs column c.loop-number.invariant (sym c.get.ensures ∙ c.in-Some.is)))
