use Rattle.std.proofs.Common.{◌<◌, ◌++◌, ◌∷◌, [], sym, ap, subst, ◌∙◌, arith}
use Rattle.pmt_tables.specs.Lasts.{number_of, last_by, AddsOverwritten}
use Rattle.pmt_tables.proofs.AddingLemmas.{whole-added}
use Rattle.pmt_tables.proofs.table.push_whole.Goals as goal

pub returns-in_ok-push : goal.returns-in_ok-push
returns-in_ok-push c =
    let more : c.args.flush < number_of c.args.word = omega (arith, c.if-earlier-flush.true, c.number_of-earlier.ensures) in
    let added = whole-added c.args.word c.args.flush c.args.later c.args.low c.args.high c.args.over.now.items c.requires.covered c.requires.whole more in
    let pushed = c.in_ok-push.ensures.items ∙ ap (λ j. c.args.over.now.items ++ record { earlier = j; later = c.args.later } ∷ []) c.number_of-earlier.ensures in
    subst (AddsOverwritten c.args.flush c.args.later c.args.low c.args.high (last_by c.args.word) c.args.over.now.items) (sym pushed) added
