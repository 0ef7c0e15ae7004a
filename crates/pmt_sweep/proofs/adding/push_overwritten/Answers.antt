use Rattle.std.proofs.Common.{◌∷◌, [], ◌++◌, sym, ap, ◌∙◌, arith}
use Rattle.std.proofs.lemmas.List.{append-nil, take_all}
use Rattle.pmt_tables.specs.declared.words.Overwrite.{Overwrite}
use Rattle.pmt_sweep.specs.Found.{overwritten}
use Rattle.pmt_sweep.proofs.FindingLists.{overwritten-next}
use Rattle.pmt_sweep.proofs.adding.push_overwritten.Goals as goal

abbrev none : Overwrite
none = record { earlier = 0; later = 0 }

pub loop-index-init : goal.loop-index-init
loop-index-init c = sym (append-nil c.args.found.now.items)

pub loop-index-preserved : goal.loop-index-preserved
loop-index-preserved c =
    overwritten-next c.args.over.now c.args.found.now.items c.loop-index.found.items c.note.new.list.items c.loop-index.index none c.loop-index-test.true c.loop-index.invariant
    (c.in_ok-note.ensures ∙ ap (λ f. c.loop-index.found.items ++ f ∷ []) c.finding_of.ensures)

pub returns : goal.returns
returns c = c.loop-index.invariant ∙ ap (λ o. c.args.found.now.items ++ overwritten o) (take_all c.loop-index.index c.args.over.now (omega (arith, c.loop-index-test.false)))
