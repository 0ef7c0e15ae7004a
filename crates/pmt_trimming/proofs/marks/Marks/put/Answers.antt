use Rattle.std.proofs.Common.{arith, set, ap, ◌∙◌}
use Rattle.std.proofs.lemmas.Grind.{elements}
use Rattle.std.proofs.lemmas.List.{drop-set-add}
use Rattle.pmt_trimming.specs.LineQueues.{MarkRow}
use Rattle.pmt_trimming.proofs.marks.Marks.put.Goals as goal

pub returns : goal.returns
returns c = drop-set-add c.self.inside.left c.self.inside.list.items c.args.index c.args.mark ∙ ap (λ (q : MarkRow). set q.items c.args.index c.args.mark) c.self.view_is

pub overflow_add-self-inside : goal.overflow_add-self-inside
overflow_add-self-inside c = grind (arith, elements)

pub index_mut-requires : goal.index_mut-requires
index_mut-requires c = grind (arith, elements)
