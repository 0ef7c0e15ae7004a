use Rattle.std.proofs.Common.{length, drop, sym, ap, ◌∙◌, arith, length-drop}
use Rattle.std.proofs.lemmas.List.{drop-drop}
use Rattle.pmt_trimming.specs.LineQueues.{MarkRow}
use Rattle.pmt_trimming.proofs.marks.Marks.leave.Goals as goal

pub given_up-self-inside-requires : goal.given_up-self-inside-requires
given_up-self-inside-requires c = omega (arith, c.requires, ap (λ (q : MarkRow). length q.items) c.self.view_is, length-drop c.self.inside.left c.self.inside.list.items, c.self.invariant)

pub returns : goal.returns
returns c = c.given_up-self-inside.ensures.rest ∙ sym (drop-drop c.args.count c.self.inside.left c.self.inside.list.items) ∙ ap (λ (q : MarkRow). drop c.args.count q.items) c.self.view_is
