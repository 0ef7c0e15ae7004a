use Rattle.std.proofs.Common.{drop, sym, ap, ◌∙◌}
use Rattle.std.proofs.lemmas.List.{drop-drop}
use Rattle.pmt_trimming.specs.LineQueues.{MarkRow}
use Rattle.pmt_trimming.proofs.marks.Marks.pop.Goals as goal

pub returns-then-self-len : goal.returns-then-self-len
returns-then-self-len c =
    c.given_up-self-inside.ensures.rest ∙ sym (drop-drop 1 c.self.inside.left c.self.inside.list.items) ∙ ap (λ (q : MarkRow). drop 1 q.items) c.self.view_is
