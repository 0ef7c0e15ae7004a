use Rattle.std.proofs.Common.{◌≡◌, ◌∙◌, ap}
use Rattle.std.specs.Prelude.{IfOk}
use Rattle.pmt_laws.specs.Prelude.{IsSelection, cut, HasSameVectors}
use Rattle.pmt_trimming.specs.Passing.{all_marks}
use Rattle.pmt_trimming.proofs.AllEvents.{IsAll, all-answer, all-gives, all-cut, all-selection, all-same}
use Rattle.pmt_trimming.proofs.shortest.all_events.Goals as goal
use Rattle.pmt_trimming.proofs.shortest.all_events.Goals.{After-drop-marked}

-- the numbers are those of all events
all : (c : After-drop-marked) → IfOk c.marked_numbers.result (IsAll c.args.trace.now)
all c =
    let marks : c.as_slice.result.now ≡ all_marks c.args.trace.now.events = c.as_slice.ensures.value ∙ c.in_ok-marked.ensures ∙ ap all_marks c.events.ensures.value in
    all-answer c.args.trace.now c.as_slice.result.now c.marked_numbers.result marks c.marked_numbers.ensures.rising c.marked_numbers.ensures.just

pub returns-clause-whole : goal.returns-clause-whole
returns-clause-whole c = all-gives c.args.trace.now (λ K. cut c.args.trace.now K ≡ c.args.trace.now) c.marked_numbers.result (all-cut c.args.trace.now) (all c)

pub returns-clause-selection : goal.returns-clause-selection
returns-clause-selection c = all-gives c.args.trace.now (IsSelection c.args.trace.now) c.marked_numbers.result (all-selection c.args.trace.now) (all c)

pub returns-clause-same : goal.returns-clause-same
returns-clause-same c = all-gives c.args.trace.now (HasSameVectors c.args.trace.now) c.marked_numbers.result (all-same c.args.trace.now) (all c)
