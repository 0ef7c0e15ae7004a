use Rattle.std.proofs.Common.{ap, ◌∙◌}
use Rattle.std.specs.List.{list_any}
use Rattle.pmt_hints.specs.Claiming.{claim_at, or_so}
use Rattle.pmt_entries.specs.Sites.{event_touches}
use Rattle.pmt_entries.proofs.scratch.touched_lines.Goals as goal

pub returns : goal.returns
returns c =
    let asked = c.in_ok-lines.lines in (
      asked,
      c.in_ok-lines.ensures,
      λ l.
          c.in_ok-note_events.ensures l
          ∙ ap (λ f. or_so (list_any (event_touches f l) c.later_events.result.now) (claim_at asked l)) c.format.ensures.value
          ∙ ap (λ es. or_so (list_any (event_touches c.args.trace.now.format l) es) (claim_at asked l)) c.later_events.ensures,
    )
