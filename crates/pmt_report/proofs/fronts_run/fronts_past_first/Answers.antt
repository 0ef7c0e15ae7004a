use Rattle.std.proofs.Common.{refl}
use Rattle.pmt_report.proofs.FrontsLemmas.{fronts-computed, fronts-open, fronts-past}
use Rattle.pmt_report.proofs.fronts_run.fronts_past_first.Goals as goal

pub skip_events-requires : goal.skip_events-requires
skip_events-requires g c = fronts-open c.args.place _ _ _ _ c.args.lines.now c.requires.1 c.if-events-place.false refl

pub fronts_of_lines-requires : goal.fronts_of_lines-requires
fronts_of_lines-requires g c = (c.requires.1.trace, c.requires.1.known)

pub returns-in-Ok-fronts_of_lines-clause-ok : goal.returns-in-Ok-fronts_of_lines-clause-ok
returns-in-Ok-fronts_of_lines-clause-ok g c = λ first taken.
    let others = c.in-Ok.ensures.taken in
    fronts-computed c.args.place _ _ _ _ c.args.lines.now others.0 c.in-Ok-fronts_of_lines.text.items taken c.if-events-place.false others.1 (c.in-Ok-fronts_of_lines.ensures taken.trace taken.known)

pub returns-then-events-place-clause-err : goal.returns-then-events-place-clause-err
returns-then-events-place-clause-err g c = λ first taken. fronts-past c.args.place _ _ _ _ c.args.lines.now taken c.if-events-place.true
