use Rattle.std.proofs.Common.{◌≡◌, ℕ, List, Option}
use Rattle.pmt_model.specs.declared.event.Event.{Event}
use Rattle.pmt_text.specs.declared.source.SourceState.TheVariants.{Open}
use Rattle.pmt_text.specs.Sources.{Gives}
use Rattle.pmt_report.specs.Checks.{KeepsCount}
use Rattle.pmt_report.proofs.taking.skip_events.Given as goal

abbrev pub invariant-skip : goal.invariant-skip
invariant-skip g l = record {
  still_open : g.S.EventSource.state l.source ≡ Open;
  events : (es : List Event) × Gives (g.S.EventSource.coming l.fn.source) es (g.S.EventSource.coming l.source);
  count : KeepsCount (g.S.EventSource.failures l.fn.source) (g.S.EventSource.failures l.source);
  within : (first : Option (List ℕ)) → g.S.EventSource.within l.fn.source first → g.S.EventSource.within l.source first;
}

abbrev pub decreases-skip : goal.decreases-skip
decreases-skip g l = g.S.EventSource.room l.source
