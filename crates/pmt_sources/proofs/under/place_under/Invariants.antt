use Rattle.std.proofs.Common.{ℕ, ◌<◌, get_or}
use Rattle.pmt_sources.specs.Places.{Names}
use Rattle.pmt_sources.proofs.under.place_under.Given as goal

abbrev pub invariant-loop-earlier : goal.invariant-loop-earlier
invariant-loop-earlier l =
    (j : ℕ) → j < l.earlier → ¬ Names l.labels (get_or l.events j 0) l.place.file.now l.place.line
