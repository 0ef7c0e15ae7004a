-- The entries of a report, finding by finding.
use Rattle.std.proofs.Common.{◌≡◌, List, [], ◌∷◌, ◌++◌, refl}
use Rattle.pmt_laws.specs.Prelude.{Finding, Verdict, reported_at, flat_map}
use Rattle.pmt_report.specs.Reports.{verdict_entry, finding_entry, verdicts_before, verdicts_from, entries}

-- one more finding, after the verdicts before it
pub entries-finding : (f : Finding) (fs : List Finding) (vs : List Verdict) →
    entries (f ∷ fs) vs ≡ flat_map verdict_entry (verdicts_before (reported_at f) vs) ++ finding_entry f ++ entries fs (verdicts_from (reported_at f) vs)
unfolding entries
entries-finding f fs vs = refl

pub entries-end : (vs : List Verdict) → entries [] vs ≡ flat_map verdict_entry vs
unfolding entries
entries-end vs = refl
