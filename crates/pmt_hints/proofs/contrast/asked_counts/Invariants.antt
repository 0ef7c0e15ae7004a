use Rattle.std.proofs.Common.{◌≡◌, ℕ, take}
use Rattle.pmt_hints.specs.Contrasts.{as_asked, count_at, is_asked, nothing}
use Rattle.pmt_hints.proofs.contrast.asked_counts.Given as goal

abbrev pub invariant-loop-hint : goal.invariant-loop-hint
invariant-loop-hint l = (s : _) → count_at l.counts s ≡ as_asked (is_asked l.trace l.labels l.nexts (take l.hint-index l.hints) s) nothing
