-- Flags of events, and the numbers of those that have one.
use Rattle.std.proofs.Common.{◌≡◌, ℕ, zero, suc, ◌≤◌, Bool, true, false, List, get_or, arith}
use Rattle.std.specs.Prelude.{◌↔◌}
use Rattle.std.proofs.lemmas.Option.{slice_get-get_or}
use Rattle.pmt_tables.specs.Flags.{is_kept_at}
use Rattle.pmt_hints.specs.Hints.{AreFlags}

-- what a flag tells
pub flag-at : (P : ℕ → Type 0) (n : ℕ) (flags : List Bool) → AreFlags P n flags → (i : ℕ) → 1 ≤ i → i ≤ n → (is_kept_at flags i ≡ true) ↔ P i
flag-at P n flags x zero some within = absurd (omega (arith, some))
flag-at P n flags x (suc k) some within = x.each k (get_or flags k false) (slice_get-get_or flags k false (omega (arith, x.size, within)))
