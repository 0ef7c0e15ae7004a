use Rattle.std.proofs.Common.{◌≡◌, ℕ, ◌<◌, ◌≤◌, ◌⊎◌, get_or}
use Rattle.pmt_lines.proofs.last_stores.LastStores.store.Given as goal

abbrev pub invariant-loop-place : goal.invariant-loop-place
invariant-loop-place l =
    ((k : ℕ) → l.start ≤ k → k < l.place → get_or l.self.numbers k 0 ≡ l.number)
    × ((k : ℕ) → (k < l.start) ⊎ (l.place ≤ k) → get_or l.self.numbers k 0 ≡ get_or l.initial.self.numbers k 0)
