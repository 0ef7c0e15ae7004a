use Rattle.std.proofs.Common.{◌≡◌, ℕ, ◌-◌, ◌+◌, vec_len, map}
use Rattle.pmt_rows.specs.Waiting.{list_at}
use Rattle.pmt_rows.proofs.open.OpenFlushes.reach.Given as goal

abbrev pub invariant-loop-self : goal.invariant-loop-self
invariant-loop-self l =
    (t : ℕ) → list_at t (map (λ list. list.items) l.self-inside.lists.items) ≡ list_at t (map (λ list. list.items) l.initial.self-inside.lists.items)

abbrev pub decreases-loop-self : goal.decreases-loop-self
decreases-loop-self l = l.thread + 1 - vec_len l.self-inside.lists
