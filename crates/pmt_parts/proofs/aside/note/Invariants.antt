use Rattle.pmt_parts.proofs.Prelude.{ℕ, ◌≤◌, ◌<◌, ◌⊎◌, ◌↔◌, HasByte}
use Rattle.pmt_parts.proofs.aside.note.Given as goal

abbrev pub invariant-loop-byte : goal.invariant-loop-byte
invariant-loop-byte l = (b : ℕ) → HasByte l.written.keys b ↔ (HasByte l.fn.written.keys b ⊎ ((l.store.addr ≤ b) × (b < l.byte)))
