use Rattle.std.proofs.Common.{◌≡◌, ◌+◌, ◌-◌, ◌≤◌, length, drop}
use Rattle.pmt_asked.specs.Choosing.{are_ignored}
use Rattle.pmt_asked.proofs.ignoring.is_store_ignored.Given as goal

abbrev pub invariant-loop-byte : goal.invariant-loop-byte
invariant-loop-byte l =
    (are_ignored l.ranges l.first l.store.bytes ≡ are_ignored l.ranges l.byte (drop (l.byte - l.first) l.store.bytes))
    × (l.first ≤ l.byte) × (l.byte ≤ l.end) × (l.end ≡ l.first + length l.store.bytes) × (l.first ≡ l.store.addr)
