use Rattle.std.proofs.Common.{◌≡◌, ℕ, ◌-◌, ◌≤◌, ◌<◌, true}
use Rattle.pmt_book.specs.Live.{whole_history, last_count, last_front, none_touches}
use Rattle.pmt_book.proofs.book.Book.persisted.Given as goal

abbrev pub invariant-loop-line : goal.invariant-loop-line
invariant-loop-line l =
    (k : ℕ) → l.first ≤ k → k < l.line →
    none_touches (last_count l.self-inside.trace k - last_front l.self-inside.trace k) k l.range (whole_history l.self-inside.trace) ≡ true
