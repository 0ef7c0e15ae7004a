use Rattle.std.proofs.Common.{ℕ, ◌<◌, List, length, drop}
use Rattle.std.specs.Prelude.{All}
use Rattle.pmt_rows.specs.Known.{AreRows}
use Rattle.pmt_rows.specs.Waiting.{raise_all, waits_all}
use Rattle.pmt_book.proofs.live.raise_all.Given as goal

abbrev pub invariant-loop-index : goal.invariant-loop-index
invariant-loop-index l =
    (lines : List ℕ) (last safe flush : ℕ → ℕ) → All (λ f. f.slot < length lines) l.flushes → AreRows lines last safe flush l.fn.rows → AreRows lines last (raise_all (waits_all lines (drop l.index l.flushes)) safe) flush l.rows
