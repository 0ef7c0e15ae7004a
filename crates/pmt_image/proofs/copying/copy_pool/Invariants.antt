use Rattle.pmt_image.proofs.Prelude.{◌≡◌, ◌-◌, ◌<◌, ◌≤◌, ℕ, List, length, reverse, inner_device, failure_count, IsCopied, written_by}
use Rattle.pmt_image.proofs.copying.copy_pool.Given as goal

abbrev pub invariant-loop-done : goal.invariant-loop-done
invariant-loop-done g l = record {
  copied : (bytes : List ℕ) × (length bytes ≡ l.done) × IsCopied (written_by (reverse l.stores)) l.pool.origin bytes l.done (g.R.Read.remaining (inner_device l.fn.reader)) (g.R.Read.remaining (inner_device l.reader)) (g.W.Write.contents (inner_device l.fn.writer)) (g.W.Write.contents (inner_device l.writer));
  within : l.done ≤ l.pool.size;
  room : (0 < length l.buffer) × (length l.buffer ≤ 16777216);
  reads : failure_count l.reader ≡ failure_count l.fn.reader;
  writes : failure_count l.writer ≡ failure_count l.fn.writer;
}

abbrev pub decreases-loop-done : goal.decreases-loop-done
decreases-loop-done g l = l.pool.size - l.done
