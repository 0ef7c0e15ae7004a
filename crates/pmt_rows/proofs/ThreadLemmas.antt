-- One thread more in a list and in a table.
use Rattle.std.proofs.Common.{◌≡◌, ℕ, ◌<◌, ◌==◌, List, length, take, replicate, refl, ap}
use Rattle.std.specs.Prelude.{not}
use Rattle.std.proofs.lemmas.List.{get_or-replicate}
use Rattle.pmt_rows.specs.Threads.{in_list, in_table}

-- The table has these threads.
abbrev pub IsTableOf : List ℕ → List ℕ → Type 0
IsTableOf table threads = (length table ≡ 256) × ((t : ℕ) → t < 256 → in_table table t ≡ in_list threads t)

pub table-none : (threads : List ℕ) → IsTableOf (replicate 256 0) (take 0 threads)
table-none threads = (refl, λ t inside. ap (λ n. not (n == 0)) (get_or-replicate 256 t 0 0 inside))
