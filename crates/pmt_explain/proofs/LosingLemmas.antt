-- What a crash leaves persisted.
use Rattle.std.proofs.Common.{ℕ, ◌≤◌, ◌==◌, Option, None, Some, arith}
use Rattle.std.proofs.lemmas.Bool.{cond_both}
use Rattle.pmt_explain.specs.Prelude.{Recording, history, count_at, front_at, persisted_at}
use Rattle.pmt_laws.proofs.Histories.{front-le-count}

-- no line has fewer stores persisted than are safe
pub front-le-persisted : (T : Recording) (n l : ℕ) (full : Option ℕ) → front_at T l n ≤ persisted_at T n full l
front-le-persisted T n l None = omega arith
front-le-persisted T n l (Some k) =
    cond_both (l == k) (count_at T l n) (front_at T l n) (λ v. front_at T l n ≤ v) (λ same. front-le-count l (history T n)) (λ other. omega arith)
