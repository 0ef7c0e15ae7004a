-- Four bytes that are compared at once.
use Rattle.std.proofs.Common.{ℕ, zero, suc, ◌<◌, List, get_or, arith}
use Rattle.pmt_text.specs.Spelled.{front_four}

pub four-low : (cs : List ℕ) → ((i : ℕ) → get_or cs i 0 < 256) → (i : ℕ) → get_or (front_four cs) i 0 < 256
four-low cs each zero = each 0
four-low cs each (suc zero) = each 1
four-low cs each (suc (suc zero)) = each 2
four-low cs each (suc (suc (suc zero))) = each 3
four-low cs each (suc (suc (suc (suc i)))) = omega arith
