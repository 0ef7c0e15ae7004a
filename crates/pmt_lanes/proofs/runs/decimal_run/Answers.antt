-- The lowest bit of the mask is the first byte that is no digit.
use Rattle.std.proofs.Common.{ℕ, ◌+◌, ◌^◌, not, refl, ap, ◌∙◌, arith}
use Rattle.std.proofs.lemmas.List.Sums.{prefix_len-le-length}
use lib.Count.{count_trailing_zeros}
use Rattle.std.specs.Char.{is_ascii_digit}
use Rattle.pmt_lanes.proofs.LaneLemmas.{mask-lt, run_is}
use Rattle.pmt_lanes.proofs.runs.decimal_run.Goals as goal

pub overflow_add-result : goal.overflow_add-result
overflow_add-result c = record { fits = omega (arith, c.other_than_decimal.ensures, mask-lt (λ x. not (is_ascii_digit x)) c.args.bytes c.fits-bytes.0) }

pub returns-clause-run : goal.returns-clause-run
returns-clause-run c = ap (λ (m : ℕ). count_trailing_zeros 64 (m + 2 ^ 16)) c.other_than_decimal.ensures ∙ run_is is_ascii_digit c.args.bytes c.fits-bytes.0 refl

pub returns-clause-within : goal.returns-clause-within
returns-clause-within c = omega (arith, returns-clause-run c, prefix_len-le-length is_ascii_digit c.args.bytes, c.fits-bytes.0)
