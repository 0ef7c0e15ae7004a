-- Whether a store is ignored, byte by byte.
use Rattle.std.proofs.Common.{◌≡◌, ℕ, suc, ◌+◌, ◌-◌, ◌<◌, ◌≤◌, Bool, true, false, ◌&&◌, List, length, drop, ap, ◌∙◌, arith}
use Rattle.std.proofs.Math.Seq.{drop-cons}
use Rattle.pmt_asked.specs.declared.ignoring.ByteRange.{ByteRange}
use Rattle.pmt_asked.specs.Choosing.{is_byte_ignored, are_ignored}

-- What stands from the byte on is ignored as the byte is and what stands behind it.
from-byte : (ranges : List ByteRange) (a : ℕ) (bytes : List ℕ) (k : ℕ) → k < length bytes → (b : ℕ) →
    are_ignored ranges b (drop k bytes) ≡ (is_byte_ignored ranges b && are_ignored ranges (b + 1) (drop (suc k) bytes))
from-byte ranges a bytes k below b = ap (λ (s : List ℕ). are_ignored ranges b s) (drop-cons bytes k 0 below)

pub ignored-step : (ranges : List ByteRange) (first byte : ℕ) (bytes : List ℕ) → first ≤ byte → byte < first + length bytes → is_byte_ignored ranges byte ≡ true →
    are_ignored ranges byte (drop (byte - first) bytes) ≡ are_ignored ranges (byte + 1) (drop (byte + 1 - first) bytes)
ignored-step ranges first byte bytes low high here =
    let next : suc (byte - first) ≡ byte + 1 - first = omega arith in
    from-byte ranges first bytes (byte - first) (omega arith) byte
    ∙ ap (λ (t : Bool). t && are_ignored ranges (byte + 1) (drop (suc (byte - first)) bytes)) here
    ∙ ap (λ (k : ℕ). are_ignored ranges (byte + 1) (drop k bytes)) next

pub ignored-stop : (ranges : List ByteRange) (first byte : ℕ) (bytes : List ℕ) → first ≤ byte → byte < first + length bytes → is_byte_ignored ranges byte ≡ false →
    are_ignored ranges byte (drop (byte - first) bytes) ≡ false
ignored-stop ranges first byte bytes low high here =
    from-byte ranges first bytes (byte - first) (omega arith) byte
    ∙ ap (λ (t : Bool). t && are_ignored ranges (byte + 1) (drop (suc (byte - first)) bytes)) here
