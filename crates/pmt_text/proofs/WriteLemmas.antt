-- What one more write adds to the bytes that are out.
use Rattle.std.proofs.Common.{◌≡◌, ◌+◌, ◌-◌, ◌∙◌, ℕ, zero, suc, ◌<◌, ◌≤◌, List, Option, length, take, drop, arith, add-zero, Ok}
use Rattle.std.proofs.KnownBytes.{Appends-trans}
use Rattle.std.proofs.Math.Seq.{take-add}
use Rattle.std.proofs.lemmas.List.{length-drop, take_all}
use Rattle.std.specs.Io.KnownBytes.{Appends}
use Rattle.std.specs.declared.io.Error.{Error}
use Rattle.pmt_text.specs.Counting.{failed_write}

-- what stands in a text from place n on, as a slice gives it
rest_of : (n : ℕ) (text : List ℕ) → take (length text - n) (drop n text) ≡ drop n text
rest_of n text = let e : length (drop n text) ≡ length text - n = length-drop n text in take_all _ _ (omega (arith, e))

-- the first n bytes were out, and k of the rest went out
pub Appends-more : (a b c : Option (List ℕ)) (n k : ℕ) (text : List ℕ) → Appends a b (take n text)
    → Appends b c (take k (take (length text - n) (drop n text))) → Appends a c (take (n + k) text)
Appends-more a b c n k text out more =
    let more' : Appends b c (take k (drop n text)) = rw rest_of at more in
    rw take-add (Appends-trans a b c _ _ out more')

-- a write of the rest takes no more than stands in the text
pub within-more : (n k : ℕ) (text : List ℕ) → n ≤ length text → k ≤ length (take (length text - n) (drop n text)) → n + k ≤ length text
within-more n k text before some =
    let some' : k ≤ length (drop n text) = rw rest_of at some in
    let e : length (drop n text) ≡ length text - n = length-drop n text in
    omega (arith, e, some')

-- a write that took some bytes has not failed
pub same_count : (old new n : ℕ) (piece : List ℕ) → 0 < n → new ≡ old + failed_write {E = Error} (Ok n) piece → new ≡ old
same_count old new zero piece some e = absurd (omega arith)
same_count old new (suc n) piece some e = e ∙ add-zero old
