-- What is left of a piece.
use Rattle.std.proofs.Common.{◌≡◌, ℕ, ◌+◌, ◌-◌, ◌≤◌, List, take, drop, slice_range, sym, ap, ◌∙◌, arith}
use Rattle.std.proofs.lemmas.List.{drop-take, drop-drop, take-take}

-- what is left once the first count bytes are taken
pub slice_range-skip : (xs : List ℕ) (start end count : ℕ) → start + count ≤ end → slice_range xs (start + count) end ≡ drop count (slice_range xs start end)
slice_range-skip xs start end count inside =
    let parts : end - start ≡ count + (end - (start + count)) = omega arith in
    sym (ap (λ j. drop count (take j (drop start xs))) parts ∙ drop-take count _ (drop start xs)
    ∙ ap (take (end - (start + count))) (drop-drop count start xs))

-- the first count bytes, once they are taken
pub slice_range-taken : (xs : List ℕ) (start end count : ℕ) → start + count ≤ end
    → slice_range xs (start + count - count) (start + count) ≡ take count (slice_range xs start end)
slice_range-taken xs start end count inside =
    let before : start + count - count ≡ start = omega arith in
    let many : start + count - start ≡ count = omega arith in
    ap (λ n. take (start + count - n) (drop n xs)) before ∙ ap (λ n. take n (drop start xs)) many
    ∙ sym (take-take count (end - start) (drop start xs) (omega arith))
