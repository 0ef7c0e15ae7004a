-- Where the first caller stands in a label.
use Rattle.std.proofs.Common.{◌≡◌, ◌≢◌, ℕ, ◌+◌, ◌<◌, ◌≤◌, Bool, true, false, List, ◌++◌, take, drop, length, length-append, get_or, Some, refl, sym, ap, ◌∙◌, arith}
use Rattle.std.specs.Prelude.{not}
use Rattle.std.specs.List.{range_with_len}
use Rattle.std.specs.Str.Pattern.{FindsText}
use Rattle.std.proofs.lemmas.List.{length-drop, take_all, take-append-drop}
use Rattle.std.proofs.lemmas.List.FromFn.{get_or-range_with_len, length-range_with_len}
use Rattle.std.proofs.lemmas.List.Sums.{prefix_len_is}
use Rattle.std.proofs.lemmas.Slice.Eq.{bytes_eq-Decides}
use Rattle.pmt_asked.specs.Choosing.{caller, has_caller, inner_frame, inner_length}

abbrev pub Lacks : List ℕ → ℕ → Type 0
Lacks text i = (rest : List ℕ) → drop i text ≢ caller ++ rest

abbrev passes : List ℕ → ℕ → Bool
passes text k = not (has_caller text k)

lacks : (text : List ℕ) (i : ℕ) → Lacks text i → has_caller text i ≡ false
lacks text i never = go (has_caller text i) refl
  where
    go : (b : Bool) → has_caller text i ≡ b → b ≡ false
    go false is = refl
    go true is =
        let n = length caller in
        let same : caller ≡ take n (drop i text) = (bytes_eq-Decides caller (take n (drop i text))).0 is in
        absurd (never (drop n (drop i text)) (sym (take-append-drop n (drop i text)) ∙ ap (λ xs. xs ++ drop n (drop i text)) (sym same)))

has : (text : List ℕ) (i : ℕ) (rest : List ℕ) → drop i text ≡ caller ++ rest → has_caller text i ≡ true
has text i rest is = (bytes_eq-Decides caller (take (length caller) (drop i text))).1 (rw is refl)

passes-at : (text : List ℕ) (k : ℕ) (b : Bool) → k < length text → has_caller text k ≡ b → passes text (get_or (range_with_len 0 (length text)) k 0) ≡ not b
passes-at text k b within is = let at : get_or (range_with_len 0 (length text)) k 0 ≡ k = get_or-range_with_len 0 (length text) k 0 within ∙ omega arith in ap (passes text) at ∙ ap not is

-- a text with a caller, and one without
pub cut : (text : List ℕ) (i : ℕ) (rest : List ℕ) → ((k : ℕ) → k < i → Lacks text k) → drop i text ≡ caller ++ rest → inner_length text ≡ i
cut text i rest before is =
    let long : i < length text = omega (arith, length-drop i text, ap (λ xs. length xs) is, length-append caller rest) in
    let size = length-range_with_len 0 (length text) in
    prefix_len_is (passes text) (range_with_len 0 (length text)) i 0 (omega (arith, size, long)) (λ k below. passes-at text k false (omega (arith, long, below)) (lacks text k (before k below)))
    (λ within. passes-at text i true long (has text i rest is))

pub whole : (text : List ℕ) → ((i : ℕ) → i ≤ length text → Lacks text i) → inner_frame text ≡ text
whole text none =
    let size = length-range_with_len 0 (length text) in
    let all : inner_length text ≡ length text =
    prefix_len_is (passes text) (range_with_len 0 (length text)) (length text) 0 (omega (arith, size)) (λ k below. passes-at text k false below (lacks text k (none k (omega arith)))) (λ within. absurd (omega (arith, size, within)))
    in
    take_all (inner_length text) text (omega (arith, all))

-- what `split_once` gives at the first caller
pub inner-cut : (text frame callers : List ℕ) →
    ((i : ℕ) × (j : ℕ) × FindsText caller text (Some (i, j)) × (frame ≡ take i text) × (callers ≡ drop j text) × (i ≤ j) × (length frame ≡ i) × (length callers + j ≡ length text)) → frame ≡ inner_frame text
inner-cut text frame callers (i, j, (before, at), first, second, order, size, all) = first ∙ ap (λ n. take n text) (sym (cut text i (drop j text) before at.split))
