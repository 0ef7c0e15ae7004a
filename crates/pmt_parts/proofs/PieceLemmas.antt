-- Lines at the front of some bytes.
use Rattle.pmt_parts.proofs.Prelude.{◌≡◌, ◌≢◌, eq-eqb, ℕ, suc, ◌+◌, ◌-◌, ◌<◌, ◌≤◌, ◌⊎◌, inr, Bool, true, false, List, [], ◌∷◌, ◌++◌, length, take, drop, slice_range, get_or, Option, None, Some, refl, sym, ap, subst, ◌∙◌, arith, ◌==◌, if◌then◌else◌, Consumes, Keeps, prepend_known, ne_eqb, append_assoc, length-take, take-append-drop, take-suc, line_count, EndsLine, IsFront, Consumes-trans, Consumes-kept}
use Rattle.pmt_text.proofs.PieceLemmas.{slice_range-skip, slice_range-taken}

line_count-cons : (b : ℕ) (xs : List ℕ) → line_count (b ∷ xs) ≡ (if b == 10 then 1 else 0) + line_count xs
line_count-cons b xs = go (b == 10)
  where
    go : (t : Bool) → (if t then suc (line_count xs) else line_count xs) ≡ (if t then 1 else 0) + line_count xs
    go true = omega arith
    go false = omega arith

pub line_count-append : (xs ys : List ℕ) → line_count (xs ++ ys) ≡ line_count xs + line_count ys
line_count-append [] ys = omega arith
line_count-append (b ∷ xs) ys = omega (arith, line_count-cons b (xs ++ ys), line_count-cons b xs, line_count-append xs ys)

line_count-one : (b : ℕ) → line_count (b ∷ []) ≡ (if b == 10 then 1 else 0)
line_count-one b = refl

-- one byte more
pub line_count-more : (bytes : List ℕ) (i : ℕ) → i < length bytes → line_count (take (suc i) bytes) ≡ line_count (take i bytes) + (if get_or bytes i 0 == 10 then 1 else 0)
line_count-more bytes i within =
    ap line_count (take-suc bytes i 0 within) ∙ line_count-append (take i bytes) (get_or bytes i 0 ∷ [])
    ∙ ap (λ n. line_count (take i bytes) + n) (line_count-one (get_or bytes i 0))

pub ends-line : (bytes : List ℕ) (i : ℕ) → i < length bytes → get_or bytes i 0 ≡ 10 → EndsLine (take (suc i) bytes)
ends-line bytes i within is = (take i bytes, take-suc bytes i 0 within ∙ ap (λ b. take i bytes ++ b ∷ []) is)

-- ---- What is still to come

pub consumes-held : (old front new : List ℕ) (known : Option (List ℕ)) → old ≡ front ++ new → Consumes (prepend_known old known) (prepend_known new known) front
consumes-held old front new None split = tt
consumes-held old front new (Some xs) split = ap (λ hs. hs ++ xs) split ∙ append_assoc front new xs

-- ---- Lines that are added to a piece

-- what was added by now
pub record IsAdded (old : Option (List ℕ)) (most left : ℕ) (before text : List ℕ) (new : Option (List ℕ)) : Type 0 where
  pub piece : List ℕ
  pub added : text ≡ before ++ piece
  pub next : Consumes old new piece
  pub count : line_count piece + left ≡ most
  pub full : left ≡ 0 → (piece ≡ []) ⊎ EndsLine piece

pub added-more : (old mid kept new : Option (List ℕ)) (most left lines : ℕ) (before text after held front : List ℕ) → IsAdded old most left before text mid → Keeps mid kept → Consumes kept new front →
    IsFront left held front lines → after ≡ text ++ front → IsAdded old most (left - lines) before after new
added-more old mid kept new most left lines before text after held front so_far keeps takes found grown = record {
  piece = so_far.piece ++ front;
  added = grown ∙ ap (λ xs. xs ++ front) so_far.added ∙ append_assoc before so_far.piece front;
  next = Consumes-trans old kept new so_far.piece front (Consumes-kept old mid kept so_far.piece so_far.next keeps) takes;
  count = omega (arith, line_count-append so_far.piece front, so_far.count, found.count, found.few);
  full = λ none. let x = found.full (omega (arith, none, found.few)) in inr (so_far.piece ++ x.0, ap (λ xs. so_far.piece ++ xs) x.1 ∙ sym (append_assoc so_far.piece x.0 (10 ∷ [])));
}

-- ---- Steps of the code

pub count-line : (bytes : List ℕ) (i : ℕ) → i < length bytes → get_or bytes i 0 ≡ 10 → line_count (take (i + 1) bytes) ≡ line_count (take i bytes) + 1
count-line bytes i within is =
    let next : i + 1 ≡ suc i = omega arith in
    let test : (get_or bytes i 0 == 10) ≡ true = eq-eqb (get_or bytes i 0) 10 is in
    ap (λ k. line_count (take k bytes)) next ∙ line_count-more bytes i within ∙ ap (λ t. line_count (take i bytes) + (if t then 1 else 0)) test

pub count-other : (bytes : List ℕ) (i : ℕ) → i < length bytes → get_or bytes i 0 ≢ 10 → line_count (take (i + 1) bytes) ≡ line_count (take i bytes)
count-other bytes i within other =
    let next : i + 1 ≡ suc i = omega arith in
    let test : (get_or bytes i 0 == 10) ≡ false = ne_eqb (get_or bytes i 0) 10 other in
    let same : line_count (take i bytes) + 0 ≡ line_count (take i bytes) = omega arith in
    ap (λ k. line_count (take k bytes)) next ∙ line_count-more bytes i within ∙ ap (λ t. line_count (take i bytes) + (if t then 1 else 0)) test ∙ same

pub front-full : (bytes : List ℕ) (i lines most : ℕ) → i < length bytes → get_or bytes i 0 ≡ 10 → line_count (take i bytes) ≡ lines → lines + 1 ≡ most → IsFront most bytes (take (i + 1) bytes) (lines + 1)
front-full bytes i lines most within is so_far full =
    let next : i + 1 ≡ suc i = omega arith in
    record {
      count = count-line bytes i within is ∙ ap (λ n. n + 1) so_far;
      few = omega (arith, full);
      full = λ all. subst (λ k. EndsLine (take k bytes)) (sym next) (ends-line bytes i within is);
      over = λ fewer. absurd (omega (arith, fewer, full));
    }

pub takes-front : (xs : List ℕ) (start end len : ℕ) → start ≤ end → len ≤ length (slice_range xs start end) →
    (slice_range xs start (start + len) ≡ take len (slice_range xs start end)) × (slice_range xs start end ≡ take len (slice_range xs start end) ++ slice_range xs (start + len) end)
takes-front xs start end len order within = (
  ap (λ n. slice_range xs n (start + len)) (sym before) ∙ slice_range-taken xs start end len inside,
  sym (take-append-drop len (slice_range xs start end)) ∙ ap (λ ys. take len (slice_range xs start end) ++ ys) (sym (slice_range-skip xs start end len inside)),
)
  where
    before : start + len - len ≡ start
    before = omega arith

    inside : start + len ≤ end
    inside = omega (arith, order, within, length-take (end - start) (drop start xs))
