-- Lines that are held until all have come.
use Rattle.std.proofs.Common.{◌≡◌, ℕ, ◌+◌, ◌-◌, ◌≤◌, List, [], ◌∷◌, ◌++◌, length, take, drop, sum, refl, sym, ap, ap₂, ◌∙◌, arith, append_assoc, length-append, length-drop}
use Rattle.std.proofs.Math.Seq.{drop-append_seam, take-add}
use Rattle.std.proofs.lemmas.List.{drop-append-le, drop-drop, length-take-le, take-append-le, take_all}
use Rattle.std.proofs.lemmas.List.Sums.{sum_by-append, sum_by-cons}
use Rattle.pmt_trimming.specs.LineQueues.{cut_by, AreHeld, run_text}
use Rattle.pmt_trimming.proofs.QueueLemmas.{queue-more}

-- ---- A line leaves

-- the line becomes part of the run
pub run-kept : (end from at len : ℕ) (bytes : List ℕ) → from ≤ at → run_text end from (at + len) bytes ≡ run_text end from at bytes ++ take len (drop at bytes)
run-kept end from at len bytes whole =
    let size : at + len - from ≡ (at - from) + len = omega arith in
    let seam : from + (at - from) ≡ at = omega arith in
    let rest : drop (at - from) (drop from bytes) ≡ drop at bytes = drop-drop (at - from) from bytes ∙ ap (λ (n : ℕ). drop n bytes) seam in
    ap (λ (n : ℕ). take end bytes ++ take n (drop from bytes)) size
    ∙ ap (λ (ys : List ℕ). take end bytes ++ ys) (take-add (at - from) len (drop from bytes))
    ∙ ap (λ (ys : List ℕ). take end bytes ++ (take (at - from) (drop from bytes) ++ take len ys)) rest
    ∙ sym (append_assoc (take end bytes) (take (at - from) (drop from bytes)) (take len (drop at bytes)))

-- and what comes after a line that is gone stays
pub rest-moved : (from at len : ℕ) (old new : List ℕ) → from ≤ at → drop (from + (at - from)) new ≡ drop (from + (at - from)) old → drop (at + len) new ≡ drop (at + len) old
rest-moved from at len old new whole same =
    let seam : from + (at - from) ≡ at = omega arith in
    let here : drop at new ≡ drop at old = ap (λ (n : ℕ). drop n new) (sym seam) ∙ same ∙ ap (λ (n : ℕ). drop n old) seam in
    sym (drop-drop len at new) ∙ ap (drop len) here ∙ drop-drop len at old

-- ---- A line comes

pub held-with : (end from at left : ℕ) (lengths longer bytes more line : List ℕ) → AreHeld end from at left lengths bytes → longer ≡ lengths ++ length line ∷ [] → more ≡ bytes ++ line →
    AreHeld end from at left longer more
held-with end from at left lengths longer bytes more line held lengths_are bytes_are = record {
  run = held.run;
  some = omega (arith, held.some, ap length lengths_are, length-append lengths (length line ∷ []));
  cut = omega (arith, held.cut, size, ap length bytes_are, length-append bytes line);
}
  where
    size : sum (drop left longer) ≡ sum (drop left lengths) + length line
    size = ap (λ (ns : List ℕ). sum (drop left ns)) lengths_are ∙ ap sum (drop-append-le left lengths (length line ∷ []) held.some)
        ∙ sum_by-append (λ x. x) (drop left lengths) (length line ∷ []) ∙ omega arith

pub held-lines : (end from at left : ℕ) (lengths longer bytes more line : List ℕ) → AreHeld end from at left lengths bytes → longer ≡ lengths ++ length line ∷ [] → more ≡ bytes ++ line →
    cut_by (drop left longer) (drop at more) ≡ cut_by (drop left lengths) (drop at bytes) ++ line ∷ []
held-lines end from at left lengths longer bytes more line held lengths_are bytes_are =
    queue-more (drop left lengths) (drop left longer) at (length line) bytes more line held.cut refl (ap (drop left) lengths_are ∙ drop-append-le left lengths (length line ∷ []) held.some) bytes_are

pub held-text : (end from at left : ℕ) (lengths bytes more line : List ℕ) → AreHeld end from at left lengths bytes → more ≡ bytes ++ line → run_text end from at more ≡ run_text end from at bytes
held-text end from at left lengths bytes more line held is =
    ap (run_text end from at) is
    ∙ ap₂ (λ (xs ys : List ℕ). xs ++ ys) (take-append-le end bytes line (omega (arith, held.run.before, held.run.whole, held.cut)))
    (ap (take (at - from)) (drop-append-le from bytes line (omega (arith, held.run.whole, held.cut)))
    ∙ take-append-le (at - from) (drop from bytes) line (omega (arith, held.run.whole, held.cut, length-drop from bytes)))

-- ---- Lines come together

cut-all : (lengths bytes ns more : List ℕ) → sum lengths ≡ length bytes → cut_by (lengths ++ ns) (bytes ++ more) ≡ cut_by lengths bytes ++ cut_by ns more
cut-all [] [] ns more all = refl
cut-all [] (b ∷ bytes) ns more all = absurd (omega arith)
cut-all (n ∷ lengths) bytes ns more all =
    let first : sum (n ∷ lengths) ≡ n + sum lengths = sum_by-cons (λ x. x) n lengths in
    let within : n ≤ length bytes = omega arith in
    ap₂ (λ (l : List ℕ) (ls : List (List ℕ)). l ∷ ls) (take-append-le n bytes more within)
    (ap (cut_by (lengths ++ ns)) (drop-append-le n bytes more within) ∙ cut-all lengths (drop n bytes) ns more (omega (arith, length-drop n bytes)))

pub held-all : (end from at left : ℕ) (lengths longer bytes longest ns more : List ℕ) → AreHeld end from at left lengths bytes → longer ≡ lengths ++ ns → longest ≡ bytes ++ more →
    cut_by (drop left longer) (drop at longest) ≡ cut_by (drop left lengths) (drop at bytes) ++ cut_by ns more
held-all end from at left lengths longer bytes longest ns more held lengths_are bytes_are =
    ap₂ (λ (xs bs : List ℕ). cut_by xs bs)
    (ap (drop left) lengths_are ∙ drop-append-le left lengths ns held.some)
    (ap (drop at) bytes_are ∙ drop-append-le at bytes more (omega (arith, held.cut)))
    ∙ cut-all (drop left lengths) (drop at bytes) ns more (omega (arith, held.cut, length-drop at bytes))

-- ---- The bytes before the run are gone

take-closed : (end from : ℕ) (old : List ℕ) → end ≤ length old → take end (take end old ++ drop from old) ≡ take end old
take-closed end from old within =
    let size : length (take end old) ≡ end = length-take-le end old within in
    take-append-le end (take end old) (drop from old) (omega (arith, size)) ∙ take_all end (take end old) (omega (arith, size))

drop-closed : (end from : ℕ) (old : List ℕ) → end ≤ length old → drop end (take end old ++ drop from old) ≡ drop from old
drop-closed end from old within =
    let size : length (take end old) ≡ end = length-take-le end old within in
    ap (λ (n : ℕ). drop n (take end old ++ drop from old)) (sym size) ∙ drop-append_seam (take end old) (drop from old)

pub run-closed : (end from at : ℕ) (old new : List ℕ) → end ≤ from → from ≤ at → at ≤ length old → new ≡ take end old ++ drop from old → run_text end end (at - (from - end)) new ≡ run_text end from at old
run-closed end from at old new before whole within is =
    let some : end ≤ length old = omega arith in
    let first : take end new ≡ take end old = ap (take end) is ∙ take-closed end from old some in
    let rest : drop end new ≡ drop from old = ap (drop end) is ∙ drop-closed end from old some in
    let size : at - (from - end) - end ≡ at - from = omega arith in
    ap₂ (λ (xs ys : List ℕ). xs ++ ys) first (ap₂ (λ (n : ℕ) (ys : List ℕ). take n ys) size rest)

pub rest-closed : (end from at : ℕ) (old new : List ℕ) → end ≤ from → from ≤ at → at ≤ length old → new ≡ take end old ++ drop from old → drop (at - (from - end)) new ≡ drop at old
rest-closed end from at old new before whole within is =
    let some : end ≤ length old = omega arith in
    let rest : drop end new ≡ drop from old = ap (drop end) is ∙ drop-closed end from old some in
    let seam : end + (at - from) ≡ at - (from - end) = omega arith in
    let back : from + (at - from) ≡ at = omega arith in
    ap (λ (n : ℕ). drop n new) (sym seam) ∙ sym (drop-drop (at - from) end new) ∙ ap (drop (at - from)) rest ∙ drop-drop (at - from) from old ∙ ap (λ (n : ℕ). drop n old) back

pub size-closed : (end from at : ℕ) (old new : List ℕ) → end ≤ from → from ≤ at → at ≤ length old → new ≡ take end old ++ drop from old → at - (from - end) + length old ≡ at + length new
size-closed end from at old new before whole within is =
    let some : end ≤ length old = omega arith in
    let many : length new ≡ end + (length old - from) = ap length is ∙ length-append (take end old) (drop from old) ∙ ap₂ (λ (m n : ℕ). m + n) (length-take-le end old some) (length-drop from old) in
    omega (arith, many)
