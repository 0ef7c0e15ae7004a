-- Queues of lines.
use Rattle.std.proofs.Common.{◌≡◌, ℕ, suc, ◌+◌, ◌≤◌, Bool, List, [], ◌∷◌, ◌++◌, length, take, drop, sum, refl, ap, ap₂, ◌∙◌, arith, append_assoc, length-append, length-drop}
use Rattle.std.proofs.lemmas.List.{drop-append-le, length-take-le, take-append-le, take_all}
use Rattle.std.proofs.lemmas.List.Sums.{sum_by-append, sum_by-cons}
use Rattle.pmt_trimming.specs.LineQueues.{cut_by, AreCut, IsQueue, kept_text, kept_texts, Pops}

-- a line more
cut-more : (lengths bytes line : List ℕ) → sum lengths ≡ length bytes → cut_by (lengths ++ length line ∷ []) (bytes ++ line) ≡ cut_by lengths bytes ++ line ∷ []
cut-more [] [] line all = ap (λ (l : List ℕ). l ∷ []) (take_all (length line) line (omega arith))
cut-more [] (b ∷ bytes) line all = absurd (omega arith)
cut-more (n ∷ lengths) bytes line all =
    let first : sum (n ∷ lengths) ≡ n + sum lengths = sum_by-cons (λ x. x) n lengths in
    let within : n ≤ length bytes = omega arith in
    ap₂ (λ (l : List ℕ) (ls : List (List ℕ)). l ∷ ls) (take-append-le n bytes line within)
    (ap (cut_by (lengths ++ length line ∷ [])) (drop-append-le n bytes line within) ∙ cut-more lengths (drop n bytes) line (omega (arith, length-drop n bytes)))

pub queue-more : (old_lengths lengths : List ℕ) (start n : ℕ) (old_bytes bytes line : List ℕ) → AreCut old_lengths start old_bytes → n ≡ length line → lengths ≡ old_lengths ++ n ∷ [] → bytes ≡ old_bytes ++ line →
    cut_by lengths (drop start bytes) ≡ cut_by old_lengths (drop start old_bytes) ++ line ∷ []
queue-more old_lengths lengths start n old_bytes bytes line all len more longer =
    ap₂ (λ (ns bs : List ℕ). cut_by ns (drop start bs)) (more ∙ ap (λ (m : ℕ). old_lengths ++ m ∷ []) len) longer
    ∙ ap (cut_by (old_lengths ++ length line ∷ [])) (drop-append-le start old_bytes line (omega (arith, all)))
    ∙ cut-more old_lengths (drop start old_bytes) line (omega (arith, all, length-drop start old_bytes))

-- they are a queue still where the bytes of lines that have left are given up
pub still-queue : (lengths : List ℕ) (end start n : ℕ) (old new : List ℕ) → IsQueue lengths end start old → drop n new ≡ drop start old → end ≤ n → n ≤ length new → IsQueue lengths end n new
still-queue lengths end start n old new queue rest before within = record { before = before; cut = omega (arith, queue.cut, within, length-drop start old, length-drop n new, ap length rest) }

-- and where a line comes
pub queue-with : (lengths longer : List ℕ) (end start : ℕ) (bytes more line : List ℕ) → IsQueue lengths end start bytes → longer ≡ lengths ++ length line ∷ [] → more ≡ bytes ++ line → IsQueue longer end start more
queue-with lengths longer end start bytes more line queue lengths_are bytes_are = record {
  before = queue.before;
  cut = omega (arith, queue.cut, ap sum lengths_are, sum_by-append (λ x. x) lengths (length line ∷ []), ap length bytes_are, length-append bytes line);
}

-- the text before them stays
pub text-kept : (lengths : List ℕ) (end start : ℕ) (bytes more line : List ℕ) → IsQueue lengths end start bytes → more ≡ bytes ++ line → take end more ≡ take end bytes
text-kept lengths end start bytes more line queue is = ap (take end) is ∙ take-append-le end bytes line (omega (arith, queue.before, queue.cut))

-- no line
pub none-cut : (lengths bytes : List ℕ) → cut_by lengths bytes ≡ [] → lengths ≡ []
none-cut [] bytes is = refl
none-cut (n ∷ lengths) bytes is = absurd (cc)

pub none-left : (lengths bytes : List ℕ) → lengths ≡ [] → cut_by lengths bytes ≡ []
none-left lengths bytes none = ap (λ (ns : List ℕ). cut_by ns bytes) none

-- where there is none, more may come to the text
pub no-line : (lengths bytes : List ℕ) (end : ℕ) (new : List ℕ) → cut_by lengths bytes ≡ [] → end ≡ length new → IsQueue lengths end end new
no-line lengths bytes end new none all = rw (none-cut lengths bytes none) (record { before = omega arith; cut = omega (arith, all) })

pub no-queue : (lengths : List ℕ) (end start : ℕ) (bytes less new : List ℕ) → cut_by lengths (drop start bytes) ≡ [] → IsQueue lengths end start bytes → less ≡ take end bytes → new ≡ less → IsQueue lengths end end new
no-queue lengths end start bytes less new none queue cut same =
    no-line lengths (drop start bytes) end new none (omega (arith, queue.before, queue.cut, ap length same, ap length cut, length-take-le end bytes (omega (arith, queue.before, queue.cut))))

-- as many lines as lengths
pub length-cut : (lengths bytes : List ℕ) → length (cut_by lengths bytes) ≡ length lengths
length-cut [] bytes = refl
length-cut (n ∷ lengths) bytes = ap suc (length-cut lengths (drop n bytes))

-- where a line has left, the flags that are left choose what is left
no-texts : (flags : List Bool) → kept_texts flags [] ≡ []
no-texts [] = refl
no-texts (b ∷ flags) = refl

pub texts-pop : (flags : List Bool) (kept : Bool) (old new : List (List ℕ)) (text longer : List ℕ) → Pops old kept text new longer → longer ++ kept_texts flags new ≡ text ++ kept_texts (kept ∷ flags) old
texts-pop flags kept [] new text longer pops = ap₂ (λ (t : List ℕ) (lines : List (List ℕ)). t ++ kept_texts flags lines) pops.1 pops.0 ∙ ap (λ (t : List ℕ). text ++ t) (no-texts flags)
texts-pop flags kept (line ∷ old) new text longer pops =
    ap₂ (λ (t : List ℕ) (lines : List (List ℕ)). t ++ kept_texts flags lines) pops.1 pops.0 ∙ append_assoc text (kept_text kept line) (kept_texts flags old)
