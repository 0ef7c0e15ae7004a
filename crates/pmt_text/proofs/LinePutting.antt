-- A line that is spelled from its end to its front, part by part.
use Rattle.std.proofs.Common.{◌≡◌, ℕ, suc, ◌+◌, ◌-◌, ◌*◌, ◌/◌, ◌%◌, ◌<◌, ◌≤◌, List, [], ◌∷◌, ◌++◌, length, get_or, drop, set, refl, sym, ◌∙◌, ap, subst, arith, append_assoc, append-nil, length-set}
use Rattle.std.proofs.Math.Seq.{drop-cons}
use Rattle.std.proofs.lemmas.List.{drop-set, drop_all}
use Rattle.pmt_model.specs.declared.event.Event.{Event}
use Rattle.pmt_text.specs.Spelling.{Puts, glyph, hex_bytes, hex_pair, numeral, word_of, word_text, arguments_of, event_text, spaced}
use Rattle.pmt_text.specs.Judging.{IsBase}
use Rattle.pmt_text.proofs.NumberWriting.{numeral-step, numeral-digit}
use Rattle.pmt_text.proofs.LineWriting.{event_text-parts}

-- one byte
pub put-one : (line : List ℕ) (at b : ℕ) → length line ≡ 128 → 1 ≤ at → at ≤ 128 → Puts line at (b ∷ []) 1 (at - 1) (set line (at - 1) b)
put-one line at b long some within =
    let back : at - 1 + 1 ≡ at = omega arith in
    record {
      put = drop-set line (at - 1) b (omega (arith, long)) ∙ ap (λ (n : ℕ). b ∷ drop n line) back;
      before = omega arith;
      few = omega arith;
      long = length-set line (at - 1) b ∙ long;
    }

-- nothing yet
pub put-none : (line : List ℕ) (at most : ℕ) → length line ≡ 128 → Puts line at [] most at line
put-none line at most long = record { put = refl; before = omega arith; few = omega arith; long = long }

-- a field of fewer bytes
pub put-fewer : {old field new : List ℕ} {at most start : ℕ} (more : ℕ) → Puts old at field most start new → most ≤ more → Puts old at field more start new
put-fewer more h l = let few = h.few in record { put = h.put; before = h.before; few = omega (arith, few, l); long = h.long }

-- one field, and another in front of it
pub put-then : (old mid new : List ℕ) (at between start first most more : ℕ) (later earlier : List ℕ) → Puts old at later most between mid → Puts mid between earlier more start new
    → first ≡ most + more → Puts old at (earlier ++ later) first start new
put-then old mid new at between start first most more later earlier h g sum =
    let a = h.before in
    let b = g.before in
    let c = h.few in
    let d = g.few in
    record {
      put = g.put ∙ ap (λ (xs : List ℕ). earlier ++ xs) h.put ∙ sym (append_assoc earlier later (drop at old));
      before = omega (arith, a, b);
      few = omega (arith, c, d, sum);
      long = g.long;
    }

-- two bytes
pub put-two : (line : List ℕ) (at low high : ℕ) → length line ≡ 128 → 2 ≤ at → at ≤ 128 → Puts line at (high ∷ low ∷ []) 2 (at - 2) (set (set line (at - 1) low) (at - 2) high)
put-two line at low high long some within =
    let first = put-one line at low long (omega arith) within in
    let back : at - 1 - 1 ≡ at - 2 = omega arith in
    subst (λ (n : ℕ). Puts line at (high ∷ low ∷ []) 2 n (set (set line (at - 1) low) n high)) back
    (put-then line (set line (at - 1) low) _ at (at - 1) (at - 1 - 1) 2 1 1 (low ∷ []) (high ∷ []) first (put-one (set line (at - 1) low) (at - 1) high first.long (omega arith) (omega arith)) refl)

-- ---- Numbers

-- one digit more
pub digit-more : (base n rest start next g : ℕ) (later line new : List ℕ) → IsBase base → base ≤ rest → g ≡ glyph (rest % base) → Puts line start (g ∷ []) 1 next new
    → numeral base n ++ later ≡ numeral base rest ++ drop start line → numeral base n ++ later ≡ numeral base (rest / base) ++ drop next new
digit-more base n rest start next g later line new b l is h so_far =
    let front : List ℕ = numeral base (rest / base) in
    so_far
    ∙ ap (λ (xs : List ℕ). xs ++ drop start line) (numeral-step base rest b l)
    ∙ append_assoc front (glyph (rest % base) ∷ []) (drop start line)
    ∙ ap (λ (d : ℕ). front ++ d ∷ drop start line) (sym is)
    ∙ ap (λ (xs : List ℕ). front ++ xs) (sym h.put)

-- the first digit
pub digit-last : (base n rest start next g : ℕ) (later line new : List ℕ) → IsBase base → rest < base → g ≡ glyph rest → Puts line start (g ∷ []) 1 next new
    → numeral base n ++ later ≡ numeral base rest ++ drop start line → drop next new ≡ numeral base n ++ later
digit-last base n rest start next g later line new b l is h so_far =
    sym (so_far ∙ ap (λ (xs : List ℕ). xs ++ drop start line) (numeral-digit base rest b l) ∙ ap (λ (d : ℕ). d ∷ drop start line) (sym is) ∙ sym h.put)

-- ---- Bytes

pub bytes-none : (line bytes : List ℕ) (at : ℕ) → length line ≡ 128 → Puts line at (hex_bytes (drop (length bytes) bytes)) (2 * (length bytes - length bytes)) at line
unfolding hex_bytes
bytes-none line bytes at long =
    subst (λ (xs : List ℕ). Puts line at (hex_bytes xs) (2 * (length bytes - length bytes)) at line) (sym (drop_all (length bytes) bytes (omega arith)))
    (put-none line at (2 * (length bytes - length bytes)) long)

last_bytes : (bytes : List ℕ) (left : ℕ) → 1 ≤ left → left ≤ length bytes → hex_bytes (drop (left - 1) bytes) ≡ hex_pair (get_or bytes (left - 1) 0) ++ hex_bytes (drop left bytes)
unfolding hex_bytes
last_bytes bytes left some within =
    let b = get_or bytes (left - 1) 0 in
    let back : suc (left - 1) ≡ left = omega arith in
    ap hex_bytes (drop-cons bytes (left - 1) 0 (omega arith) ∙ ap (λ (n : ℕ). b ∷ drop n bytes) back)

-- one byte more
pub byte-more : (bytes old line new : List ℕ) (at start next left : ℕ) → 1 ≤ left → left ≤ length bytes
    → Puts old at (hex_bytes (drop left bytes)) (2 * (length bytes - left)) start line → Puts line start (hex_pair (get_or bytes (left - 1) 0)) 2 next new
    → Puts old at (hex_bytes (drop (left - 1) bytes)) (2 * (length bytes - (left - 1))) next new
byte-more bytes old line new at start next left some within so_far pair =
    let most : 2 * (length bytes - (left - 1)) ≡ 2 * (length bytes - left) + 2 = omega arith in
    subst (λ (xs : List ℕ). Puts old at xs (2 * (length bytes - (left - 1))) next new) (sym (last_bytes bytes left some within))
    (put-then old line new at start next (2 * (length bytes - (left - 1))) (2 * (length bytes - left)) 2 (hex_bytes (drop left bytes)) (hex_pair (get_or bytes (left - 1) 0)) so_far pair most)

-- ---- Lines

-- the parts of the line, the last first
pub line-put : (e : Event) (old ended arguments thread new : List ℕ) (last third second first : ℕ) → Puts old 128 (10 ∷ []) 1 last ended → Puts ended last (spaced (arguments_of e.op)) 88 third arguments
    → Puts arguments third (32 ∷ numeral 10 e.thread) 21 second thread → Puts thread second (word_text (word_of e.op)) 15 first new → Puts old 128 (event_text e) 125 first new
line-put e old ended arguments thread new last third second first a b c d =
    let word : List ℕ = word_text (word_of e.op) in
    let number : List ℕ = 32 ∷ numeral 10 e.thread in
    let fields : List ℕ = spaced (arguments_of e.op) in
    let end : List ℕ = 10 ∷ [] in
    let two = put-then old ended arguments 128 last third 89 1 88 end fields a b refl in
    let three = put-then old arguments thread 128 third second 110 89 21 (fields ++ end) number two c refl in
    let four = put-then old thread new 128 second first 125 110 15 (number ++ (fields ++ end)) word three d refl in
    subst (λ (xs : List ℕ). Puts old 128 xs 125 first new)
    (sym (event_text-parts e ∙ append_assoc (word ++ number) fields end ∙ append_assoc word number (fields ++ end))) four

-- where nothing stood behind it, the line is all that stands there
pub whole-line : {old field new : List ℕ} {most start : ℕ} → Puts old 128 field most start new → length old ≡ 128 → drop start new ≡ field
whole-line {old = old} {field = field} h long = h.put ∙ ap (λ (xs : List ℕ). field ++ xs) (drop_all 128 old (omega (arith, long))) ∙ append-nil field
