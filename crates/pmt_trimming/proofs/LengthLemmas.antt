-- How long a line is.
use Rattle.std.proofs.Common.{◌≡◌, ℕ, zero, suc, ◌+◌, ◌-◌, ◌*◌, ◌/◌, ◌%◌, ◌^◌, ◌<◌, ◌≤◌, ◌⊎◌, inl, inr, List, [], ◌∷◌, ◌++◌, length, sum, refl, sym, ap, ap₂, ◌∙◌, subst, arith, pow-suc, length-append, append_assoc, append-nil, map, take, get_or}
use mir.Val.{bool_byte}
use Rattle.std.specs.Prelude.{nat_le}
use Rattle.std.specs.Int.Count.{count_leading_zeros}
use Rattle.std.proofs.lemmas.List.{map-append, take_more}
use Rattle.std.proofs.lemmas.List.Sums.{sum_by-cons}
use Rattle.std.proofs.Math.Seq.{take-append_seam, drop-append_seam}
use Rattle.std.proofs.Math.Nat.{pow-le-pow_right, one-le-pow}
use Rattle.std.specs.Int.Bits.{bit_or, or_zero_r}
use Rattle.std.proofs.lemmas.Bool.{cases_lt, le-leb, lt-leb}
use Rattle.std.proofs.lemmas.Nat.{leading_top, le_or_l, le_or_r, or_lt, or_shr, pow-add}
use Rattle.pmt_laws.specs.Prelude.{Op, Store, Event, Written, flat_map}
use Rattle.pmt_text.specs.Judging.{IsBase}
use Rattle.pmt_text.specs.Spelling.{address, arguments_of, event_text, glyph, hex_bytes, numeral, word_of, word_text, spaced}
use Rattle.pmt_text.proofs.LineWriting.{event_text-parts}
use Rattle.pmt_text.proofs.NumberWriting.{numeral-step, numeral-digit}
use Rattle.pmt_trimming.specs.LineQueues.{cut_by}

-- ---- Numbers

-- a number of one digit, and of one more
one-digit : (base n : ℕ) → IsBase base → n < base → length (numeral base n) ≡ 1
one-digit base n is low = ap length (numeral-digit base n is low)

digit-more : (base n : ℕ) → IsBase base → base ≤ n → length (numeral base n) ≡ suc (length (numeral base (n / base)))
digit-more base n is low = ap length (numeral-step base n is low) ∙ length-append (numeral base (n / base)) (glyph (n % base) ∷ []) ∙ omega arith

-- a number of at most four digits of base 10
pub decimal-length : (n : ℕ) → n < 10000 → 1 + bool_byte (nat_le 10 n) + bool_byte (nat_le 100 n) + bool_byte (nat_le 1000 n) ≡ length (numeral 10 n)
decimal-length n high = go (cases_lt n 10) (cases_lt n 100) (cases_lt n 1000)
  where
    more : (m : ℕ) → 10 ≤ m → length (numeral 10 m) ≡ suc (length (numeral 10 (m / 10)))
    more m low = digit-more 10 m (inl refl) low

    one : (m : ℕ) → m < 10 → length (numeral 10 m) ≡ 1
    one m low = one-digit 10 m (inl refl) low

    is : (a : ℕ) → a ≤ n → bool_byte (nat_le a n) ≡ 1
    is a from = ap bool_byte (le-leb a n from)

    not : (a : ℕ) → n < a → bool_byte (nat_le a n) ≡ 0
    not a below = ap bool_byte (lt-leb a n below)

    go : (n < 10) ⊎ (10 ≤ n) → (n < 100) ⊎ (100 ≤ n) → (n < 1000) ⊎ (1000 ≤ n) → 1 + bool_byte (nat_le 10 n) + bool_byte (nat_le 100 n) + bool_byte (nat_le 1000 n) ≡ length (numeral 10 n)
    go (inl ten) _ _ = omega (arith, not 10 ten, not 100 (omega arith), not 1000 (omega arith), one n ten)
    go (inr ten) (inl hundred) _ = omega (arith, is 10 ten, not 100 hundred, not 1000 (omega arith), more n ten, one (n / 10) (omega arith))
    go (inr ten) (inr hundred) (inl thousand) = omega (arith, is 10 ten, is 100 hundred, not 1000 thousand, more n ten, more (n / 10) (omega arith), one (n / 10 / 10) (omega arith))
    go (inr ten) (inr hundred) (inr thousand) =
        omega (arith, is 10 ten, is 100 hundred, is 1000 thousand, more n ten, more (n / 10) (omega arith), more (n / 10 / 10) (omega arith), one (n / 10 / 10 / 10) (omega arith))

-- so many digits of base 16 beside the first
hex-digits : (q n : ℕ) → 16 ^ q ≤ n → n < 16 ^ suc q → length (numeral 16 n) ≡ suc q
hex-digits zero n low high = one-digit 16 n (inr refl) (omega (arith, pow-suc 16 0))
hex-digits (suc q) n low high =
    digit-more 16 n (inr refl) (omega (arith, low, pow-suc 16 q, one-le-pow q 16 (omega arith)))
    ∙ ap suc (hex-digits q (n / 16) (omega (arith, pow-suc 16 q)) (omega (arith, pow-suc 16 (suc q))))

-- a number of four bits has one digit of base 16
pow-four : (q : ℕ) → 16 ^ q ≡ 2 ^ (4 * q)
pow-four zero = refl
pow-four (suc q) =
    let four : 4 * suc q ≡ 4 * q + 4 = omega arith in
    pow-suc 16 q ∙ ap (λ (n : ℕ). n * 16) (pow-four q) ∙ sym (pow-add 2 (4 * q) 4) ∙ ap (λ (n : ℕ). 2 ^ n) (sym four)

hex-top : (n leading len : ℕ) → 0 < n → n < 2 ^ 64 → leading ≡ count_leading_zeros 64 n → len ≡ (67 - leading) / 4 → len ≡ length (numeral 16 n)
hex-top n leading len some high is told =
    let top = leading_top 64 n some high in
    let q : ℕ = top.0 / 4 in
    let low : 16 ^ q ≤ n = omega (arith, pow-four q, pow-le-pow_right {n = 2} (omega arith) {i = 4 * q} {j = top.0} (omega arith), top.2) in
    let below : n < 16 ^ suc q = omega (arith, pow-four (suc q), pow-le-pow_right {n = 2} (omega arith) {i = suc top.0} {j = 4 * suc q} (omega arith), top.3) in
    let size : len ≡ suc q = omega (arith, told, is, top.1) in
    size ∙ sym (hex-digits q n low below)

-- the lowest digit does not matter
same-length : (n m : ℕ) → n ≤ m → m / 16 ≡ n / 16 → length (numeral 16 m) ≡ length (numeral 16 n)
same-length n m le same = go (cases_lt m 16)
  where
    go : (m < 16) ⊎ (16 ≤ m) → length (numeral 16 m) ≡ length (numeral 16 n)
    go (inl low) = one-digit 16 m (inr refl) low ∙ sym (one-digit 16 n (inr refl) (omega arith))
    go (inr high) = digit-more 16 m (inr refl) high ∙ ap (λ (q : ℕ). suc (length (numeral 16 q))) same ∙ sym (digit-more 16 n (inr refl) (omega arith))

pub hex-length : (n leading len : ℕ) → n < 2 ^ 64 → leading ≡ count_leading_zeros 64 (bit_or n 1) → len ≡ (67 - leading) / 4 → len ≡ length (numeral 16 n)
hex-length n leading len fits is told =
    hex-top (bit_or n 1) leading len (le_or_r n 1) (or_lt 64 n 1 fits (omega arith)) is told ∙ same-length n (bit_or n 1) (le_or_l n 1) (or_shr n 1 4 ∙ or_zero_r (n / 16))

-- ---- Fields

-- an address behind a space
pub address-length : (a n : ℕ) → n ≡ length (numeral 16 a) → 3 + n ≡ length (32 ∷ address a)
unfolding address
address-length a n is = omega (arith, is)

-- fields, each behind a space
pub spaced-one : (field : List ℕ) → length (spaced (field ∷ [])) ≡ length (32 ∷ field)
spaced-one field = ap length (append-nil (32 ∷ field))

pub spaced-more : (field : List ℕ) (fields : List (List ℕ)) → length (spaced (field ∷ fields)) ≡ length (32 ∷ field) + length (spaced fields)
spaced-more field fields = length-append (32 ∷ field) (spaced fields)

-- two digits a byte
pub bytes-length : (bytes : List ℕ) → length (hex_bytes bytes) ≡ 2 * length bytes
unfolding hex_bytes
bytes-length [] = refl
bytes-length (b ∷ bytes) = let more = bytes-length bytes in omega (arith, more)

-- the line of a store, without the thread and the LF
pub store-length : (op : Op) (w : Written) (place bytes : ℕ) → op ≡ Store w → place ≡ length (32 ∷ address w.addr) → bytes ≡ length w.bytes →
    5 + place + 1 + 2 * bytes ≡ length (word_text (word_of op)) + length (spaced (arguments_of op))
store-length op w place bytes is by of =
    let P : Op → Type 0 = λ o. 5 + place + 1 + 2 * bytes ≡ length (word_text (word_of o)) + length (spaced (arguments_of o)) in
    let size : 5 + place + 1 + 2 * bytes ≡ 5 + length (spaced (address w.addr ∷ hex_bytes w.bytes ∷ [])) = omega (arith, by, of, spaced-more (address w.addr) (hex_bytes w.bytes ∷ []), spaced-one (hex_bytes w.bytes), bytes-length w.bytes) in
    subst P (sym is) size

-- ---- Lines

pub event-length : (e : Event) (op thread : ℕ) → op ≡ length (word_text (word_of e.op)) + length (spaced (arguments_of e.op)) → thread ≡ length (numeral 10 e.thread) → op + 2 + thread ≡ length (event_text e)
event-length e op thread of by =
    let word = word_text (word_of e.op) in
    let number = 32 ∷ numeral 10 e.thread in
    let rest = spaced (arguments_of e.op) in
    omega (arith, of, by, ap length (event_text-parts e), length-append (word ++ number ++ rest) (10 ∷ []), length-append (word ++ number) rest, length-append word number)

-- ---- The lengths of some lines

-- one more
pub length-next : (es : List Event) (n : ℕ) (e : Event) (base old new : List ℕ) (len : ℕ) → n < length es → e ≡ get_or es n e → old ≡ base ++ map (λ x. length (event_text x)) (take n es) → len ≡ length (event_text e) → new ≡ old ++ len ∷ [] →
    new ≡ base ++ map (λ x. length (event_text x)) (take (n + 1) es)
length-next es n e base old new len within at before is longer =
    let more : map (λ x. length (event_text x)) (take (n + 1) es) ≡ map (λ x. length (event_text x)) (take n es) ++ length (event_text e) ∷ [] =
    ap (map (λ x. length (event_text x))) (take_more es n e within) ∙ map-append (λ x. length (event_text x)) (take n es) (get_or es n e ∷ []) ∙ ap (λ x. map (λ y. length (event_text y)) (take n es) ++ length (event_text x) ∷ []) (sym at) in
    longer ∙ ap (λ (ns : List ℕ). ns ++ len ∷ []) before
    ∙ ap (λ (k : ℕ). (base ++ map (λ x. length (event_text x)) (take n es)) ++ k ∷ []) is
    ∙ append_assoc base (map (λ x. length (event_text x)) (take n es)) (length (event_text e) ∷ [])
    ∙ ap (λ (ns : List ℕ). base ++ ns) (sym more)

-- they are those of the lines together
pub sum-lengths : (es : List Event) (ns text : List ℕ) → ns ≡ map (λ e. length (event_text e)) es → text ≡ flat_map event_text es → sum ns ≡ length text
sum-lengths es ns text are is = ap sum are ∙ go es ∙ ap length (sym is)
  where
    go : (xs : List Event) → sum (map (λ e. length (event_text e)) xs) ≡ length (flat_map event_text xs)
    go [] = refl
    go (e ∷ xs) = sum_by-cons (λ x. x) (length (event_text e)) (map (λ x. length (event_text x)) xs) ∙ omega (arith, go xs, length-append (event_text e) (flat_map event_text xs))

-- and cut these
pub cut-lines : (es : List Event) (ns text : List ℕ) → ns ≡ map (λ e. length (event_text e)) es → text ≡ flat_map event_text es → cut_by ns text ≡ map event_text es
cut-lines es ns text are is = ap₂ (λ (xs bytes : List ℕ). cut_by xs bytes) are is ∙ go es
  where
    go : (xs : List Event) → cut_by (map (λ e. length (event_text e)) xs) (flat_map event_text xs) ≡ map event_text xs
    go [] = refl
    go (e ∷ xs) =
        ap₂ (λ (l : List ℕ) (ls : List (List ℕ)). l ∷ ls) (take-append_seam (event_text e) (flat_map event_text xs))
        (ap (cut_by (map (λ x. length (event_text x)) xs)) (drop-append_seam (event_text e) (flat_map event_text xs)) ∙ go xs)
