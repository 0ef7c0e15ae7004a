-- Addresses and bytes: how the reader of a field meets what the field spells.
use Rattle.std.proofs.Common.{◌≡◌, ◌≢◌, ℕ, zero, suc, ◌+◌, ◌*◌, ◌/◌, ◌%◌, ◌<◌, ◌≤◌, ◌⊎◌, inl, inr, Bool, true, false, cond, List, [], ◌∷◌, length, get_or, take, drop, Option, Some, None, option_map, refl, sym, ◌∙◌, ap, ap₂, subst, arith, set, length-take, get_or-take, get_or-set_same, get_or-set_other}
use Rattle.std.specs.List.{AllByRecursion}
use Rattle.std.specs.Char.{digit_value}
use Rattle.std.specs.Str.{bytes_eq}
use Rattle.std.specs.Str.Parse.{digits_value}
use Rattle.std.proofs.lemmas.Bool.{false_from_ne_true, cond-true, cond-false, cases_eq}
use Rattle.std.proofs.lemmas.Bool.Decides.{nat_tests}
use Rattle.std.proofs.lemmas.Grind.{same_number_lists}
use Rattle.std.proofs.lemmas.Slice.Eq.{bytes_eq-Decides}
use Rattle.pmt_text.specs.Spelling.{glyph, numeral, address, hex_bytes}
use Rattle.pmt_text.specs.Judging.{number_in, address_in, bytes_in, paired, capped, digit_of, GivesBytes}
use Rattle.pmt_text.proofs.NumeralLemmas.{AreDigits, AreDigits-at, digit_of-glyph, digit_value-glyph, digit_value-digit_of, glyph-digit_of, number_in-numeral}

-- ---- Addresses

-- after 0x an address is a number in base 16
pub address_in-prefixed : (rest : List ℕ) → address_in (48 ∷ 120 ∷ rest) ≡ number_in 16 rest
unfolding address_in number_in address
address_in-prefixed rest = refl

address_in-front : (field : List ℕ) → 2 ≤ length field → get_or field 0 0 ≡ 48 → get_or field 1 0 ≡ 120 → address_in field ≡ number_in 16 (drop 2 field)
address_in-front (c ∷ d ∷ rest) l a b = ap₂ (λ (x y : ℕ). address_in (x ∷ y ∷ rest)) a b ∙ address_in-prefixed rest
address_in-front z l a b = absurd (omega arith)

-- what an address is read as, where it begins with 0x
pub reads-address : (field : List ℕ) (result : Option ℕ) → 2 ≤ length field → get_or field 0 0 ≡ 48 → get_or field 1 0 ≡ 120 → result ≡ option_map capped (number_in 16 (drop 2 field)) → result ≡ option_map capped (address_in field)
reads-address field result l a b e = e ∙ ap (option_map capped) (sym (address_in-front field l a b))

address_in-other : (field : List ℕ) → ((a : ℕ) → address a ≡ field → ⊥) → address_in field ≡ None
unfolding address_in
address_in-other field h =
    let a = digits_value 16 (drop 2 field) in
    cond-false (bytes_eq (address a) field) (Some a) None (false_from_ne_true _ (λ e. h a ((bytes_eq-Decides (address a) field).0 e)))

address-first : (a : ℕ) → (get_or (address a) 0 0 ≡ 48) × (get_or (address a) 1 0 ≡ 120) × (2 ≤ length (address a))
unfolding address
address-first a = (refl, refl, omega arith)

-- a field that does not begin with 0x is no address
pub reads-no_address : (field : List ℕ) → (length field < 2) ⊎ ((get_or field 0 0 ≢ 48) ⊎ (get_or field 1 0 ≢ 120)) → None ≡ option_map capped (address_in field)
reads-no_address field h = sym (ap (option_map capped) (address_in-other field (go h)))
  where
    go : (length field < 2) ⊎ ((get_or field 0 0 ≢ 48) ⊎ (get_or field 1 0 ≢ 120)) → (a : ℕ) → address a ≡ field → ⊥
    go (inl short) a e = let same : length (address a) ≡ length field = ap length e in omega (arith, (address-first a).2)
    go (inr (inl other)) a e = other (sym (ap (λ (xs : List ℕ). get_or xs 0 0) e) ∙ (address-first a).0)
    go (inr (inr other)) a e = other (sym (ap (λ (xs : List ℕ). get_or xs 1 0) e) ∙ (address-first a).1)

-- an address is read as itself
pub address_in-address : (a : ℕ) → address_in (address a) ≡ Some a
unfolding address
address_in-address a = address_in-prefixed (numeral 16 a) ∙ number_in-numeral 16 a (inr refl)

-- what was read as an address is spelled as the field
pub address-address_in : (field : List ℕ) (a : ℕ) → address_in field ≡ Some a → address a ≡ field
unfolding address_in
address-address_in field a e = go (bytes_eq (address (digits_value 16 (drop 2 field))) field) refl e
  where
    go : (b : Bool) → bytes_eq (address (digits_value 16 (drop 2 field))) field ≡ b → cond b (Some (digits_value 16 (drop 2 field))) None ≡ Some a → address a ≡ field
    go true same some =
        let value : digits_value 16 (drop 2 field) ≡ a = cc in
        ap address (sym value) ∙ (bytes_eq-Decides (address (digits_value 16 (drop 2 field))) field).0 same
    go false same some = cc

-- ---- Bytes

abbrev pub AreSmall : List ℕ → Type 0
AreSmall bytes = AllByRecursion (λ b. b < 256) bytes

-- the digits of bytes write them again
pub paired-hex_bytes : (bytes : List ℕ) → AreSmall bytes → paired (hex_bytes bytes) ≡ bytes
unfolding hex_bytes
paired-hex_bytes [] h = refl
paired-hex_bytes (b ∷ bytes) h =
    let high : digit_value (glyph (b / 16 % 16)) ≡ b / 16 % 16 = digit_value-glyph (b / 16 % 16) (omega arith) in
    let low : digit_value (glyph (b % 16)) ≡ b % 16 = digit_value-glyph (b % 16) (omega arith) in
    let small : b < 256 = h.0 in
    let value : 16 * digit_value (glyph (b / 16 % 16)) + digit_value (glyph (b % 16)) ≡ b = ap₂ (λ (x y : ℕ). 16 * x + y) high low ∙ omega arith in
    ap₂ (λ (x : ℕ) (xs : List ℕ). x ∷ xs) value (paired-hex_bytes bytes h.1)

-- bytes are read as themselves
pub bytes_in-hex_bytes : (b : ℕ) (bytes : List ℕ) → AreSmall (b ∷ bytes) → bytes_in (hex_bytes (b ∷ bytes)) ≡ Some (b ∷ bytes)
unfolding bytes_in hex_bytes
bytes_in-hex_bytes b bytes h =
    let back = paired-hex_bytes (b ∷ bytes) h in
    let text = hex_bytes (b ∷ bytes) in
    cond-true (bytes_eq (hex_bytes (paired text)) text) (Some (paired text)) None ((bytes_eq-Decides (hex_bytes (paired text)) text).1 (ap hex_bytes back))
    ∙ ap (λ (xs : List ℕ). Some xs) back

-- what was read as bytes is spelled as the field
pub hex_bytes-bytes_in : (field bytes : List ℕ) → bytes_in field ≡ Some bytes → hex_bytes bytes ≡ field
unfolding bytes_in
hex_bytes-bytes_in [] bytes e = cc
hex_bytes-bytes_in (x ∷ rest) bytes e = go (bytes_eq (hex_bytes (paired (x ∷ rest))) (x ∷ rest)) refl e
  where
    go : (b : Bool) → bytes_eq (hex_bytes (paired (x ∷ rest))) (x ∷ rest) ≡ b → cond b (Some (paired (x ∷ rest))) None ≡ Some bytes → hex_bytes bytes ≡ x ∷ rest
    go true same some =
        let value : paired (x ∷ rest) ≡ bytes = cc in
        ap hex_bytes (sym value) ∙ (bytes_eq-Decides (hex_bytes (paired (x ∷ rest))) (x ∷ rest)).0 same
    go false same some = cc

-- the spelling of bytes has digits alone, two for each byte
pub AreDigits-hex_bytes : (bytes : List ℕ) → AreDigits 16 (hex_bytes bytes)
unfolding hex_bytes
AreDigits-hex_bytes [] = tt
AreDigits-hex_bytes (b ∷ bytes) =
    let P : ℕ → Type 0 = λ n. n < 16 in
    let high : b / 16 % 16 < 16 = omega arith in
    let low : b % 16 < 16 = omega arith in
    (subst P (sym (digit_of-glyph (b / 16 % 16) high)) high, (subst P (sym (digit_of-glyph (b % 16) low)) low, AreDigits-hex_bytes bytes))

length-hex_bytes : (bytes : List ℕ) → length (hex_bytes bytes) ≡ 2 * length bytes
unfolding hex_bytes
length-hex_bytes [] = refl
length-hex_bytes (b ∷ bytes) = let more = length-hex_bytes bytes in omega arith

-- an even number of digits is the spelling of the bytes that they write
pub hex_bytes-paired : (field : List ℕ) (n : ℕ) → length field ≡ n + n → AreDigits 16 field → hex_bytes (paired field) ≡ field
unfolding hex_bytes
hex_bytes-paired [] n l h = refl
hex_bytes-paired (x ∷ y ∷ rest) (suc n) l h =
    let a : digit_value x ≡ digit_of x = digit_value-digit_of x h.0 in
    let b : digit_value y ≡ digit_of y = digit_value-digit_of y h.1.0 in
    let byte = 16 * digit_value x + digit_value y in
    let high : digit_of x < 16 = h.0 in
    let low : digit_of y < 16 = h.1.0 in
    let first : byte / 16 % 16 ≡ digit_of x = omega arith in
    let second : byte % 16 ≡ digit_of y = omega arith in
    ap₂ (λ (u v : ℕ). glyph u ∷ glyph v ∷ hex_bytes (paired rest)) first second
    ∙ ap₂ (λ (u v : ℕ). u ∷ v ∷ hex_bytes (paired rest)) (glyph-digit_of x high) (glyph-digit_of y low)
    ∙ ap (λ (xs : List ℕ). x ∷ y ∷ xs) (hex_bytes-paired rest n (omega arith) h.1.1)
hex_bytes-paired c d l h = absurd (omega arith)

pub length-paired : (field : List ℕ) (n : ℕ) → length field ≡ n + n → length (paired field) ≡ n
length-paired [] n l = omega arith
length-paired (x ∷ y ∷ rest) (suc n) l = let more = length-paired rest n (omega arith) in omega arith
length-paired a b l = absurd (omega arith)

-- the byte that a pair of digits writes
pub get_or-paired : (field : List ℕ) (k : ℕ) → k + k + 1 < length field → get_or (paired field) k 0 ≡ 16 * digit_value (get_or field (k + k) 0) + digit_value (get_or field (k + k + 1) 0)
get_or-paired (x ∷ y ∷ rest) zero l = refl
get_or-paired (x ∷ y ∷ rest) (suc k) l =
    let even : suc k + suc k ≡ suc (suc (k + k)) = omega arith in
    let odd : suc k + suc k + 1 ≡ suc (suc (k + k + 1)) = omega arith in
    get_or-paired rest k (omega arith)
    ∙ ap₂ (λ (i j : ℕ). 16 * digit_value (get_or (x ∷ y ∷ rest) i 0) + digit_value (get_or (x ∷ y ∷ rest) j 0)) (sym even) (sym odd)
get_or-paired a k l = absurd (omega arith)

bytes_in-other : (field : List ℕ) → ((bytes : List ℕ) → hex_bytes bytes ≡ field → ⊥) → bytes_in field ≡ None
unfolding bytes_in
bytes_in-other [] h = refl
bytes_in-other (x ∷ rest) h =
    let bytes = paired (x ∷ rest) in
    cond-false (bytes_eq (hex_bytes bytes) (x ∷ rest)) (Some bytes) None (false_from_ne_true _ (λ e. h bytes ((bytes_eq-Decides (hex_bytes bytes) (x ∷ rest)).0 e)))

pub bytes_in-empty : (field : List ℕ) → length field ≡ 0 → bytes_in field ≡ None
unfolding bytes_in
bytes_in-empty [] e = refl
bytes_in-empty (x ∷ rest) e = absurd (omega arith)

-- an odd number of digits is no spelling of bytes
pub bytes_in-odd : (field : List ℕ) → length field % 2 ≡ 1 → bytes_in field ≡ None
bytes_in-odd field e = bytes_in-other field (λ bytes same. let l : length (hex_bytes bytes) ≡ length field = ap length same in omega (arith, length-hex_bytes bytes))

-- nor is a field with another byte
pub bytes_in-no_digit : (field : List ℕ) (i : ℕ) → i < length field → 16 ≤ digit_of (get_or field i 0) → bytes_in field ≡ None
bytes_in-no_digit field i l h = bytes_in-other field (λ bytes same.
    let digits : AreDigits 16 field = subst (λ (xs : List ℕ). AreDigits 16 xs) same (AreDigits-hex_bytes bytes) in
    omega (arith, AreDigits-at 16 field i digits l))

-- an even number of digits, at least two, is read as the bytes that they write
pub bytes_in-digits : (field : List ℕ) (n : ℕ) → 0 < n → length field ≡ n + n → AreDigits 16 field → bytes_in field ≡ Some (paired field)
unfolding bytes_in
bytes_in-digits [] n pos l h = absurd (omega arith)
bytes_in-digits (x ∷ rest) n pos l h =
    let bytes = paired (x ∷ rest) in
    cond-true (bytes_eq (hex_bytes bytes) (x ∷ rest)) (Some bytes) None ((bytes_eq-Decides (hex_bytes bytes) (x ∷ rest)).1 (hex_bytes-paired (x ∷ rest) n l h))

-- ---- The reader of bytes

pub digit_of-le : (c : ℕ) → digit_of c ≤ 16
digit_of-le c = grind (arith, nat_tests)

pub gives-none : (field out : List ℕ) → bytes_in field ≡ None → GivesBytes (bytes_in field) None out
gives-none field out e = subst (λ (o : Option (List ℕ)). GivesBytes o None out) (sym e) refl

pub gives-some : (field bytes out : List ℕ) (result : Option ℕ) → bytes_in field ≡ Some bytes → result ≡ Some (length bytes) → (length bytes ≤ 8 → take (length bytes) out ≡ bytes) → GivesBytes (bytes_in field) result out
gives-some field bytes out result e r t = subst (λ (o : Option (List ℕ)). GivesBytes o result out) (sym e) (r, t)

AreDigits-from : (cs : List ℕ) → ((k : ℕ) → k < length cs → digit_of (get_or cs k 0) < 16) → AreDigits 16 cs
AreDigits-from [] h = tt
AreDigits-from (c ∷ cs) h = (h 0 (omega arith), AreDigits-from cs (λ k l. h (suc k) (omega arith)))

-- every place is in a pair
pairs_are_digits : (field : List ℕ) (n : ℕ) → length field ≡ n + n → ((k : ℕ) → k < n → digit_of (get_or field (2 * k) 0) < 16) → ((k : ℕ) → k < n → digit_of (get_or field (2 * k + 1) 0) < 16) → AreDigits 16 field
pairs_are_digits field n l even odd = AreDigits-from field at
  where
    at : (k : ℕ) → k < length field → digit_of (get_or field k 0) < 16
    at k h = elim (cases_eq (k % 2) 0) [ inl e ↦ at_even e | inr o ↦ at_odd o ]
      where
        P : ℕ → Type 0
        P i = digit_of (get_or field i 0) < 16

        at_even : k % 2 ≡ 0 → P k
        at_even e = let same : 2 * (k / 2) ≡ k = omega arith in subst (λ (i : ℕ). digit_of (get_or field i 0) < 16) same (even (k / 2) (omega arith))

        at_odd : (k % 2 ≡ 0 → ⊥) → P k
        at_odd o = let same : 2 * (k / 2) + 1 ≡ k = omega arith in subst (λ (i : ℕ). digit_of (get_or field i 0) < 16) same (odd (k / 2) (omega arith))

-- the byte that a pair of digits writes, by the digits that the reader takes
pub get_or-paired_digits : (field : List ℕ) (k : ℕ) → 2 * k + 1 < length field → digit_of (get_or field (2 * k) 0) < 16 → digit_of (get_or field (2 * k + 1) 0) < 16 →
    16 * digit_of (get_or field (2 * k) 0) + digit_of (get_or field (2 * k + 1) 0) ≡ get_or (paired field) k 0
get_or-paired_digits field k l h g =
    let even : 2 * k ≡ k + k = omega arith in
    ap₂ (λ (x y : ℕ). 16 * x + y) (sym (digit_value-digit_of (get_or field (2 * k) 0) h)) (sym (digit_value-digit_of (get_or field (2 * k + 1) 0) g))
    ∙ ap (λ (i : ℕ). 16 * digit_value (get_or field i 0) + digit_value (get_or field (i + 1) 0)) even
    ∙ sym (get_or-paired field k (omega arith))

-- after all pairs, the bytes are given
pub gives-pairs : (field out : List ℕ) (n : ℕ) → 0 < n → length field ≡ n + n → length out ≡ 8 →
    ((k : ℕ) → k < n → digit_of (get_or field (2 * k) 0) < 16) → ((k : ℕ) → k < n → digit_of (get_or field (2 * k + 1) 0) < 16) →
    ((k : ℕ) → k < n → k < 8 → get_or out k 0 ≡ get_or (paired field) k 0) → GivesBytes (bytes_in field) (Some n) out
gives-pairs field out n pos l eight even odd written =
    let digits = pairs_are_digits field n l even odd in
    let count : length (paired field) ≡ n = length-paired field n l in
    gives-some field (paired field) out (Some n) (bytes_in-digits field n pos l digits) (ap (λ (x : ℕ). Some x) (sym count))
    (λ few. same_number_lists (take (length (paired field)) out) (paired field) (simp length-take (omega arith))
    (λ k h. let short : k < length (paired field) = omega (arith, h, length-take (length (paired field)) out) in
    get_or-take (length (paired field)) out k 0 short ∙ written k (omega arith) (omega arith)))

-- one byte more is written, where there is room
pub written_more : (out new bytes : List ℕ) (i b : ℕ) → length out ≡ 8 → i < 8 → ((k : ℕ) → k < i → k < 8 → get_or out k 0 ≡ get_or bytes k 0) → b ≡ get_or bytes i 0 → new ≡ set out i b →
    (k : ℕ) → k < i + 1 → k < 8 → get_or new k 0 ≡ get_or bytes k 0
written_more out new bytes i b l room before e n k h short = elim (cases_eq k i) [ inl same ↦ at same | inr other ↦ below other ]
  where
    at : k ≡ i → get_or new k 0 ≡ get_or bytes k 0
    at same = ap₂ (λ (xs : List ℕ) (j : ℕ). get_or xs j 0) n same ∙ get_or-set_same out i b 0 (omega arith) ∙ e ∙ ap (λ (j : ℕ). get_or bytes j 0) (sym same)

    below : (k ≡ i → ⊥) → get_or new k 0 ≡ get_or bytes k 0
    below other = ap (λ (xs : List ℕ). get_or xs k 0) n ∙ get_or-set_other out i k b 0 other ∙ before k (omega arith) short
