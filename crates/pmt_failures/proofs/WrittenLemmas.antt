-- The bytes that stores have written, by blocks of 64.
use Rattle.std.proofs.Common.{◌≡◌, ℕ, zero, suc, ◌+◌, ◌-◌, ◌*◌, ◌/◌, ◌%◌, ◌^◌, ◌<◌, ◌≤◌, min, max, inl, inr, Bool, true, false, ◌&&◌, ◌||◌, length, [], refl, sym, ap, ◌∙◌, arith, true≢false}
use Rattle.std.specs.Prelude.{cond, not, IsTrue, IsFalse, nat_eq, nat_le, nat_lt}
use Rattle.std.specs.Int.{bit_at, trailing_zeros, w64}
use Rattle.std.specs.Int.Bits.{bit_and, bit_or}
use Rattle.std.proofs.lemmas.Bool.{cases_eq, cases_lt, le-leb, lt-leb, lt-ltb, le-ltb, eq-eqb, ne_eqb, and_from, and_left, and_right, or_left, or_right, or_from, cond-true, cond-false}
use Rattle.std.proofs.Math.Nat.{one-le-pow, pow-le-pow_right}
use Rattle.std.proofs.lemmas.Grind.{one_shifted}
use Rattle.std.proofs.lemmas.Nat.{and_le_l}
use Rattle.std.proofs.lemmas.Nat.Bits.{bit_at-lt, bit_at-trailing_zeros, bit_at-zero, bit_at_and, bit_at_or, bit_at_mask_above, bit_at_mask_below, bit_at_mask_inside}
use Rattle.pmt_laws.specs.Prelude.{Written, IsStore, writes, list_any, range_with_len}
use Rattle.pmt_failures.specs.declared.written.WrittenBytes.{WrittenBytes}
use Rattle.pmt_failures.specs.Showing.{bits_of, has_byte}

-- ---- Whether one of the numbers in a row passes a test

pub any-at : (p : ℕ → Bool) (a n b : ℕ) → a ≤ b → b < a + n → p b ≡ true → list_any p (range_with_len a n) ≡ true
any-at p a zero b from below is = absurd (omega arith)
any-at p a (suc n) b from below is = elim (cases_eq a b) [
  | inl same ↦ or_left (p a) (list_any p (range_with_len (a + 1) n)) (ap p same ∙ is)
  | inr apart ↦ or_right (p a) (list_any p (range_with_len (a + 1) n)) (any-at p (a + 1) n b (omega arith) (omega arith) is)
]

pub any-none : (p : ℕ → Bool) (a n : ℕ) → ((b : ℕ) → a ≤ b → b < a + n → p b ≡ false) → list_any p (range_with_len a n) ≡ false
any-none p a zero h = refl
any-none p a (suc n) h = or_from (p a) (list_any p (range_with_len (a + 1) n)) (h a (omega arith) (omega arith)) (any-none p (a + 1) n (λ b from below. h b (omega arith) (omega arith)))

-- a store and a range that meet
pub meets-any : (w : Written) (a n : ℕ) → 1 ≤ length w.bytes → 1 ≤ n → w.addr < a + n → a < w.addr + length w.bytes → list_any (writes w) (range_with_len a n) ≡ true
meets-any w a n some wide before after =
    let b : ℕ = max w.addr a in
    let from : w.addr ≤ max w.addr a = omega arith in
    let inside : max w.addr a - w.addr < length w.bytes = omega arith in
    any-at (writes w) a n b (omega arith) (omega arith) (and_from (nat_le w.addr b) (nat_lt (b - w.addr) (length w.bytes)) (le-leb w.addr b from) (lt-ltb (b - w.addr) (length w.bytes) inside))

-- ---- The bits of one block

pub shifted : (k : ℕ) → k ≤ 64 → 1 * 2 ^ k % 340282366920938463463374607431768211456 ≡ 2 ^ k
shifted k within = (one_shifted k 340282366920938463463374607431768211455 refl (omega arith)).0

pub powers : (low high : ℕ) → low ≤ high → high ≤ 64 → (1 ≤ 2 ^ low) × (2 ^ low ≤ 2 ^ high) × (2 ^ high ≤ 18446744073709551616)
powers low high order within = (one-le-pow low 2 (omega arith), pow-le-pow_right (omega arith) order, pow-le-pow_right (omega arith) within)

abbrev is_set : ℕ → ℕ → Bool
is_set bits k = nat_eq (bit_at bits k) 1

set-more : (bits more k : ℕ) → bit_at more k ≡ 1 → is_set (bit_or bits more) k ≡ true
set-more bits more k on =
    let both : max (bit_at bits k) (bit_at more k) ≡ 1 = omega (arith, on, bit_at-lt bits k) in
    ap (λ (n : ℕ). nat_eq n 1) (bit_at_or bits more k ∙ both)

set-same : (bits more k : ℕ) → bit_at more k ≡ 0 → is_set (bit_or bits more) k ≡ is_set bits k
set-same bits more k off =
    let both : max (bit_at bits k) (bit_at more k) ≡ bit_at bits k = omega (arith, off) in
    ap (λ (n : ℕ). nat_eq n 1) (bit_at_or bits more k ∙ both)

marked : (bits low len k : ℕ) → is_set (bit_or bits (2 ^ (low + len) - 2 ^ low)) k ≡ (nat_le low k && nat_lt k (low + len) || is_set bits k)
marked bits low len k = elim (cases_lt k low) [
  | inl below ↦
      set-same bits (2 ^ (low + len) - 2 ^ low) k (bit_at_mask_below low (low + len) k below)
      ∙ sym (ap (λ (t : Bool). t || is_set bits k) (and_left (nat_le low k) (nat_lt k (low + len)) (lt-leb low k below)))
  | inr from ↦ elim (cases_lt k (low + len)) [
    | inl inside ↦
        set-more bits (2 ^ (low + len) - 2 ^ low) k (bit_at_mask_inside low (low + len) k from inside)
        ∙ sym (or_left (nat_le low k && nat_lt k (low + len)) (is_set bits k) (and_from (nat_le low k) (nat_lt k (low + len)) (le-leb low k from) (lt-ltb k (low + len) inside)))
    | inr past ↦
        set-same bits (2 ^ (low + len) - 2 ^ low) k (bit_at_mask_above low (low + len) k past)
        ∙ sym (ap (λ (t : Bool). t || is_set bits k) (and_right (nat_le low k) (nat_lt k (low + len)) (le-ltb k (low + len) past)))
  ]
]

-- A bit of both is one from low on that comes before high.
within-mask : (bits low high k : ℕ) → bit_at (bit_and bits (2 ^ high - 2 ^ low)) k ≡ 1 → (low ≤ k) × (k < high) × (bit_at bits k ≡ 1)
within-mask bits low high k on = elim (cases_lt k low) [
  | inl below ↦ absurd (omega (arith, both, bit_at_mask_below low high k below))
  | inr from ↦ elim (cases_lt k high) [
    | inl inside ↦ (from, inside, omega (arith, both, bit_at_mask_inside low high k from inside, bit_at-lt bits k))
    | inr past ↦ absurd (omega (arith, both, bit_at_mask_above low high k past))
  ]
]
  where
    both : min (bit_at bits k) (bit_at (2 ^ high - 2 ^ low) k) ≡ 1
    both = sym (bit_at_and bits (2 ^ high - 2 ^ low) k) ∙ on

pub some-within : (bits mask low high : ℕ) → bits < 18446744073709551616 → mask ≡ 2 ^ high - 2 ^ low → IsTrue (not (nat_eq (bit_and bits mask) 0)) →
    (k : ℕ) × (low ≤ k) × (k < high) × (bit_at bits k ≡ 1)
some-within bits mask low high below is some = (place, own.0, own.1, own.2)
  where
    both : ℕ
    both = bit_and bits mask

    more : 0 < both
    more = elim (cases_lt 0 both) [
      | inl above ↦ above
      | inr none ↦ let empty : both ≡ 0 = omega (arith, none) in absurd (true≢false (sym some ∙ ap not (eq-eqb both 0 empty)))
    ]

    place : ℕ
    place = trailing_zeros w64 both

    lowest : (place < 64) × (bit_at both place ≡ 1) × ((i : ℕ) → i < place → bit_at both i ≡ 0)
    lowest = bit_at-trailing_zeros w64 both more (omega (arith, below, and_le_l bits mask))

    own : (low ≤ place) × (place < high) × (bit_at bits place ≡ 1)
    own = within-mask bits low high place (sym (ap (λ (n : ℕ). bit_at (bit_and bits n) place) is) ∙ lowest.1)

pub none-within : (bits mask low high : ℕ) → mask ≡ 2 ^ high - 2 ^ low → IsFalse (not (nat_eq (bit_and bits mask) 0)) → (k : ℕ) → low ≤ k → k < high → bit_at bits k ≡ 0
none-within bits mask low high is none k from below =
    let empty : bit_and bits mask ≡ 0 = elim (cases_eq (bit_and bits mask) 0) [
      | inl same ↦ same
      | inr more ↦ absurd (true≢false (sym (ap not (ne_eqb (bit_and bits mask) 0 more)) ∙ none))
    ] in
    let both : min (bit_at bits k) (bit_at (2 ^ high - 2 ^ low) k) ≡ 0 =
    sym (bit_at_and bits (2 ^ high - 2 ^ low) k) ∙ sym (ap (λ (m : ℕ). bit_at (bit_and bits m) k) is) ∙ ap (λ (n : ℕ). bit_at n k) empty ∙ bit_at-zero k in
    omega (arith, both, bit_at_mask_inside low high k from below, bit_at-lt bits k)

-- ---- A store's bytes

in-block : (a n b : ℕ) → a / 64 ≡ b / 64 → (nat_le (a % 64) (b % 64) && nat_lt (b % 64) (a % 64 + n)) ≡ (nat_le a b && nat_lt (b - a) n)
in-block a n b e = elim (cases_lt b a) [
  | inl before ↦ and_left (nat_le (a % 64) (b % 64)) (nat_lt (b % 64) (a % 64 + n)) (lt-leb (a % 64) (b % 64) (omega arith)) ∙ sym (and_left (nat_le a b) (nat_lt (b - a) n) (lt-leb a b before))
  | inr from ↦ elim (cases_lt (b - a) n) [
    | inl inside ↦
        and_from (nat_le (a % 64) (b % 64)) (nat_lt (b % 64) (a % 64 + n)) (le-leb (a % 64) (b % 64) (omega arith)) (lt-ltb (b % 64) (a % 64 + n) (omega arith))
        ∙ sym (and_from (nat_le a b) (nat_lt (b - a) n) (le-leb a b from) (lt-ltb (b - a) n inside))
    | inr past ↦
        and_right (nat_le (a % 64) (b % 64)) (nat_lt (b % 64) (a % 64 + n)) (le-ltb (b % 64) (a % 64 + n) (omega arith))
        ∙ sym (and_right (nat_le a b) (nat_lt (b - a) n) (le-ltb (b - a) n past))
  ]
]

off-block : (a n b : ℕ) → a % 64 + n ≤ 64 → (a / 64 ≡ b / 64 → ⊥) → (nat_le a b && nat_lt (b - a) n) ≡ false
off-block a n b inside apart = elim (cases_lt b a) [
  | inl before ↦ and_left (nat_le a b) (nat_lt (b - a) n) (lt-leb a b before)
  | inr from ↦ elim (cases_lt (b - a) n) [
    | inl within ↦ absurd (apart (omega arith))
    | inr past ↦ and_right (nat_le a b) (nat_lt (b - a) n) (le-ltb (b - a) n past)
  ]
]

noted : (old new : WrittenBytes) (first len : ℕ) → first % 64 + len ≤ 64 →
    ((q : ℕ) → bits_of new q ≡ cond (nat_eq (first / 64) q) (bit_or (bits_of old (first / 64)) (2 ^ (first % 64 + len) - 2 ^ (first % 64))) (bits_of old q)) →
    (b : ℕ) → has_byte new b ≡ (nat_le first b && nat_lt (b - first) len || has_byte old b)
noted old new first len inside put b = elim (cases_eq (first / 64) (b / 64)) [
  | inl e ↦
      ap (λ (n : ℕ). is_set n (b % 64)) (put (b / 64) ∙ cond-true (nat_eq (first / 64) (b / 64)) more (bits_of old (b / 64)) (eq-eqb (first / 64) (b / 64) e))
      ∙ marked (bits_of old (first / 64)) (first % 64) len (b % 64)
      ∙ ap (λ (t : Bool). t || is_set (bits_of old (first / 64)) (b % 64)) (in-block first len b e)
      ∙ ap (λ (n : ℕ). nat_le first b && nat_lt (b - first) len || is_set (bits_of old n) (b % 64)) e
  | inr apart ↦
      ap (λ (n : ℕ). is_set n (b % 64)) (put (b / 64) ∙ cond-false (nat_eq (first / 64) (b / 64)) more (bits_of old (b / 64)) (ne_eqb (first / 64) (b / 64) apart))
      ∙ sym (ap (λ (t : Bool). t || has_byte old b) (off-block first len b inside apart))
]
  where
    more : ℕ
    more = bit_or (bits_of old (first / 64)) (2 ^ (first % 64 + len) - 2 ^ (first % 64))

pub noted-store : (old new : WrittenBytes) (w : Written) (first len : ℕ) → IsStore w → first ≡ w.addr → len ≡ length w.bytes →
    ((q : ℕ) → bits_of new q ≡ cond (nat_eq (first / 64) q) (bit_or (bits_of old (first / 64)) (2 ^ (first % 64 + len) - 2 ^ (first % 64))) (bits_of old q)) →
    (b : ℕ) → has_byte new b ≡ (writes w b || has_byte old b)
noted-store old new w first len is from size put b =
    let fits : first % 64 + len ≤ 64 = omega (arith, is.inside, ap (λ (a : ℕ). a % 8) from) in
    noted old new first len fits put b
    ∙ ap (λ (a : ℕ). nat_le a b && nat_lt (b - a) len || has_byte old b) from
    ∙ ap (λ (n : ℕ). nat_le w.addr b && nat_lt (b - w.addr) n || has_byte old b) size

-- ---- A range, block by block

pub none-further : (written : WrittenBytes) (bits first end number low high : ℕ) → bits ≡ bits_of written number →
    ((k : ℕ) → low ≤ k → k < high → bit_at bits k ≡ 0) →
    low ≡ first - number * 64 → high ≡ min (end - number * 64) 64 →
    ((b : ℕ) → first ≤ b → b < end → b < number * 64 → has_byte written b ≡ false) →
    (b : ℕ) → first ≤ b → b < end → b < (number + 1) * 64 → has_byte written b ≡ false
none-further written bits first end number low high is none lowest highest before b from below within = elim (cases_lt b (number * 64)) [
  | inl less ↦ before b from below less
  | inr more ↦
      let at : b / 64 ≡ number = omega arith in
      ap (λ (n : ℕ). is_set (bits_of written n) (b % 64)) at ∙ sym (ap (λ (n : ℕ). is_set n (b % 64)) is) ∙ ap (λ (n : ℕ). nat_eq n 1) (none (b % 64) (omega arith) (omega arith))
]

pub some-found : (written : WrittenBytes) (bits first len number low high k : ℕ) → bits ≡ bits_of written number →
    low ≡ first - number * 64 → high ≡ min (first + len - number * 64) 64 → low ≤ k → k < high → bit_at bits k ≡ 1 →
    list_any (has_byte written) (range_with_len first len) ≡ true
some-found written bits first len number low high k was lowest highest from below is =
    let block : (number * 64 + k) / 64 ≡ number = omega arith in
    let place : (number * 64 + k) % 64 ≡ k = omega arith in
    let here : has_byte written (number * 64 + k) ≡ true =
    ap (λ (n : ℕ). is_set (bits_of written n) ((number * 64 + k) % 64)) block ∙ sym (ap (λ (n : ℕ). is_set n ((number * 64 + k) % 64)) was) ∙ ap (λ (j : ℕ). is_set bits j) place ∙ ap (λ (n : ℕ). nat_eq n 1) is in
    any-at (has_byte written) first len (number * 64 + k) (omega arith) (omega arith) here

pub none-found : (written : WrittenBytes) (first len number : ℕ) → first + len ≤ number * 64 →
    ((b : ℕ) → first ≤ b → b < first + len → b < number * 64 → has_byte written b ≡ false) →
    list_any (has_byte written) (range_with_len first len) ≡ false
none-found written first len number past before = any-none (has_byte written) first len (λ b from below. before b from below (omega arith))
