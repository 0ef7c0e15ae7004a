-- The word of a line.
use Rattle.pmt_image.proofs.Prelude.{◌≡◌, ℕ, ◌^◌, ◌<◌, ◌==◌, inl, inr, Bool, true, false, if◌then◌else◌, nat_lt, List, [], ◌∷◌, ◌++◌, length, length-append, get_or, Option, None, Some, Result, Ok, Err, option_map, refl, sym, ap, ◌∙◌, arith, ne_eqb, lt-ltb, ltb-true, position_or_len, before_first, after_first, join_with_byte, true≢false, eqb-true, slice_split_first, join_with_byte-slice_split, address, numeral, address_in, number_in, capped, digit_of, AreDigits, AreDigits-numeral, number_in-numeral, numeral-number_in, address_in-address, address-address_in, parts, IsFree, parts-append, Asks}
use Rattle.std.proofs.lemmas.List.Sums.{fails_before_first, passes_at_first, split_at_first}

-- ---- The colon

digits-free : (cs : List ℕ) → AreDigits 16 cs → IsFree 58 cs
digits-free [] digits = tt
digits-free (c ∷ cs) digits = (ne_eqb c 58 (λ same. let e : digit_of c ≡ 16 = ap digit_of same in omega (arith, digits.0, e)), digits-free cs digits.1)

pub address-free : (a : ℕ) → IsFree 58 (address a)
unfolding address
address-free a = (refl, (refl, digits-free (numeral 16 a) (AreDigits-numeral 16 a (inr refl))))

colon-at : (front back : List ℕ) → get_or (front ++ 58 ∷ back) (length front) 0 ≡ 58
colon-at [] back = refl
colon-at (b ∷ front) back = colon-at front back

-- a word without a colon asks for nothing
pub no-colon : (word : List ℕ) → position_or_len (λ b. b == 58) word ≡ length word → (a k : ℕ) → Asks word a k → ⊥
no-colon word none a k asks =
    let front = address a in
    let back = numeral 10 asks.number in
    let size : length word ≡ length (front ++ 58 ∷ back) = ap (λ (xs : List ℕ). length xs) asks.spelled in
    let before : length front < position_or_len (λ b. b == 58) word = omega (arith, none, size, length-append front (58 ∷ back)) in
    let here : get_or word (length front) 0 ≡ 58 = ap (λ (xs : List ℕ). get_or xs (length front) 0) asks.spelled ∙ colon-at front back in
    true≢false (sym (ap (λ (b : ℕ). b == 58) here) ∙ fails_before_first (λ b. b == 58) word (length front) 0 before)

-- Where a word is cut at its first colon.
pub record IsCut (word front digits : List ℕ) : Type 0 where
  pub front_is : front ≡ before_first (λ b. b == 58) word
  pub digits_are : digits ≡ after_first (λ b. b == 58) word
  pub within : position_or_len (λ b. b == 58) word < length word

-- what it asks for stands there
asked-parts : (word front digits : List ℕ) (a k : ℕ) → IsCut word front digits → (x : Asks word a k) → (front ≡ address a) × (digits ≡ numeral 10 x.number)
asked-parts word front digits a k cut x =
    let split : parts 58 word ≡ before_first (λ b. b == 58) word ∷ parts 58 (after_first (λ b. b == 58) word) = slice_split_first (λ b. b == 58) word 0 cut.within in
    let spelled : parts 58 word ≡ address a ∷ parts 58 (numeral 10 x.number) = ap (parts 58) x.spelled ∙ parts-append 58 (address a) (numeral 10 x.number) (address-free a) in
    let first : before_first (λ b. b == 58) word ≡ address a = cc in
    let rest : parts 58 (after_first (λ b. b == 58) word) ≡ parts 58 (numeral 10 x.number) = cc in
    let back : after_first (λ b. b == 58) word ≡ numeral 10 x.number = sym (join_with_byte-slice_split 58 (after_first (λ b. b == 58) word)) ∙ ap (join_with_byte 58) rest ∙ join_with_byte-slice_split 58 (numeral 10 x.number) in
    (cut.front_is ∙ first, cut.digits_are ∙ back)

-- ---- What is read of its parts

address-read : (word front digits : List ℕ) (a k : ℕ) → IsCut word front digits → Asks word a k → address_in front ≡ Some a
address-read word front digits a k cut x = ap address_in (asked-parts word front digits a k cut x).0 ∙ address_in-address a

pub no-address : (word front digits : List ℕ) → IsCut word front digits → None ≡ option_map capped (address_in front) → (a k : ℕ) → Asks word a k → ⊥
no-address word front digits cut none a k x =
    let both : None ≡ option_map capped (Some a) = none ∙ ap (option_map capped) (address-read word front digits a k cut x) in
    absurd cc

pub no-number : (word front digits : List ℕ) → IsCut word front digits → None ≡ option_map capped (number_in 10 digits) → (a k : ℕ) → Asks word a k → ⊥
no-number word front digits cut none a k x =
    let read : number_in 10 digits ≡ Some x.number = ap (number_in 10) (asked-parts word front digits a k cut x).1 ∙ number_in-numeral 10 x.number (inl refl) in
    let both : None ≡ option_map capped (Some x.number) = none ∙ ap (option_map capped) read in
    absurd cc

-- an address is refused only if it has more than 48 bits
refused : {A B : Type 0} (n : ℕ) (x : A) (e o : B) → ◌≡◌ {A = Result A B} (Err e) (if nat_lt n (2 ^ 48) then Ok x else Err o) → n < 2 ^ 48 → ⊥
refused {A = A} {B = B} n x e o is below = go (nat_lt n (2 ^ 48)) (lt-ltb n (2 ^ 48) below) is
  where
    go : (b : Bool) → b ≡ true → ◌≡◌ {A = Result A B} (Err e) (if b then Ok x else Err o) → ⊥
    go true it same = absurd cc
    go false it same = absurd cc

pub no-address-past : {B : Type 0} (word front digits : List ℕ) (value : ℕ) (e o : B) → IsCut word front digits → Some value ≡ option_map capped (address_in front) →
    ◌≡◌ {A = Result ℕ B} (Err e) (if nat_lt value (2 ^ 48) then Ok value else Err o) → (a k : ℕ) → Asks word a k → ⊥
no-address-past word front digits value e o cut read is a k x =
    let both : Some value ≡ option_map capped (Some a) = read ∙ ap (option_map capped) (address-read word front digits a k cut x) in
    let same : value ≡ capped a = cc in
    refused value value e o is (omega (arith, same, x.is_address))

-- ---- What is asked

accepted : {B : Type 0} (n a : ℕ) (o : B) → ◌≡◌ {A = Result ℕ B} (Ok a) (if nat_lt n (2 ^ 48) then Ok n else Err o) → (a ≡ n) × (n < 2 ^ 48)
accepted {B = B} n a o is = go (nat_lt n (2 ^ 48)) refl is
  where
    go : (b : Bool) → nat_lt n (2 ^ 48) ≡ b → ◌≡◌ {A = Result ℕ B} (Ok a) (if b then Ok n else Err o) → (a ≡ n) × (n < 2 ^ 48)
    go true below same = (cc, ltb-true n (2 ^ 48) below)
    go false above same = absurd cc

-- a number below 2^48 that was read is the one that is spelled
address-in : (front : List ℕ) (value : ℕ) → Some value ≡ option_map capped (address_in front) → value < 2 ^ 48 → address value ≡ front
address-in front value read below = go (address_in front) refl read
  where
    go : (o : Option ℕ) → address_in front ≡ o → Some value ≡ option_map capped o → address value ≡ front
    go None is same = absurd cc
    go (Some n) is same =
        let value_is : value ≡ capped n = cc in
        let e : n ≡ value = omega (arith, value_is, below) in
        address-address_in front value (is ∙ ap Some e)

number-in : (digits : List ℕ) (stores : ℕ) → Some stores ≡ option_map capped (number_in 10 digits) → (n : ℕ) × (numeral 10 n ≡ digits) × (stores ≡ capped n)
number-in digits stores read = go (number_in 10 digits) refl read
  where
    go : (o : Option ℕ) → number_in 10 digits ≡ o → Some stores ≡ option_map capped o → (n : ℕ) × (numeral 10 n ≡ digits) × (stores ≡ capped n)
    go None is same = absurd cc
    go (Some n) is same = (n, numeral-number_in 10 digits n is, cc)

whole : (word front digits : List ℕ) → IsCut word front digits → word ≡ front ++ 58 ∷ digits
whole word front digits cut =
    let place = position_or_len (λ b. b == 58) word in
    let colon : get_or word place 0 ≡ 58 = eqb-true (get_or word place 0) 58 (passes_at_first (λ b. b == 58) word 0 cut.within) in
    split_at_first (λ b. b == 58) word 0 cut.within
    ∙ ap (λ b. before_first (λ c. c == 58) word ++ b ∷ after_first (λ c. c == 58) word) colon
    ∙ ap (λ (xs : List ℕ). xs ++ 58 ∷ after_first (λ c. c == 58) word) (sym cut.front_is)
    ∙ ap (λ (xs : List ℕ). front ++ 58 ∷ xs) (sym cut.digits_are)

pub asks-this : {B : Type 0} (word front digits : List ℕ) (value a stores : ℕ) (o : B) → IsCut word front digits → Some value ≡ option_map capped (address_in front) →
    ◌≡◌ {A = Result ℕ B} (Ok a) (if nat_lt value (2 ^ 48) then Ok value else Err o) → Some stores ≡ option_map capped (number_in 10 digits) → Asks word a stores
asks-this word front digits value a stores o cut read is counted =
    let ok = accepted value a o is in
    let n = number-in digits stores counted in
    let spelled : address a ≡ front = ap address ok.0 ∙ address-in front value read ok.1 in
    record {
      number = n.0;
      spelled = whole word front digits cut ∙ ap (λ (xs : List ℕ). xs ++ 58 ∷ digits) (sym spelled) ∙ ap (λ (xs : List ℕ). address a ++ 58 ∷ xs) (sym n.1);
      is_address = omega (arith, ok.0, ok.1);
      stores = n.2;
    }
