-- The line of a crash is read back.
use Rattle.pmt_image.proofs.Prelude.{◌≡◌, ℕ, ◌*◌, ◌/◌, ◌^◌, ◌<◌, ◌≤◌, inl, inr, Bool, true, false, List, [], ◌∷◌, ◌++◌, codes, append-nil, append_assoc, mul-div_cancel, Some, refl, sym, ap, ◌∙◌, arith, flat_map, join_with_byte, AllByRecursion, join_with_byte-slice_split, address, ended, numeral, address_in, number_in, fields_of, capped, AreDigits, AreDigits-numeral, number_in-numeral, no_digit-space, address_in-address, parts, IsFree, parts-append, parts-join, LineStores, all_words, crash_words, line_words, Asks, line_word, all_arguments, line_arguments, crash_arguments, CrashesAreReadBack}
use Rattle.pmt_text.proofs.SpelledLemmas.{free_from}
use Rattle.pmt_image.proofs.WordLemmas.{address-free}

-- ---- Spaces

abbrev spaced : List ℕ → List ℕ
spaced word = 32 ∷ word

joined : (word : List ℕ) (words : List (List ℕ)) → join_with_byte 32 (word ∷ words) ≡ word ++ flat_map spaced words
joined word [] = sym (append-nil word)
joined word (next ∷ words) = ap (λ (xs : List ℕ). word ++ 32 ∷ xs) (joined next words)

spaced-both : (xs ys : List (List ℕ)) → flat_map spaced (xs ++ ys) ≡ flat_map spaced xs ++ flat_map spaced ys
spaced-both [] ys = refl
spaced-both (x ∷ xs) ys = ap (λ (zs : List ℕ). spaced x ++ zs) (spaced-both xs ys) ∙ sym (append_assoc (spaced x) (flat_map spaced xs) (flat_map spaced ys))

spaced-all : (all : Bool) → flat_map spaced (all_arguments all) ≡ all_words all
spaced-all true = refl
spaced-all false = refl

line-same : (size : ℕ) (x : LineStores) → codes " --line " ++ line_word (capped (x.line * size)) x.stores ≡ line_words size x
unfolding address
line-same size x = ap (λ (xs : List ℕ). codes " --line 0x" ++ xs) (sym (append_assoc (numeral 16 (capped (x.line * size))) (58 ∷ []) (numeral 10 x.stores)))

spaced-lines : (size : ℕ) (lines : List LineStores) → flat_map spaced (flat_map (line_arguments size) lines) ≡ flat_map (line_words size) lines
unfolding address
spaced-lines size [] = refl
spaced-lines size (x ∷ lines) =
    ap (λ (zs : List ℕ). (codes " --line " ++ line_word (capped (x.line * size)) x.stores) ++ zs) (spaced-lines size lines)
    ∙ ap (λ (ys : List ℕ). ys ++ flat_map (line_words size) lines) (line-same size x)

is-spelled : (size place : ℕ) (all : Bool) (lines : List LineStores) → crash_words size place all lines ≡ ended (join_with_byte 32 (crash_arguments size place all lines))
is-spelled size place all lines =
    let rest = flat_map (line_arguments size) lines in
    let words : flat_map spaced (all_arguments all ++ rest) ≡ all_words all ++ flat_map (line_words size) lines =
    spaced-both (all_arguments all) rest ∙ ap (λ (xs : List ℕ). xs ++ flat_map spaced rest) (spaced-all all) ∙ ap (λ (xs : List ℕ). all_words all ++ xs) (spaced-lines size lines) in
    let whole : join_with_byte 32 (crash_arguments size place all lines) ≡ codes "--at " ++ numeral 10 place ++ (all_words all ++ flat_map (line_words size) lines) =
    joined (codes "--at") (numeral 10 place ∷ (all_arguments all ++ rest)) ∙ ap (λ (xs : List ℕ). codes "--at " ++ numeral 10 place ++ xs) words in
    sym (ap ended whole ∙ ends)
  where
    ends : ended (codes "--at " ++ numeral 10 place ++ (all_words all ++ flat_map (line_words size) lines)) ≡ crash_words size place all lines
    ends = ap (λ (xs : List ℕ). codes "--at " ++ (xs ++ 10 ∷ [])) (sym (append_assoc (numeral 10 place) (all_words all) (flat_map (line_words size) lines)))

-- no word has a space
digits-free : (base : ℕ) (cs : List ℕ) → base ≤ 16 → AreDigits base cs → IsFree 32 cs
digits-free base [] few digits = tt
digits-free base (c ∷ cs) few digits = (no_digit-space c (omega (arith, digits.0, few)), digits-free base cs few digits.1)

both-free : (xs ys : List ℕ) → IsFree 32 xs → IsFree 32 ys → IsFree 32 (xs ++ ys)
both-free [] ys p q = q
both-free (x ∷ xs) ys p q = (p.0, both-free xs ys p.1 q)

number-free : (n : ℕ) → IsFree 32 (numeral 10 n)
number-free n = digits-free 10 (numeral 10 n) (omega arith) (AreDigits-numeral 10 n (inl refl))

word-free : (a n : ℕ) → IsFree 32 (line_word a n)
unfolding address
word-free a n = (refl, (refl, both-free (numeral 16 a) (58 ∷ numeral 10 n) (digits-free 16 (numeral 16 a) (omega arith) (AreDigits-numeral 16 a (inr refl))) (refl, number-free n)))

lines-free : (size : ℕ) (lines : List LineStores) → AllByRecursion (IsFree 32) (flat_map (line_arguments size) lines)
lines-free size [] = tt
lines-free size (x ∷ lines) = (free_from 32 (codes "--line") refl, (word-free (capped (x.line * size)) x.stores, lines-free size lines))

rest-free : (size : ℕ) (all : Bool) (lines : List LineStores) → AllByRecursion (IsFree 32) (all_arguments all ++ flat_map (line_arguments size) lines)
rest-free size true lines = (free_from 32 (codes "--all") refl, lines-free size lines)
rest-free size false lines = lines-free size lines

is-cut : (size place : ℕ) (all : Bool) (lines : List LineStores) → fields_of (join_with_byte 32 (crash_arguments size place all lines)) ≡ crash_arguments size place all lines
is-cut size place all lines =
    parts-join 32 (codes "--at") (numeral 10 place ∷ (all_arguments all ++ flat_map (line_arguments size) lines))
    (free_from 32 (codes "--at") refl, (number-free place, rest-free size all lines))

-- ---- The word of a line

is-asked : (size : ℕ) (x : LineStores) → x.line * size < 2 ^ 48 → x.stores < 2 ^ 64 → Asks (line_word (capped (x.line * size)) x.stores) (x.line * size) x.stores
is-asked size x low few = record {
  number = x.stores;
  spelled = let same : capped (x.line * size) ≡ x.line * size = omega (arith, low) in ap (λ a. line_word a x.stores) same;
  is_address = low;
  stores = omega (arith, few);
}

-- one word is of one address and number
one-word : (a b m n : ℕ) → line_word a m ≡ line_word b n → (a ≡ b) × (m ≡ n)
one-word a b m n same =
    let both : address a ∷ parts 58 (numeral 10 m) ≡ address b ∷ parts 58 (numeral 10 n) =
    sym (parts-append 58 (address a) (numeral 10 m) (address-free a)) ∙ ap (parts 58) same ∙ parts-append 58 (address b) (numeral 10 n) (address-free b) in
    let front : address a ≡ address b = cc in
    let rest : parts 58 (numeral 10 m) ≡ parts 58 (numeral 10 n) = cc in
    let back : numeral 10 m ≡ numeral 10 n = sym (join_with_byte-slice_split 58 (numeral 10 m)) ∙ ap (join_with_byte 58) rest ∙ join_with_byte-slice_split 58 (numeral 10 n) in
    let read : Some a ≡ Some b = sym (address_in-address a) ∙ ap address_in front ∙ address_in-address b in
    let counted : Some m ≡ Some n = sym (number_in-numeral 10 m (inl refl)) ∙ ap (number_in 10) back ∙ number_in-numeral 10 n (inl refl) in
    (cc, cc)

asks-only : (size a k : ℕ) (x : LineStores) → 0 < size → x.line * size < 2 ^ 48 → x.stores < 2 ^ 64 → Asks (line_word (capped (x.line * size)) x.stores) a k → (a / size ≡ x.line) × (k ≡ x.stores)
asks-only size a k x some low few asks =
    let same = one-word (capped (x.line * size)) a x.stores asks.number asks.spelled in
    let here : a ≡ x.line * size = omega (arith, same.0, low) in
    let stores : k ≡ x.stores = omega (arith, asks.stores, same.1, few) in
    (ap (λ b. b / size) here ∙ mul-div_cancel x.line some, stores)

pub read-back : CrashesAreReadBack
read-back = record { spelled = is-spelled; cut = is-cut; place = λ n. number_in-numeral 10 n (inl refl); asks = is-asked; only = asks-only }
