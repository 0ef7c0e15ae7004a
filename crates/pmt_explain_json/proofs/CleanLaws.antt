-- No LF is in the text of a value of JSON: strings escape it, and all else has digits, letters and signs.
use Rattle.std.proofs.Common.{◌≡◌, ℕ, zero, suc, ◌/◌, ◌%◌, ◌==◌, ◌||◌, nat_lt, Bool, true, false, if◌then◌else◌, cond, List, [], ◌∷◌, ◌++◌, refl, ap, ◌∙◌, arith}
use Rattle.std.specs.Prelude.{decimal, ℤ, pos, negsuc}
use Rattle.std.specs.Char.{digit_char}
use Rattle.std.specs.Fmt.{signed_decimal, digits, digits_onto, digit_glyph}
use Rattle.std.specs.List.{list_any}
use Rattle.std.proofs.lemmas.Bool.Decides.{nat_tests}
use Rattle.std.proofs.lemmas.List.Folds.{list_any-append}
use Rattle.json.specs.Print.{escape_letter, escape_byte, escape, quoted}
use Rattle.serde_json.specs.Data.{Num, unsigned, negative, float, Data, null, boolean, number, string, array, object, Items, no_items, item, Members, no_members, member}
use Rattle.serde_json.specs.Written.{number_text, comma_if, compact_text, items_text, members_text}
use Rattle.pmt_explain_json.specs.Lines.{TextHasNoLf}

abbrev has_lf : List ℕ → Bool
has_lf text = list_any (λ c. c == 10) text

append-clean : (xs ys : List ℕ) → has_lf xs ≡ false → has_lf ys ≡ false → has_lf (xs ++ ys) ≡ false
append-clean xs ys one two = list_any-append (λ (c : ℕ). c == 10) xs ys ∙ ap (λ (b : Bool). b || has_lf ys) one ∙ two

cons-clean : (c : ℕ) (xs : List ℕ) → (c == 10) ≡ false → has_lf xs ≡ false → has_lf (c ∷ xs) ≡ false
cons-clean c xs one two = ap (λ (b : Bool). b || has_lf xs) one ∙ two

-- ---- Numbers

glyph-clean : (d : ℕ) → (digit_glyph false d == 10) ≡ false
glyph-clean d = grind (arith, nat_tests)

onto-clean : (k n : ℕ) (acc : List ℕ) → has_lf acc ≡ false → has_lf (digits_onto k 10 false n acc) ≡ false
onto-clean zero n acc clean = clean
onto-clean (suc k) n acc clean =
    let more : has_lf (digit_glyph false (n % 10) ∷ acc) ≡ false = cons-clean (digit_glyph false (n % 10)) acc (glyph-clean (n % 10)) clean in
    go (n / 10 == 0) more (onto-clean k (n / 10) (digit_glyph false (n % 10) ∷ acc) more)
  where
    go : (b : Bool) → has_lf (digit_glyph false (n % 10) ∷ acc) ≡ false → has_lf (digits_onto k 10 false (n / 10) (digit_glyph false (n % 10) ∷ acc)) ≡ false →
        has_lf (if b then digit_glyph false (n % 10) ∷ acc else digits_onto k 10 false (n / 10) (digit_glyph false (n % 10) ∷ acc)) ≡ false
    go true here more = here
    go false here more = more

decimal-clean : (n : ℕ) → has_lf (decimal n) ≡ false
unfolding digits
decimal-clean n = onto-clean 64 n [] refl

signed-clean : (z : ℤ) → has_lf (signed_decimal z) ≡ false
signed-clean (pos n) = decimal-clean n
signed-clean (negsuc n) = decimal-clean (suc n)

number-clean : (n : Num) → has_lf (number_text n) ≡ false
number-clean (unsigned n) = decimal-clean n
number-clean (negative z) = signed-clean z
number-clean (float x) = refl

-- ---- Strings

letter-clean : (x : ℕ) → (escape_letter x == 10) ≡ false
letter-clean x = grind (arith, nat_tests)

char-clean : (d : ℕ) → (digit_char d == 10) ≡ false
char-clean d = grind (arith, nat_tests)

byte-clean : (x : ℕ) → has_lf (escape_byte x) ≡ false
unfolding escape_byte
byte-clean x = go (nat_lt 0 (escape_letter x)) (nat_lt x 32) refl
  where
    go : (short low : Bool) → nat_lt x 32 ≡ low →
        has_lf (cond short (92 ∷ escape_letter x ∷ []) (cond low (92 ∷ 117 ∷ 48 ∷ 48 ∷ digit_char (x / 16) ∷ digit_char (x % 16) ∷ []) (x ∷ []))) ≡ false
    go true low e = cons-clean (escape_letter x) [] (letter-clean x) refl
    go false true e = cons-clean (digit_char (x / 16)) (digit_char (x % 16) ∷ []) (char-clean (x / 16)) (cons-clean (digit_char (x % 16)) [] (char-clean (x % 16)) refl)
    go false false e = cons-clean x [] (grind (arith, nat_tests)) refl

escape-clean : (s : List ℕ) → has_lf (escape s) ≡ false
escape-clean [] = refl
escape-clean (x ∷ s) = append-clean (escape_byte x) (escape s) (byte-clean x) (escape-clean s)

quoted-clean : (s : List ℕ) → has_lf (quoted s) ≡ false
quoted-clean s = append-clean (escape s) (34 ∷ []) (escape-clean s) refl

-- ---- Values

comma-clean : (later : Bool) → has_lf (comma_if later) ≡ false
comma-clean true = refl
comma-clean false = refl

mutual
  value-clean : (d : Data) → has_lf (compact_text d) ≡ false
  value-clean null = refl
  value-clean (boolean true) = refl
  value-clean (boolean false) = refl
  value-clean (number n) = number-clean n
  value-clean (string s) = quoted-clean s
  value-clean (array ds) = items-clean false ds
  value-clean (object ms) = members-clean false ms

  items-clean : (later : Bool) (ds : Items) → has_lf (items_text later ds) ≡ false
  items-clean later no_items = refl
  items-clean later (item d ds) =
      append-clean (comma_if later) (compact_text d ++ items_text true ds) (comma-clean later)
      (append-clean (compact_text d) (items_text true ds) (value-clean d) (items-clean true ds))

  members-clean : (later : Bool) (ms : Members) → has_lf (members_text later ms) ≡ false
  members-clean later no_members = refl
  members-clean later (member k d ms) =
      append-clean (comma_if later) (quoted k ++ 58 ∷ (compact_text d ++ members_text true ms)) (comma-clean later)
      (append-clean (quoted k) (58 ∷ (compact_text d ++ members_text true ms)) (quoted-clean k)
      (append-clean (compact_text d) (members_text true ms) (value-clean d) (members-clean true ms)))

pub text_has_no_lf : TextHasNoLf
text_has_no_lf d = value-clean d
