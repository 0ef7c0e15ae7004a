-- Which images a crash leaves of two stores that overlap.
use Rattle.std.proofs.Common.{◌≡◌, ℕ, ◌<◌, ◌⊎◌, ◌↔◌, Bool, true, false, List, [], ◌∷◌, None, inl, inr, refl, sym, ◌∙◌, ap, lit≤, arith}
use Rattle.std.specs.Prelude.{nat_lt, if◌then◌else◌}
use Rattle.std.proofs.lemmas.Bool.{lt-ltb, ltb-true}
use Rattle.std.proofs.lemmas.Bool.Decides.{nat_tests}
use Rattle.pmt_laws.specs.Prelude.{Written, Act, Stores, Image, write, image_of, count, history, CrashAt, InBox}
use Rattle.pmt_laws.specs.Worked.{nothing, two_bytes, IsSame, second_byte_again, SecondByteAgain}
use Rattle.pmt_laws.proofs.Histories.{count-grows}
use Rattle.pmt_laws.proofs.BoxLemmas.{box-ends}
use Rattle.pmt_laws.proofs.ByteAssertions.{keeps}

-- The two stores.
abbrev first : Written
first = record { addr = 0x1000; bytes = 1 ∷ 2 ∷ [] }

abbrev second : Written
second = record { addr = 0x1001; bytes = 3 ∷ [] }

-- The first store, written where nothing was.
one_written : (a : ℕ) → write first nothing a ≡ two_bytes 0x1000 1 0x1001 2 a
one_written a = grind (arith, nat_tests)

-- The second one, written over it.
both_written : (a : ℕ) → write second (write first nothing) a ≡ two_bytes 0x1000 1 0x1001 3 a
both_written a = grind (arith, nat_tests)

-- The image where the tests tell which stores are persisted.
abbrev after_tests : Bool → Bool → Image
after_tests newer older a = if newer then write second (λ b. if older then write first nothing b else None) a else (if older then write first nothing a else None)

-- It is the one of the machine.
by_counts : (persisted : ℕ → ℕ) (a : ℕ) →
    image_of persisted (history second_byte_again 2) a ≡ after_tests (nat_lt 1 (persisted 64)) (nat_lt 0 (persisted 64)) a
by_counts persisted a = refl

-- One of three images.
abbrev OneOfThree : Image → Type 0
OneOfThree image = IsSame nothing image ⊎ (IsSame (two_bytes 0x1000 1 0x1001 2) image ⊎ IsSame (two_bytes 0x1000 1 0x1001 3) image)

leaves_three : (image : Image) → CrashAt second_byte_again 2 image ↔ OneOfThree image
leaves_three image = (there, back)
  where
    by_tests : (newer older : Bool) → (newer ≡ true → older ≡ true) → ((a : ℕ) → after_tests newer older a ≡ image a) → OneOfThree image
    by_tests true true both same = inr (inr (λ a. sym (both_written a) ∙ same a))
    by_tests true false both same = let e : false ≡ true = both refl in cc
    by_tests false true both same = inr (inl (λ a. sym (one_written a) ∙ same a))
    by_tests false false both same = inl same

    there : CrashAt second_byte_again 2 image → OneOfThree image
    there (s, ends, left) =
        by_tests (nat_lt 1 (s.persisted 64)) (nat_lt 0 (s.persisted 64))
        (λ e. let more : 1 < s.persisted 64 = ltb-true 1 (s.persisted 64) e in lt-ltb 0 (s.persisted 64) (omega arith))
        (λ a. sym (by_counts s.persisted a) ∙ sym (ap (λ (h : List Act). image_of s.persisted h a) ends.1) ∙ left a)

    from_counts :
        (v : ℕ → ℕ) → InBox (history second_byte_again 2) v → ((a : ℕ) → after_tests (nat_lt 1 (v 64)) (nat_lt 0 (v 64)) a ≡ image a) →
        CrashAt second_byte_again 2 image
    from_counts v within same =
        let e = box-ends (history second_byte_again 2) v within in (
          e.0,
          e.1,
          λ a. ap (λ (h : List Act). image_of e.0.persisted h a) e.1.1 ∙ by_counts e.0.persisted a
              ∙ ap (λ (n : ℕ). after_tests (nat_lt 1 n) (nat_lt 0 n) a) (e.2 64) ∙ same a,
        )

    back : OneOfThree image → CrashAt second_byte_again 2 image
    back (inl same) = from_counts (λ l. 0) (λ l. (lit≤ tt, omega arith)) same
    back (inr (inl same)) =
        from_counts (λ l. count l (history second_byte_again 1))
        (λ l. (omega arith, count-grows l (Stores 64 second) (history second_byte_again 1)))
        (λ a. one_written a ∙ same a)
    back (inr (inr same)) =
        from_counts (λ l. count l (history second_byte_again 2)) (λ l. (omega arith, omega arith)) (λ a. both_written a ∙ same a)

-- These are the images, and both stores are kept.
pub second_byte_again_says : SecondByteAgain
second_byte_again_says = record { leaves = leaves_three; kept = keeps second_byte_again (1 ∷ 2 ∷ []) refl }
