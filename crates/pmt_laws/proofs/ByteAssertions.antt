-- Assertions on single bytes, and the kept numbers that are computed.
use Rattle.std.proofs.Common.{◌≡◌, ℕ, ◌+◌, ◌<◌, ◌≤◌, List, IfSome, subst, arith}
use Rattle.std.proofs.lemmas.Option.{IfSome_then}
use Rattle.pmt_laws.specs.Prelude.{Act, Recording, front, IsKeep, Placed, last_store, InSpan, PersistPasses, OrderedPasses, up_to_last, NoLater}
use Rattle.pmt_laws.specs.Worked.{byte_at, KeepsJust}
use Rattle.pmt_laws.proofs.KeepLemmas.{keep_is_unique}
use Rattle.pmt_laws.proofs.AssertLemmas.{persist_by_fronts, ordered_by_fronts}
use Rattle.pmt_laws.proofs.KeptTest.{kept_numbers, keep-kept_numbers}

-- What is kept are the numbers that are computed.
pub keeps : (T : Recording) (numbers : List ℕ) → kept_numbers T ≡ numbers → KeepsJust T numbers
keeps T numbers e =
    let keep : IsKeep T numbers = subst (IsKeep T) e (keep-kept_numbers T) in record { keep = keep; only = λ K other. keep_is_unique T K numbers other keep }

-- A byte's range has its address alone.
in_byte : (a b : ℕ) → InSpan (byte_at a) b → a ≡ b
in_byte a b within = let low : a ≤ b = within.0 in let high : b < a + 1 = within.1 in omega arith

-- The byte lies in its range.
byte_in : (a : ℕ) → InSpan (byte_at a) a
byte_in a = (omega arith, omega arith)

-- The front covers the last store to the byte.
abbrev pub FrontCovers : List Act → ℕ → Type 0
FrontCovers h a = IfSome (last_store a h) (λ x. x.rank ≤ front x.line h)

-- Then isPersist passes on the byte.
pub covered-passes : (h : List Act) (a : ℕ) → FrontCovers h a → PersistPasses h (byte_at a)
covered-passes h a covered = (persist_by_fronts h (byte_at a)).1 (λ b within. subst (FrontCovers h) (in_byte a b within) covered)

-- And only then.
pub passes-covered : (h : List Act) (a : ℕ) → PersistPasses h (byte_at a) → FrontCovers h a
passes-covered h a passes = (persist_by_fronts h (byte_at a)).0 passes a (byte_in a)

-- The last store to byte a persists no later than the last one to byte b, by the fronts.
abbrev pub IsNoLater : List Act → ℕ → ℕ → Type 0
IsNoLater h a b = IfSome (last_store b h) (λ y. IfSome (last_store a h) (λ x. NoLater (up_to_last b h) x y))

-- Then isOrderedBefore passes on the bytes.
pub no_later-passes : (h : List Act) (a b : ℕ) → IsNoLater h a b → OrderedPasses h (byte_at a) (byte_at b)
no_later-passes h a b first =
    (ordered_by_fronts h (byte_at a) (byte_at b)).1
    (λ c within. IfSome_then (last_store c h) (at_second c within) (λ y earlier d inside. at_first c y d inside earlier))
  where
    at_second : (c : ℕ) → InSpan (byte_at b) c → IsNoLater h a c
    at_second c within = subst (IsNoLater h a) (in_byte b c within) first

    at_first : (c : ℕ) (y : Placed) (d : ℕ) → InSpan (byte_at a) d → IfSome (last_store a h) (λ x. NoLater (up_to_last c h) x y) →
        IfSome (last_store d h) (λ x. NoLater (up_to_last c h) x y)
    at_first c y d inside earlier =
        let P : ℕ → Type 0 = λ e. IfSome (last_store e h) (λ x. NoLater (up_to_last c h) x y) in subst P (in_byte a d inside) earlier

-- And only then.
pub passes-no_later : (h : List Act) (a b : ℕ) → OrderedPasses h (byte_at a) (byte_at b) → IsNoLater h a b
passes-no_later h a b passes =
    IfSome_then (last_store b h) ((ordered_by_fronts h (byte_at a) (byte_at b)).0 passes b (byte_in b)) (λ y earlier. earlier a (byte_in a))
