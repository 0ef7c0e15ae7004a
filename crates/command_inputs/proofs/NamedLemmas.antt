-- A lent writer is the one that was lent, where its contents are known: its name stands before them.
use Rattle.std.proofs.Common.{◌≡◌, ℕ, List, ◌∷◌, ◌++◌, length, take, Option, Some, None, sym, ap, ◌∙◌, subst, arith}
use Rattle.std.proofs.Math.Seq.{take-length}
use Rattle.std.specs.Io.KnownBytes.{Appends, Keeps}
use Rattle.command_inputs.specs.Devices.{named_contents}

same-name : (a b : ℕ) (xs ys : List ℕ) → a ∷ xs ≡ b ∷ ys → b ≡ a
same-name a b xs ys e = grind (arith, e)

same-bytes : (a b : ℕ) (xs ys : List ℕ) → a ∷ xs ≡ b ∷ ys → xs ≡ ys
same-bytes a b xs ys e = grind (arith, e)

pub appends-back : (lent now : ℕ) (old new final : Option (List ℕ)) (bytes : List ℕ) → (lent ≡ now → final ≡ new) → Appends (named_contents lent old) (named_contents now new) bytes → Appends old final bytes
appends-back lent now None new final bytes ends w = tt
appends-back lent now (Some xs) None final bytes ends w = absurd w
appends-back lent now (Some xs) (Some ys) final bytes ends w =
    let same : final ≡ Some ys = ends (same-name now lent ys (xs ++ bytes) w) in
    let more : ys ≡ xs ++ bytes = same-bytes now lent ys (xs ++ bytes) w in
    subst (λ f. Appends (Some xs) f bytes) (sym same) more

pub keeps-back : (lent now : ℕ) (old new final : Option (List ℕ)) → (lent ≡ now → final ≡ new) → Keeps (named_contents lent old) (named_contents now new) → Keeps old final
keeps-back lent now None new final ends w = tt
keeps-back lent now (Some xs) None final ends w = absurd w
keeps-back lent now (Some xs) (Some ys) final ends w =
    let same : final ≡ Some ys = ends (same-name now lent ys xs w) in
    let kept : ys ≡ xs = same-bytes now lent ys xs w in
    subst (λ f. Keeps (Some xs) f) (sym same) kept

-- A text that is out whole is out by its first bytes, so many as it has.
pub kept-first : (old mid new : Option (List ℕ)) (text : List ℕ) → Appends old mid text → Keeps mid new → (written : ℕ) × Appends old new (take written text)
kept-first None mid new text w k = (0, tt)
kept-first (Some xs) None new text w k = absurd w
kept-first (Some xs) (Some ys) None text w k = absurd k
kept-first (Some xs) (Some ys) (Some zs) text w k =
    (length text, k ∙ w ∙ sym (ap (λ t. xs ++ t) (take-length text)))
