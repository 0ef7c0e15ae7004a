-- Bytes that are cut into stores piece by piece.
use Rattle.std.proofs.Common.{◌≡◌, ℕ, suc, ◌+◌, ◌-◌, ◌*◌, ◌%◌, ◌^◌, ◌<◌, ◌≤◌, ◌⊎◌, inl, inr, min, List, [], ◌∷◌, ◌++◌, length, map, take, drop, refl, subst, sym, ap, ap₂, ◌∙◌, arith, length-drop}
use Rattle.std.specs.List.{AllByRecursion, flat_map}
use Rattle.std.proofs.lemmas.List.{append-nil, length-map, length-take, take-append-drop}
use Rattle.pmt_model.specs.Values.{Written}
use Rattle.pmt_model.specs.declared.event.Op.{Op}
use Rattle.pmt_model.specs.declared.event.Op.TheVariants.{Store}
use Rattle.pmt_model.specs.Ops.{AreWordPieces, AreAdjoining, IsInWord, IsCutInWords, IsSplittable}

-- With the pieces so far the rest is left.
pub record IsCutSoFar (addr : ℕ) (bytes : List ℕ) (next : ℕ) (rest : List ℕ) (ops : List Op) : Type 0 where
  pub goes_on : (later : List Op) → AreWordPieces next rest later → AreWordPieces addr bytes (ops ++ later)
  pub within : next + length rest ≤ 2 ^ 48

none : (xs : List ℕ) → length xs ≡ 0 → xs ≡ []
none [] e = refl
none (x ∷ xs) e = absurd (omega arith)

-- Once nothing is left the pieces are all.
pub none_left : {addr next : ℕ} {bytes rest : List ℕ} {ops : List Op} → IsCutSoFar addr bytes next rest ops → length rest ≡ 0 → AreWordPieces addr bytes ops
none_left {addr} {next} {bytes} {rest} {ops} so_far e = subst (λ (l : List Op). AreWordPieces addr bytes l) (append-nil ops) (so_far.goes_on [] (none rest e))

-- ---- What the pieces are together

-- The pieces of nothing are none.
no_pieces : (addr : ℕ) (bytes : List ℕ) (ops : List Op) → AreWordPieces addr bytes ops → length bytes ≡ 0 → ops ≡ []
no_pieces addr bytes [] pieces e = refl
no_pieces addr bytes (op ∷ ops) pieces e = absurd (omega (arith, pieces.0))

-- A number reaches another one or is below it.
reaches : (m n : ℕ) → (m ≤ n) ⊎ (n < m)
reaches m n = grind arith

-- One piece more, from the beginning of a word.
one_from_word :
    (addr : ℕ) (bytes : List ℕ) (op : Op) (ops : List Op) → addr % 8 ≡ 0 → AreWordPieces addr bytes (op ∷ ops) →
    ((addr + min (8 - addr % 8) (length bytes)) % 8 ≡ 0 → 8 * length ops ≤ length (drop (8 - addr % 8) bytes) + 7) → 8 * suc (length ops) ≤ length bytes + 7
one_from_word addr bytes op ops aligned pieces later = go (reaches 8 (length bytes))
  where
    rest : length (drop (8 - addr % 8) bytes) ≡ length bytes - (8 - addr % 8)
    rest = length-drop (8 - addr % 8) bytes

    go : (8 ≤ length bytes) ⊎ (length bytes < 8) → 8 * suc (length ops) ≤ length bytes + 7
    go (inl long) = let many = later (omega (arith, aligned, long)) in omega (arith, many, rest, aligned, long)
    go (inr short) =
        let none : ops ≡ [] = no_pieces (addr + min (8 - addr % 8) (length bytes)) (drop (8 - addr % 8) bytes) ops pieces.2 (omega (arith, rest, aligned, short)) in
        let zero_more : length ops ≡ 0 = ap (λ (os : List Op). length os) none in
        omega (arith, zero_more, pieces.0)

-- From the beginning of a word on each piece but the last has 8 bytes.
few_from_word : (addr : ℕ) (bytes : List ℕ) (ops : List Op) → addr % 8 ≡ 0 → AreWordPieces addr bytes ops → 8 * length ops ≤ length bytes + 7
few_from_word addr bytes [] aligned pieces = omega arith
few_from_word addr bytes (op ∷ ops) aligned pieces =
    one_from_word addr bytes op ops aligned pieces (λ next. few_from_word (addr + min (8 - addr % 8) (length bytes)) (drop (8 - addr % 8) bytes) ops next pieces.2)

-- So there are at most 513 pieces.
few_pieces : (addr : ℕ) (bytes : List ℕ) (ops : List Op) → length bytes ≤ 4096 → AreWordPieces addr bytes ops → length ops ≤ 513
few_pieces addr bytes [] few pieces = omega arith
few_pieces addr bytes (op ∷ ops) few pieces = go (reaches (8 - addr % 8) (length bytes))
  where
    rest : length (drop (8 - addr % 8) bytes) ≡ length bytes - (8 - addr % 8)
    rest = length-drop (8 - addr % 8) bytes

    go : (8 - addr % 8 ≤ length bytes) ⊎ (length bytes < 8 - addr % 8) → suc (length ops) ≤ 513
    go (inl long) =
        let next : (addr + min (8 - addr % 8) (length bytes)) % 8 ≡ 0 = omega (arith, long) in
        let later = few_from_word (addr + min (8 - addr % 8) (length bytes)) (drop (8 - addr % 8) bytes) ops next pieces.2 in
        omega (arith, later, rest, few)
    go (inr short) =
        let none : ops ≡ [] = no_pieces (addr + min (8 - addr % 8) (length bytes)) (drop (8 - addr % 8) bytes) ops pieces.2 (omega (arith, rest, short)) in
        let zero_more : length ops ≡ 0 = ap (λ (os : List Op). length os) none in
        omega (arith, zero_more)

-- The pieces laid side by side.
pub record IsLaidOut (addr : ℕ) (bytes : List ℕ) (ops : List Op) : Type 0 where
  pub pieces : List Written
  pub stores : ops ≡ map (λ w. Store w) pieces
  pub whole : flat_map (λ w. w.bytes) pieces ≡ bytes
  pub adjoining : AreAdjoining addr pieces
  pub in_words : AllByRecursion IsInWord pieces

laid_out : (addr : ℕ) (bytes : List ℕ) (ops : List Op) → AreWordPieces addr bytes ops → IsLaidOut addr bytes ops
laid_out addr bytes [] pieces = record { pieces = []; stores = refl; whole = sym pieces; adjoining = tt; in_words = tt }
laid_out addr bytes (op ∷ ops) (some, is, more) =
    let room : ℕ = 8 - addr % 8 in
    let first : Written = record { addr = addr; bytes = take room bytes } in
    let len : length (take room bytes) ≡ min room (length bytes) = length-take room bytes in
    let later = laid_out (addr + min room (length bytes)) (drop room bytes) ops more in record {
      pieces = first ∷ later.pieces;
      stores = ap₂ (λ (o : Op) (os : List Op). o ∷ os) is later.stores;
      whole = ap (λ (bs : List ℕ). take room bytes ++ bs) later.whole ∙ take-append-drop room bytes;
      adjoining = (refl, let P : ℕ → Type 0 = λ n. AreAdjoining (addr + n) later.pieces in subst P (sym len) later.adjoining);
      in_words = (record { some = omega (arith, len, some); inside = omega (arith, len) }, later.in_words);
    }

-- Word by word they are a cut of the bytes.
pub cut_in_words : (addr : ℕ) (bytes : List ℕ) (ops : List Op) → IsSplittable addr bytes → AreWordPieces addr bytes ops → IsCutInWords addr bytes ops
cut_in_words addr bytes ops splittable pieces =
    let laid = laid_out addr bytes ops pieces in
    let as_many : length ops ≡ length laid.pieces = ap (λ (os : List Op). length os) laid.stores ∙ length-map laid.pieces (λ w. Store w) in record {
      pieces = laid.pieces;
      stores = laid.stores;
      whole = laid.whole;
      adjoining = laid.adjoining;
      in_words = laid.in_words;
      some = go ops pieces as_many;
      few = omega (arith, few_pieces addr bytes ops splittable.few pieces, as_many);
    }
  where
    go : (os : List Op) → AreWordPieces addr bytes os → length os ≡ length (laid_out addr bytes ops pieces).pieces → 1 ≤ length (laid_out addr bytes ops pieces).pieces
    go [] none same = absurd (let empty : length bytes ≡ 0 = ap (λ (bs : List ℕ). length bs) none in omega (arith, empty, splittable.some))
    go (o ∷ os) some same = omega (arith, same)
