-- What a reader of lines has ahead, from one read to the next.
use Rattle.std.proofs.Common.{◌≡◌, ℕ, ◌+◌, ◌<◌, nat_lt, Bool, true, false, List, ◌++◌, length, take, Option, Some, None, refl, sym, ap, ◌∙◌, subst, arith, append_assoc, Ok}
use Rattle.std.proofs.Math.Seq.{take-append-add}
use Rattle.std.proofs.lemmas.List.{length-append, take_all}
use Rattle.std.proofs.lemmas.Bool.{lt-ltb, le-ltb, ltb-true, ltb-false}
use Rattle.std.specs.Io.KnownBytes.{Consumes}
use Rattle.pmt_text.specs.declared.line_reader.LineReader.{LineReader}
use Rattle.pmt_text.specs.Lines.{Ahead, known_ahead, KeepsKnown, unread, held, known_of, ahead, Refills}

-- the same on both sides does not change a comparison
nat_lt-add : (a b n : ℕ) → nat_lt (a + n) (n + b) ≡ nat_lt a b
nat_lt-add a b n = by_test (nat_lt a b) refl where
  by_test : (t : Bool) → nat_lt a b ≡ t → nat_lt (a + n) (n + b) ≡ nat_lt a b
  by_test true e = let h = ltb-true a b e in lt-ltb (a + n) (n + b) (omega arith) ∙ sym e
  by_test false e = let h = ltb-false a b e in le-ltb (a + n) (n + b) (omega arith) ∙ sym e

abbrev ahead_of : List ℕ → ℕ → List ℕ → Ahead
ahead_of held room xs = record { bytes = held ++ take room xs; more = nat_lt room (length xs) }

same_ahead : (held piece ys : List ℕ) (left : ℕ) → ahead_of held (left + length piece) (piece ++ ys) ≡ ahead_of (held ++ piece) left ys
same_ahead held piece ys left =
    let bytes : held ++ take (left + length piece) (piece ++ ys) ≡ (held ++ piece) ++ take left ys =
    (let flip : left + length piece ≡ length piece + left = omega arith in rw (flip, take-append-add, append_assoc) refl) in
    let more : nat_lt (left + length piece) (length (piece ++ ys)) ≡ nat_lt left (length ys) = rw length-append (nat_lt-add left (length ys) (length piece)) in
    let by_bytes : List ℕ → Ahead = λ b. record { bytes = b; more = nat_lt (left + length piece) (length (piece ++ ys)) } in
    let by_more : Bool → Ahead = λ m. record { bytes = (held ++ piece) ++ take left ys; more = m } in
    ap by_bytes bytes ∙ ap by_more more

-- a piece that was read is still ahead
pub ahead-refilled : (old new : Option (List ℕ)) (held piece : List ℕ) (before left : ℕ) → Consumes old new piece → before ≡ left + length piece
    → KeepsKnown (known_ahead old held before) (known_ahead new (held ++ piece) left)
ahead-refilled None new held piece before left took e = tt
ahead-refilled (Some xs) None held piece before left took e = absurd took
ahead-refilled (Some xs) (Some ys) held piece before left took e =
    ap Some (sym (ap (λ n. ahead_of held n xs) e ∙ ap (ahead_of held (left + length piece)) took ∙ same_ahead held piece ys left))

module _ {R : Type 0} (remaining : R → Option (List ℕ)) where
  -- the piece went to the front, and another was read
  pub ahead-read_on : (old mid new : LineReader R) (len : ℕ) → mid.front.items ≡ old.front.items ++ take len (unread old.piece) → len ≡ length (unread old.piece)
      → mid.input ≡ old.input → mid.room ≡ old.room → new.front ≡ mid.front → Refills (known_of remaining mid) (known_of remaining new) (unread new.piece) mid.room new.room (Ok true)
      → KeepsKnown (ahead remaining old) (ahead remaining new) × (new.room < old.room)
  ahead-read_on old mid new len front whole input room same piece =
      let took : Consumes (known_of remaining old) (known_of remaining new) (unread new.piece) = rw input at piece.2 in
      let all : take len (unread old.piece) ≡ unread old.piece = take_all len (unread old.piece) (omega (arith, whole)) in
      let front' : new.front.items ≡ held old = ap (λ f. f.items) same ∙ front ∙ ap (λ l. old.front.items ++ l) all in
      let kept : KeepsKnown (ahead remaining old) (known_ahead (known_of remaining new) (held old ++ unread new.piece) new.room) =
      ahead-refilled (known_of remaining old) (known_of remaining new) (held old) (unread new.piece) old.room new.room took (omega (arith, piece.1, room)) in
      (subst (λ (l : List ℕ). KeepsKnown (ahead remaining old) (known_ahead (known_of remaining new) (l ++ unread new.piece) new.room)) (sym front') kept, omega (arith, piece.0, piece.1, room))
