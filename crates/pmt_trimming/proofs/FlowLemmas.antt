-- What a stream tells, by the calls that it made.
use Rattle.std.proofs.Common.{◌≡◌, ℕ, ◌+◌, ◌^◌, ◌<◌, ◌≤◌, inl, inr, ⊎_elim, List, [], ◌∷◌, ◌++◌, length, take, Option, Result, Ok, Err, refl, sym, ap, ◌∙◌, subst, arith, length-append}
use Rattle.std.proofs.lemmas.List.{take_all}
use Rattle.std.specs.Io.KnownBytes.{Keeps, Appends}
use Rattle.std.proofs.KnownBytes.{Appends-kept}
use Rattle.pmt_laws.specs.Prelude.{Recording, IsTrace, Has, cut, AllByRecursion}
use Rattle.pmt_model.proofs.SelectLemmas.{cut-is-trace}
use Rattle.pmt_text.specs.Spelling.{spelling}
use Rattle.pmt_text.proofs.BoundLemmas.{spelled_is_short}
use Rattle.pmt_text.specs.Texts.{longest_text}
use Rattle.pmt_trimming.specs.declared.stream.Stream.{Stream}
use Rattle.pmt_trimming.specs.declared.stream_error.StreamError.{StreamError}
use Rattle.pmt_trimming.specs.declared.stream_error.StreamError.TheVariants.{Source, OutOfMemory, Write}
use Rattle.pmt_trimming.specs.Streaming.{IsOut, IsTextOfTrimmed, IsSoFar, WritesPiece, WritesRest, Closes}
use Rattle.pmt_trimming.proofs.StreamLemmas.{kept-within}

-- ---- The text is short

all-within : (n : ℕ) (K : List ℕ) → ((i : ℕ) → Has K i → i ≤ n) → AllByRecursion (λ k. k ≤ n) K
all-within n [] within = tt
all-within n (k ∷ K) within = (within k (inl refl), all-within n K (λ i has. within i (inr has)))

pub out-short : (T : Recording) (text : List ℕ) → IsTrace T → IsOut T text → length text ≤ longest_text
out-short T text is out =
    let within : (i : ℕ) → Has out.numbers i → i ≤ length T.events = λ i has. (kept-within T i ((out.out.just i).0 has).0).1 in
    let short = spelled_is_short (cut T out.numbers) (cut-is-trace T out.numbers is out.out.rising (all-within (length T.events) out.numbers within)) in
    omega (arith, short, ap length out.spelled)

pub trimmed-short : (T : Recording) (text : List ℕ) → IsTrace T → IsTextOfTrimmed T text → length text ≤ longest_text
trimmed-short T text is of =
    let K = of.selection in
    let all = cut-is-trace T K is of.trim.selection.rising (all-within (length T.events) K of.trim.selection.within) in
    let short = spelled_is_short (cut T K) all in
    let same = ap length (of.spelled ∙ ap spelling of.trim.selected) in
    omega (arith, short, same)

-- ---- The rest

module _ (T : Recording) (s : Stream) (text : List ℕ) (written : ℕ) (so_far : IsSoFar T s text written) (piece rest : List ℕ) (right : IsTextOfTrimmed T (text ++ rest)) (same : piece ≡ rest) where
  pub rest-fits : written + length piece < 2 ^ 64
  rest-fits =
      let short = trimmed-short T (text ++ rest) so_far.trace right in
      let size = length-append text rest in
      let many = so_far.many in
      let long = ap length same in
      omega (arith, short, size, many, long)

  right' : IsTextOfTrimmed T (text ++ piece)
  right' = let P : List ℕ → Type 0 = λ bytes. IsTextOfTrimmed T (text ++ bytes) in subst P (sym same) right

  pub rest-part : (old new : Option (List ℕ)) (fault : StreamError) → WritesPiece old new piece written (Err fault) → WritesRest T text written old new (Err fault)
  rest-part old new (Write w) p = inr (piece, p.0, right', p.1, p.2, p.3)
  rest-part old new OutOfMemory p = absurd p
  rest-part old new (Source e) p = absurd p

  pub rest-whole : (old mid new : Option (List ℕ)) (after before then_count : ℕ) (result : Result (Unit {0}) StreamError) → Appends old mid piece × (after ≡ written + length piece) → Keeps mid new →
      Closes (Ok tt) after before result then_count → WritesRest T text written old new result
  rest-whole old mid new after before then_count result p keeps closes = ⊎_elim told failed closes
    where
      told : (result ≡ Ok tt) × (then_count ≡ before) → WritesRest T text written old new result
      told x = subst (WritesRest T text written old new) (sym x.0) (piece, right', Appends-kept old mid new piece p.0 keeps)

      failed : (result ≡ Err (Write after)) × (then_count ≡ before + 1) → WritesRest T text written old new result
      failed x =
          let all : take (length piece) piece ≡ piece = take_all (length piece) piece (omega arith) in
          let out : Appends old new (take (length piece) piece) = subst (Appends old new) (sym all) (Appends-kept old mid new piece p.0 keeps) in
          subst (WritesRest T text written old new) (sym x.0) (inr (piece, length piece, right', out, omega arith, p.1))
