-- What is read of a line: the newest and the oldest of the last stores to some of its bytes.
use Rattle.std.proofs.Common.{◌≡◌, ℕ, ◌+◌, ◌-◌, ◌*◌, ◌%◌, ◌<◌, ◌≤◌, ◌⊎◌, inl, inr, max, true, length, Option, Some, None, refl, sym, ap, subst, ◌∙◌, arith}
use Rattle.std.specs.Prelude.{nat_le, nat_lt, unwrap_or}
use Rattle.std.proofs.lemmas.Bool.{cases_lt, le-leb, lt-ltb, and_from}
use Rattle.std.proofs.lemmas.Nat.{div-add-mod', div-mul-add, mod_below}
use Rattle.pmt_laws.specs.Prelude.{Written, Layout, line_of, Stores, writes, Recording, IsTrace, IsAct, history, last_store_number}
use Rattle.pmt_laws.proofs.OverwrittenLemmas.{LastWriter, last_store_number-tells}
use Rattle.pmt_safety.specs.Safety.{last_line_store_at}
use Rattle.pmt_safety.proofs.StoreLemmas.{IsLineStore, last-is_store}
use Rattle.pmt_tables.specs.Lasts.{last_at, IsLastTo, IsNewest, IsLeastAbove, last_number}
use Rattle.pmt_tables.proofs.LineLemmas.{IsSize, Bytes32, Bytes64, Bytes128, Bytes256, size-of_format, store-of_trace}
use Rattle.pmt_sweep.specs.declared.line_words.WordBytes.{WordBytes}
use Rattle.pmt_sweep.specs.declared.known.Known.{Known}
use Rattle.pmt_sweep.specs.Known.{word_address, IsLineAt, last_in_line}
use Rattle.pmt_sweep.specs.Judged.{IsPartOfWord}
use Rattle.pmt_sweep.proofs.WordsLemmas.{byte-le_last}

-- ---- All bytes of a line

-- a line has some bytes
pub some-bytes : (T : Recording) → IsTrace T → 0 < T.format.line_size
some-bytes T trace = go (size-of_format T.format trace.format)
  where
    go : IsSize T.format.line_size → 0 < T.format.line_size
    go (Bytes32 e) = omega (arith, e)
    go (Bytes64 e) = omega (arith, e)
    go (Bytes128 e) = omega (arith, e)
    go (Bytes256 e) = omega (arith, e)

-- a store writes its first byte
writes-first : (w : Written) → 1 ≤ length w.bytes → writes w w.addr ≡ true
writes-first w some = and_from (nat_le w.addr w.addr) (nat_lt (w.addr - w.addr) (length w.bytes)) (le-leb w.addr w.addr (omega arith)) (lt-ltb (w.addr - w.addr) (length w.bytes) (omega (arith, some)))

-- no last store to a byte of a line comes after the last one to the line
pub in_line-le_last : (T : Recording) (n l k : ℕ) → IsTrace T → k < T.format.line_size → last_in_line T n l k ≤ last_line_store_at T l n
in_line-le_last T n l k trace within =
    let here : line_of T.format (l * T.format.line_size + k) ≡ l = div-mul-add l T.format.line_size k within in
    omega (arith, byte-le_last T n (l * T.format.line_size + k) trace, ap (λ m. last_line_store_at T m n) here)

-- the first byte that the last store to a line writes has it as its last store
first-byte : (T : Recording) (n l j : ℕ) (w : Written) → IsTrace T → IsAct T j (Stores l w) → j ≤ n → line_of T.format w.addr ≡ l → 1 ≤ length w.bytes → last_line_store_at T l n ≡ j → last_number T n w.addr ≡ j
first-byte T n l j w trace is by_now here some last = go (last_store_number w.addr (history T n)) refl (last_store_number-tells T w.addr n)
  where
    go : (o : Option ℕ) → last_store_number w.addr (history T n) ≡ o → LastWriter T w.addr n (last_store_number w.addr (history T n)) → unwrap_or (last_store_number w.addr (history T n)) 0 ≡ j
    go None e tells = let none = subst (LastWriter T w.addr n) e tells in absurd (none j l w by_now is (writes-first w some))
    go (Some i) e tells =
        let it = subst (LastWriter T w.addr n) e tells in
        let told : last_number T n w.addr ≡ i = ap (λ o. unwrap_or o 0) e in
        let most = byte-le_last T n w.addr trace in
        let same = ap (λ m. last_line_store_at T m n) here in
        elim (cases_lt i j) [
          | inl less ↦ absurd (it.last j l w less by_now is (writes-first w some))
          | inr from ↦ omega (arith, told, most, same, last, from)
        ]

-- the newest of the last stores to all bytes of a line is the last one to it
pub newest-whole : (T : Recording) (n l : ℕ) → IsTrace T → IsNewest 0 T.format.line_size (last_in_line T n l) (last_line_store_at T l n)
newest-whole T n l trace = record { reached = go (last-is_store T l n); greatest = λ k from to. in_line-le_last T n l k trace to }
  where
    go : IsLineStore T l n (last_line_store_at T l n) → (last_line_store_at T l n ≡ 0) ⊎ IsLastTo 0 T.format.line_size (last_in_line T n l) (last_line_store_at T l n)
    go (inl none) = inl none
    go (inr x) =
        let it = store-of_trace T (last_line_store_at T l n) l x.0 trace x.1 in
        let size = T.format.line_size in
        let byte : l * size + x.0.addr % size ≡ x.0.addr = ap (λ m. m * size + x.0.addr % size) (sym it.line) ∙ div-add-mod' x.0.addr size in
        let last = first-byte T n l (last_line_store_at T l n) x.0 trace x.1 x.2 it.line it.store.some refl in
        inr (x.0.addr % size, omega arith, mod_below x.0.addr size (some-bytes T trace), ap (last_number T n) byte ∙ last)

-- ---- Word by word

-- The number is the greatest of the last stores to those of these bytes that come before one, or 0 where there is none.
pub record IsNewestBelow (low high end : ℕ) (last : ℕ → ℕ) (number : ℕ) : Type 0 where
  pub reached : (number ≡ 0) ⊎ IsLastTo low high last number
  pub greatest : (k : ℕ) → low ≤ k → k < high → k < end → last k ≤ number

pub newest-all : (low high end number : ℕ) (last : ℕ → ℕ) → high ≤ end → IsNewestBelow low high end last number → IsNewest low high last number
newest-all low high end number last all is = record { reached = is.reached; greatest = λ k from to. is.greatest k from to (omega (arith, to, all)) }

module _ (word low high : ℕ) (part : WordBytes) (last here : ℕ → ℕ) (is_part : IsPartOfWord word low high part) (same : (k : ℕ) → k < 8 → here k ≡ last (word * 8 + k)) where
  -- what is the last store to a byte of the word is it to one of the line
  in_line : (j : ℕ) → IsLastTo part.low part.high here j → IsLastTo low high last j
  in_line j x = let within : x.0 < 8 = omega (arith, x.2, is_part.eight) in let at = (is_part.just x.0 within).0 (x.1, x.2) in (word * 8 + x.0, at.0, at.1, sym (same x.0 within) ∙ x.3)

  -- a byte of the line that comes before the end of the word is one of the word, or comes before the word
  of_word : (k : ℕ) → low ≤ k → k < high → k < (word + 1) * 8 → (k < word * 8) ⊎ ((i : ℕ) × (part.low ≤ i) × (i < part.high) × (here i ≡ last k))
  of_word k from to below = elim (cases_lt k (word * 8)) [
    | inl before ↦ inl before
    | inr after ↦
        let within : k - word * 8 < 8 = omega (arith, after, below) in
        let at : word * 8 + (k - word * 8) ≡ k = omega (arith, after) in
        let inside = (is_part.just (k - word * 8) within).1 (omega (arith, at, from), omega (arith, at, to)) in
        inr (k - word * 8, inside.0, inside.1, same (k - word * 8) within ∙ ap last at)
  ]

  pub newest-next : (number found : ℕ) → IsNewest part.low part.high here found → IsNewestBelow low high (word * 8) last number → IsNewestBelow low high ((word + 1) * 8) last (max number found)
  newest-next number found more is = record { reached = reached (cases_lt number found); greatest = greatest }
    where
      reached : (number < found) ⊎ (found ≤ number) → (max number found ≡ 0) ⊎ IsLastTo low high last (max number found)
      reached (inl less) = let e : max number found ≡ found = omega (arith, less) in elim more.reached [ inl none ↦ inl (e ∙ none) | inr x ↦ inr (subst (IsLastTo low high last) (sym e) (in_line found x)) ]
      reached (inr most) = let e : max number found ≡ number = omega (arith, most) in elim is.reached [ inl none ↦ inl (e ∙ none) | inr x ↦ inr (subst (IsLastTo low high last) (sym e) x) ]

      greatest : (k : ℕ) → low ≤ k → k < high → k < (word + 1) * 8 → last k ≤ max number found
      greatest k from to below = elim (of_word k from to below) [
        | inl before ↦ let le = is.greatest k from to before in omega (arith, le)
        | inr x ↦ let le = more.greatest x.0 x.1 x.2 in omega (arith, le, x.3)
      ]

-- The number is the least of the last stores to those of these bytes that come before one, or 0 where there is none.
pub record IsOldestBelow (low high end : ℕ) (last : ℕ → ℕ) (number : ℕ) : Type 0 where
  pub reached : (number ≡ 0) ⊎ ((0 < number) × IsLastTo low high last number)
  pub least : (k : ℕ) → low ≤ k → k < high → k < end → 0 < last k → (0 < number) × (number ≤ last k)

pub oldest-all : (low high end number : ℕ) (last : ℕ → ℕ) → high ≤ end → IsOldestBelow low high end last number → IsLeastAbove 0 low high last number
oldest-all low high end number last all is = record { reached = is.reached; least = λ k from to some. is.least k from to (omega (arith, to, all)) some }

module _ (word low high : ℕ) (part : WordBytes) (last here : ℕ → ℕ) (is_part : IsPartOfWord word low high part) (same : (k : ℕ) → k < 8 → here k ≡ last (word * 8 + k)) where
  pub oldest-next : (number found now : ℕ) → (now ≡ number) ⊎ (now ≡ found) → (0 < number → (0 < now) × (now ≤ number)) → (0 < found → (0 < now) × (now ≤ found)) →
      IsLeastAbove 0 part.low part.high here found → IsOldestBelow low high (word * 8) last number → IsOldestBelow low high ((word + 1) * 8) last now
  oldest-next number found now one first second more is = record { reached = reached one; least = least }
    where
      reached : (now ≡ number) ⊎ (now ≡ found) → (now ≡ 0) ⊎ ((0 < now) × IsLastTo low high last now)
      reached (inl e) = elim is.reached [ inl none ↦ inl (e ∙ none) | inr x ↦ inr (omega (arith, e, x.0), subst (IsLastTo low high last) (sym e) x.1) ]
      reached (inr e) =
          elim more.reached [
            | inl none ↦ inl (e ∙ none)
            | inr x ↦ inr (omega (arith, e, x.0), subst (IsLastTo low high last) (sym e) (in_line word low high part last here is_part same found x.1))
          ]

      least : (k : ℕ) → low ≤ k → k < high → k < (word + 1) * 8 → 0 < last k → (0 < now) × (now ≤ last k)
      least k from to below some = elim (of_word word low high part last here is_part same k from to below) [
        | inl before ↦ let old = is.least k from to before some in let up = first old.0 in (up.0, omega (arith, up.1, old.1))
        | inr x ↦ let old = more.least x.0 x.1 x.2 (omega (arith, some, x.3)) in let up = second old.0 in (up.0, omega (arith, up.1, old.1, x.3))
      ]

-- a word of which all bytes are asked
pub all-of_word : (i high : ℕ) → (i + 1) * 8 ≤ high → IsPartOfWord i 0 high (record { word = i; low = 0; high = 8 })
all-of_word i high within = record {
  word = refl;
  some = omega arith;
  eight = omega arith;
  just = λ k few. (λ inside. (omega arith, omega (arith, few, within)), λ at. (omega arith, few));
}

-- ---- The words of a line at its slot

module _ (T : Recording) (n l slot : ℕ) (k : Known) (it : IsLineAt T n l slot k) where
  pub line-size : k.words_of_line * 8 ≡ k.format.line_size
  line-size = it.known.many ∙ ap (λ (f : Layout). f.line_size) (sym it.known.format)

  -- a word of the line has the last stores to its bytes
  pub word-same : (word : ℕ) → word * 8 < k.format.line_size → (i : ℕ) → i < 8 → last_at k.words (slot * k.words_of_line + word) i ≡ last_in_line T n l (word * 8 + i)
  word-same word less i few =
      let sum : word_address T.format.line_size l word + i ≡ l * T.format.line_size + (word * 8 + i) = omega arith in
      it.known.words.each l slot word it.at (omega (arith, less, line-size)) i few ∙ ap (last_number T n) sum

  pub newest-of_whole : (low high number : ℕ) → low < high → high ≤ k.format.line_size → high - low ≡ k.format.line_size → number ≡ last_line_store_at T l n → IsNewest low high (last_in_line T n l) number
  newest-of_whole low high number some within all last =
      let size : k.format.line_size ≡ T.format.line_size = ap (λ (f : Layout). f.line_size) it.known.format in
      let start : 0 ≡ low = omega (arith, some, within, all) in
      let end : T.format.line_size ≡ high = omega (arith, some, within, all, size) in
      subst (IsNewest low high (last_in_line T n l)) (sym last) (subst (λ m. IsNewest m high (last_in_line T n l) (last_line_store_at T l n)) start (subst (λ m. IsNewest 0 m (last_in_line T n l) (last_line_store_at T l n)) end (newest-whole T n l it.known.trace)))

-- bytes that are all of a line
pub oldest-of_whole : (T : Recording) (n l low high number : ℕ) → low < high → high ≤ T.format.line_size → high - low ≡ T.format.line_size → IsLeastAbove 0 0 T.format.line_size (last_in_line T n l) number → IsLeastAbove 0 low high (last_in_line T n l) number
oldest-of_whole T n l low high number some within all is =
    let start : 0 ≡ low = omega (arith, some, within, all) in
    let end : T.format.line_size ≡ high = omega (arith, some, within, all) in
    subst (λ m. IsLeastAbove 0 m high (last_in_line T n l) number) start (subst (λ m. IsLeastAbove 0 0 m (last_in_line T n l) number) end is)
