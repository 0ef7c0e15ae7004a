-- The words of lines: one more line, a store to a word, and other events.
use Rattle.std.proofs.Common.{◌≡◌, ℕ, suc, ◌+◌, ◌*◌, ◌/◌, ◌-◌, ◌<◌, ◌≤◌, inl, inr, ◌==◌, Bool, true, false, List, [], ◌∷◌, ◌++◌, length, Option, Some, None, refl, sym, ap, subst, ◌∙◌, eqb-true, arith}
use Rattle.std.specs.Prelude.{◌&&◌, if◌then◌else◌, nat_eq, unwrap_or, slice_get}
use Rattle.std.proofs.lemmas.Bool.{eq-eqb, both_ways}
use Rattle.std.proofs.lemmas.Nat.{same_from_place, div-mul-add, mul-add-lt}
use Rattle.std.proofs.lemmas.List.{length-append}
use Rattle.std.proofs.lemmas.Option.{slice_get_within, same_Some}
use Rattle.pmt_laws.specs.Prelude.{Written, line_of, Act, Stores, writes, Recording, IsTrace, IsAct, history, last_store_number, IsDistinct}
use Rattle.pmt_laws.proofs.OverwrittenLemmas.{last_store_number-is}
use Rattle.pmt_safety.specs.Safety.{last_line_store_at}
use Rattle.pmt_safety.proofs.StoreLemmas.{last-greatest}
use Rattle.pmt_tables.specs.Slots.{IsSlotOf}
use Rattle.pmt_tables.proofs.ListLemmas.{one-slot, push-cases}
use Rattle.pmt_tables.specs.Lasts.{last_at, is_in, with_store, last_number, IsWordAt, WritesIn}
use Rattle.pmt_tables.proofs.LineLemmas.{byte-from_writes, writes-line}
use Rattle.pmt_tables.proofs.WrittenLemmas.{words_go_on}
use Rattle.pmt_sweep.specs.Known.{word_address, AreWordsOf}

-- so many words were added
pub record AreAdded (many : ℕ) (old new : List (List ℕ)) : Type 0 where
  pub in_all : length new ≡ length old + many
  pub none : (i k : ℕ) → length old ≤ i → i < length new → k < 8 → last_at new i k ≡ 0
  pub others : (i k : ℕ) → i < length old → k < 8 → last_at new i k ≡ last_at old i k

-- ---- One more line

-- the last store to a byte comes no later than the last one to its line
pub byte-le_last : (T : Recording) (n b : ℕ) → IsTrace T → last_number T n b ≤ last_line_store_at T (line_of T.format b) n
byte-le_last T n b trace = go (last_store_number b (history T n)) refl
  where
    go : (o : Option ℕ) → last_store_number b (history T n) ≡ o → unwrap_or o 0 ≤ last_line_store_at T (line_of T.format b) n
    go None e = omega arith
    go (Some j) e =
        let x = last_store_number-is T b n j e in
        let line : x.line ≡ line_of T.format b = sym (writes-line T j x.line x.what b trace x.is_store x.writes_it) in
        omega (arith, last-greatest T x.line n j x.what x.is_store x.by_now, ap (λ m. last_line_store_at T m n) line)

pub none-stored : (T : Recording) (n l many i k : ℕ) → IsTrace T → many * 8 ≡ T.format.line_size → i < many → k < 8 → last_line_store_at T l n ≡ 0 → last_number T n (word_address T.format.line_size l i + k) ≡ 0
none-stored T n l many i k trace size within few none =
    let sum : l * T.format.line_size + (i * 8 + k) ≡ word_address T.format.line_size l i + k = omega arith in
    let here : (word_address T.format.line_size l i + k) / T.format.line_size ≡ l = ap (λ b. b / T.format.line_size) (sym sum) ∙ div-mul-add l T.format.line_size (i * 8 + k) (omega (arith, within, few, size)) in
    omega (arith, byte-le_last T n (word_address T.format.line_size l i + k) trace, ap (λ m. last_line_store_at T m n) here, none)

pub words-new : (T : Recording) (n many l : ℕ) (lines : List ℕ) (old new : List (List ℕ)) → IsTrace T → many * 8 ≡ T.format.line_size → last_line_store_at T l n ≡ 0 → AreAdded many old new → AreWordsOf T n many lines old →
    AreWordsOf T n many (lines ++ l ∷ []) new
words-new T n many l lines old new trace size none added are = record {
  in_all = added.in_all ∙ ap (λ k. k + many) are.in_all ∙ one-more ∙ sym (ap (λ k. k * many) (length-append lines (l ∷ [])));
  each = each;
}
  where
    one-more : length lines * many + many ≡ (length lines + 1) * many
    one-more = omega arith

    each : (k p i : ℕ) → IsSlotOf k p (lines ++ l ∷ []) → i < many → IsWordAt T n (word_address T.format.line_size k i) (last_at new (p * many + i))
    each k p i at within b few = elim (push-cases lines l k p at) [
      | inl before ↦
          let inside = mul-add-lt p many i (length lines) (slice_get_within lines p k before) within in
          added.others (p * many + i) b (omega (arith, inside, are.in_all)) few ∙ are.each k p i before within b few
      | inr last ↦
          let start : p * many ≡ length old = ap (λ m. m * many) last.0 ∙ sym are.in_all in
          let zero_now : last_number T n (word_address T.format.line_size l i + b) ≡ 0 = none-stored T n l many i b trace size within few none in
          added.none (p * many + i) b (omega (arith, start)) (omega (arith, start, within, added.in_all)) few ∙ sym zero_now ∙ ap (λ m. last_number T n (word_address T.format.line_size m i + b)) last.1
    ]

-- ---- A store

-- a store to bytes of one word writes no byte of another
apart : (size l i k m low high b : ℕ) (w : Written) → ((l ≡ k) × (i ≡ m) → ⊥) → i * 8 + 8 ≤ size → m * 8 + 8 ≤ size → high ≤ 8 → WritesIn (word_address size l i) w low high → b < 8 → writes w (word_address size k m + b) ≡ false
apart size l i k m low high b w differ one two eight it few = go (writes w (word_address size k m + b)) refl
  where
    go : (t : Bool) → writes w (word_address size k m + b) ≡ t → t ≡ false
    go false e = refl
    go true e =
        let at = byte-from_writes w (word_address size k m + b) e in
        let byte = word_address size k m + b - word_address size l i in
        let same : l * size + (i * 8 + byte) ≡ k * size + (m * 8 + b) = omega (arith, at.0, it.from) in
        let parts = same_from_place l (i * 8 + byte) k (m * 8 + b) size (omega (arith, at.1, it.from, it.to, eight, one)) (omega (arith, few, two)) same in
        absurd (differ (parts.0, omega (arith, parts.1, at.0, at.1, it.from, it.to, eight, few)))

pub words-store : (T : Recording) (n many l slot i low high : ℕ) (w : Written) (lines : List ℕ) (old new : List (List ℕ)) → many * 8 ≡ T.format.line_size → IsAct T (suc n) (Stores l w) → IsDistinct nat_eq lines → IsSlotOf l slot lines → i < many → high ≤ 8 →
    WritesIn (word_address T.format.line_size l i) w low high → length new ≡ length old → ((j k : ℕ) → j < length old → k < 8 → last_at new j k ≡ with_store (slot * many + i) low high (suc n) (last_at old) j k) → AreWordsOf T n many lines old →
    AreWordsOf T (suc n) many lines new
words-store T n many l slot i low high w lines old new size is once at within eight it same_length stored are = record { in_all = same_length ∙ are.in_all; each = each }
  where
    inside : (k p m : ℕ) → IsSlotOf k p lines → m < many → p * many + m < length old
    inside k p m there small = let h = mul-add-lt p many m (length lines) (slice_get_within lines p k there) small in omega (arith, h, are.in_all)

    own : (b : ℕ) → b < 8 → last_at new (slot * many + i) b ≡ last_number T (suc n) (word_address T.format.line_size l i + b)
    own b few =
        let e : ((slot * many + i) == (slot * many + i)) ≡ true = eq-eqb (slot * many + i) (slot * many + i) refl in
        let told : last_at new (slot * many + i) b ≡ (if is_in low high b then suc n else last_at old (slot * many + i) b) =
        stored (slot * many + i) b (inside l slot i at within) few ∙ ap (λ t. if t && is_in low high b then suc n else last_at old (slot * many + i) b) e in
        told ∙ words_go_on.store T n l (word_address T.format.line_size l i) low high w (last_at old (slot * many + i)) is it (are.each l slot i at within) b few

    each : (k p m : ℕ) → IsSlotOf k p lines → m < many → IsWordAt T (suc n) (word_address T.format.line_size k m) (last_at new (p * many + m))
    each k p m there small b few = go ((p * many + m) == (slot * many + i)) refl
      where
        go : (t : Bool) → ((p * many + m) == (slot * many + i)) ≡ t → last_at new (p * many + m) b ≡ last_number T (suc n) (word_address T.format.line_size k m + b)
        go true e =
            let parts = same_from_place p m slot i many small within (eqb-true (p * many + m) (slot * many + i) e) in
            let line : k ≡ l = same_Some k l (sym there ∙ ap (slice_get lines) parts.0 ∙ at) in
            rw (parts.0, parts.1, line) (own b few)
        go false e =
            let told : last_at new (p * many + m) b ≡ last_at old (p * many + m) b =
            stored (p * many + m) b (inside k p m there small) few ∙ ap (λ t. if t && is_in low high b then suc n else last_at old (p * many + m) b) e in
            told ∙ words_go_on.other T n (word_address T.format.line_size k m) (Stores l w) (last_at old (p * many + m)) is free (are.each k p m there small) b few
          where
            differ : (l ≡ k) × (i ≡ m) → ⊥
            differ same =
                let p_place : slot ≡ p = one-slot lines k slot p once (ap (slice_get lines) refl ∙ at ∙ ap Some same.0) there in
                let one : (p * many + m) ≡ (slot * many + i) = ap (λ q. q * many + m) (sym p_place) ∙ ap (λ j. slot * many + j) (sym same.1) in
                both_ways ((p * many + m) == (slot * many + i)) e (eq-eqb (p * many + m) (slot * many + i) one)

            free : (line c : ℕ) (v : Written) → Stores l w ≡ Stores line v → c < 8 → writes v (word_address T.format.line_size k m + c) ≡ false
            free line c v same c_few =
                let what : w ≡ v = cc in
                subst (λ u. writes u (word_address T.format.line_size k m + c) ≡ false) what
                (apart T.format.line_size l i k m low high c w differ (omega (arith, within, size)) (omega (arith, small, size)) eight it c_few)

-- an event that is no store leaves all words
pub words-other : (T : Recording) (n many : ℕ) (lines : List ℕ) (words : List (List ℕ)) (a : Act) → IsAct T (suc n) a → ((l : ℕ) (w : Written) → a ≡ Stores l w → ⊥) → AreWordsOf T n many lines words → AreWordsOf T (suc n) many lines words
words-other T n many lines words a is never are = record {
  in_all = are.in_all;
  each = λ l p i at within. words_go_on.other T n (word_address T.format.line_size l i) a (last_at words (p * many + i)) is (λ k b w same few. absurd (never k w same)) (are.each l p i at within);
}
