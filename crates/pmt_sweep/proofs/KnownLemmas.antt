-- What is known of all lines: one more line, a store, and a flush.
use Rattle.std.proofs.Common.{◌≡◌, ◌≢◌, ℕ, suc, ◌⊎◌, inl, inr, ◌==◌, eqb-true, ◌+◌, ◌*◌, ◌<◌, ◌≤◌, Bool, true, false, List, [], ◌∷◌, ◌++◌, length, map, refl, sym, ap, subst, ◌∙◌, arith}
use Rattle.std.specs.Prelude.{◌↔◌, ◌||◌, if◌then◌else◌, slice_index_or}
use Rattle.std.proofs.lemmas.Bool.{eq-eqb}
use Rattle.std.proofs.lemmas.List.{length-map, length-append}
use Rattle.std.proofs.lemmas.Option.{get_or_from_slice_get, slice_get_within}
use Rattle.pmt_laws.specs.Prelude.{Written, Layout, line_of, Act, Stores, Flushes, Recording, IsAct, history, lines_of, has_line, with_line, IsOverwritten, IsRedundantFlush, last_flush, IsRising}
use Rattle.pmt_laws.proofs.Histories.{act-within, history-act, length-history}
use Rattle.pmt_safety.specs.Safety.{has_flushed, last_line_store, last_line_store_at, safe_store, safe_store_at}
use Rattle.pmt_safety.proofs.RedundantLemmas.{redundant_flush_by_stores}
use Rattle.pmt_rows.specs.Known.{AreLinked, AreLinkedAt, raised, row_after, AreRows, IsKnownWith}
use Rattle.pmt_rows.proofs.LinkedLemmas.{each_linked}
use Rattle.pmt_tables.specs.Slots.{IsSlotOf}
use Rattle.pmt_tables.specs.declared.words.Overwrite.{Overwrite}
use Rattle.pmt_tables.specs.Lasts.{last_at, AddsOverwritten, IsLastTo, IsWordAt, WritesIn}
use Rattle.pmt_tables.proofs.WrittenLemmas.{overwritten_by_word}
use Rattle.pmt_rows.specs.declared.rows.Row.{Row}
use Rattle.pmt_rows.specs.declared.rows.Rows.{Rows}
use Rattle.pmt_rows.proofs.RowLemmas.{stored-known, flushed-known}
use Rattle.pmt_rows.specs.Waiting.{AreWaiting, list_at}
use Rattle.pmt_rows.specs.declared.open.OpenFlush.{OpenFlush}
use Rattle.pmt_rows.proofs.OpenLemmas.{waits-on}
use Rattle.pmt_sweep.specs.declared.known.Known.{Known}
use Rattle.pmt_sweep.specs.Known.{word_address, AreWordsOf, IsActAt, IsKnownAmong, IsKnownOf, IsStoreAt, IsStoreNext, AddsOverwrittenBy, AreFlushedOf, HasFirst, tells_at}
use Rattle.pmt_sweep.specs.declared.first_flush.FirstFlush.{FirstFlush}
use Rattle.pmt_sweep.specs.declared.flushed.SinceStore.{SinceStore}
use Rattle.pmt_sweep.specs.declared.line_words.WordBytes.{WordBytes}
use Rattle.pmt_sweep.proofs.WordsLemmas.{AreAdded, words-new, words-other}
use Rattle.pmt_sweep.proofs.FirstLemmas.{flushed-new, flushed-store, flushed-flush}

-- ---- A slot for a line

-- of how many lines rows are known
pub rows-many : (lines : List ℕ) (h : List Act) (safe : ℕ → ℕ) (r : Rows) → IsKnownWith lines h safe r → length r.rows.items ≡ length lines
rows-many lines h safe r is = ap length is.rows ∙ length-map lines (row_after safe h)

module _ (T : Recording) (n l : ℕ) (lines : List ℕ) (k : Known) (rows : Rows) (is : IsKnownAmong T n lines k) (placed : IsKnownWith (with_line l lines) (history T n) (λ m. safe_store_at T m n) rows) where
  -- the line is new where there are more rows
  is-new : length k.rows.rows.items < length rows.rows.items → has_line l lines ≡ false
  is-new more = go (has_line l lines) refl (rows-many (with_line l lines) (history T n) (λ m. safe_store_at T m n) rows placed)
    where
      go : (b : Bool) → has_line l lines ≡ b → length rows.rows.items ≡ length (if b then lines else lines ++ l ∷ []) → b ≡ false
      go true e many = let old = rows-many lines (history T n) (λ m. safe_store_at T m n) k.rows is.rows in absurd (omega (arith, many, old, more))
      go false e many = refl

  is-old : length rows.rows.items ≤ length k.rows.rows.items → has_line l lines ≡ true
  is-old few = go (has_line l lines) refl (rows-many (with_line l lines) (history T n) (λ m. safe_store_at T m n) rows placed)
    where
      go : (b : Bool) → has_line l lines ≡ b → length rows.rows.items ≡ length (if b then lines else lines ++ l ∷ []) → b ≡ true
      go true e many = refl
      go false e many = let old = rows-many lines (history T n) (λ m. safe_store_at T m n) k.rows is.rows in absurd (omega (arith, many, old, few, length-append lines (l ∷ [])))

  -- nothing has come to a line without a slot
  no-store : has_line l lines ≡ false → last_line_store_at T l n ≡ 0
  no-store new = ap (λ (r : Row). r.last_store) (is.rows.others l new)

  no-flush : has_line l lines ≡ false → last_flush l (history T n) ≡ 0
  no-flush new = ap (λ (r : Row). r.last_flush) (is.rows.others l new)

  pub placed-flushed : AreFlushedOf (with_line l lines) (history T n) k.flushed.first.items k.flushed.others.lines.items
  placed-flushed = go (has_line l lines) refl
    where
      go : (b : Bool) → has_line l lines ≡ b → AreFlushedOf (if b then lines else lines ++ l ∷ []) (history T n) k.flushed.first.items k.flushed.others.lines.items
      go true e = is.flushed
      go false e = flushed-new lines l (history T n) k.flushed.first.items k.flushed.others.lines.items (no-flush e) is.flushed

  pub placed-waiting : AreWaiting (with_line l lines) (history T n) k.waiting
  placed-waiting = (waits-on last_line_store).line l lines (history T n) k.waiting is.waiting

  pub placed-words : (words : List (List ℕ)) → length k.rows.rows.items < length rows.rows.items → AreAdded k.words_of_line k.words words → AreWordsOf T n k.words_of_line (with_line l lines) words
  placed-words words more added =
      let new = is-new more in
      rw new (words-new T n k.words_of_line l lines k.words words is.trace is.many (no-store new) added is.words)

  pub placed-same : length rows.rows.items ≤ length k.rows.rows.items → AreWordsOf T n k.words_of_line (with_line l lines) k.words
  placed-same few = let old = is-old few in rw old is.words

-- ---- A store

-- what holds after the next act holds at the next slot
pub stepped : (P : List Act → Type 0) (T : Recording) (n : ℕ) (a : Act) → IsAct T (suc n) a → P (a ∷ history T n) → P (history T (suc n))
stepped P T n a is p = subst P (sym (history-act T n a is)) p

pub length-before : (T : Recording) (n : ℕ) (a : Act) → IsAct T (suc n) a → length (history T n) ≡ n
length-before T n a is = let within = act-within T (suc n) a is in length-history T n (omega (arith, within.1))

rising-from : (low high : ℕ) (found : List ℕ) → low ≤ high → IsRising high found → IsRising low found
rising-from low high [] le rising = rising
rising-from low high (j ∷ found) le rising = (omega (arith, le, rising.0), rising.1)

module _ (T : Recording) (n l slot word low high : ℕ) (w : Written) (lines : List ℕ) (k : Known) (is : IsKnownAmong T n lines k) (next : IsAct T (suc n) (Stores l w)) (at : IsSlotOf l slot lines) (within : word < k.words_of_line) (eight : high ≤ 8)
    (writes : WritesIn (word_address T.format.line_size l word) w low high) where
  pub here : IsWordAt T n (word_address T.format.line_size l word) (last_at k.words (slot * k.words_of_line + word))
  here = is.words.each l slot word at within

  pub stored-rows : (number : ℕ) (rows : Rows) → number ≡ suc n → AreRows lines (raised l number (λ m. last_line_store_at T m n)) (λ m. safe_store_at T m n) (λ m. last_flush m (history T n)) rows →
      IsKnownWith lines (history T (suc n)) (λ m. safe_store_at T m (suc n)) rows
  stored-rows number rows numbered known =
      stepped (λ h. IsKnownWith lines h (λ m. safe_store m h) rows) T n (Stores l w) next
      (stored-known lines (history T n) l number w rows (numbered ∙ ap suc (sym (length-before T n (Stores l w) next))) known)

  pub stored-links : (last : ℕ) (links : List ℕ) → last ≡ last_line_store_at T l n → links ≡ k.links ++ last ∷ [] → AreLinkedAt T (suc n) links
  stored-links last links e pushed =
      let linked : AreLinked T (suc n) (λ m. safe_store_at T m n) (k.links ++ last_line_store_at T l n ∷ []) = each_linked.store T n l w (λ m. safe_store_at T m n) k.links next is.entries in
      let same : k.links ++ last_line_store_at T l n ∷ [] ≡ links = sym (pushed ∙ ap (λ m. k.links ++ m ∷ []) e) in
      stepped (λ h. AreLinked T (suc n) (λ m. safe_store m h) links) T n (Stores l w) next (subst (AreLinked T (suc n) (λ m. safe_store_at T m n)) same linked)

  pub stored-flushed : AreFlushedOf lines (history T (suc n)) k.flushed.first.items k.flushed.others.lines.items
  stored-flushed = stepped (λ h. AreFlushedOf lines h k.flushed.first.items k.flushed.others.lines.items) T n (Stores l w) next (flushed-store lines l w (history T n) k.flushed.first.items k.flushed.others.lines.items is.flushed)

  pub stored-waiting : AreWaiting lines (history T (suc n)) k.waiting
  stored-waiting = stepped (λ h. AreWaiting lines h k.waiting) T n (Stores l w) next ((waits-on last_line_store).others lines (history T n) k.waiting (Stores l w) (λ t m e. cc) (λ t e. cc) is.waiting)

  pub stored-over : (number flush : ℕ) (old new : List Overwrite) → number ≡ suc n → flush ≡ last_flush l (history T n) → AddsOverwritten flush number low high (last_at k.words (slot * k.words_of_line + word)) old new →
      AddsOverwrittenBy T (suc n) old new
  stored-over number flush old new numbered flushed adds = record {
    found = adds.found;
    added = adds.added ∙ ap (λ i. old ++ map (λ j. record { earlier = j; later = i }) adds.found) numbered;
    rising = rising-from 0 flush adds.found (omega arith) adds.rising;
    just = λ j. (λ has. (law j).1 (there j ((adds.just j).0 has)), λ over. (adds.just j).1 (back j ((law j).0 over)));
  }
    where
      law : (j : ℕ) → IsOverwritten T j (suc n) ↔ ((last_flush l (history T n) < j) × IsLastTo low high (last_at k.words (slot * k.words_of_line + word)) j)
      law j = overwritten_by_word T n l (word_address T.format.line_size l word) low high j w (last_at k.words (slot * k.words_of_line + word)) is.trace next writes eight here

      there : (j : ℕ) → (flush < j) × IsLastTo low high (last_at k.words (slot * k.words_of_line + word)) j → (last_flush l (history T n) < j) × IsLastTo low high (last_at k.words (slot * k.words_of_line + word)) j
      there j (later, last) = (omega (arith, later, flushed), last)

      back : (j : ℕ) → (last_flush l (history T n) < j) × IsLastTo low high (last_at k.words (slot * k.words_of_line + word)) j → (flush < j) × IsLastTo low high (last_at k.words (slot * k.words_of_line + word)) j
      back j (later, last) = (omega (arith, later, flushed), last)

-- the store, once its line has a slot
pub store-here : (T : Recording) (n line slot : ℕ) (w : Written) (bytes : WordBytes) (old k : Known) → IsKnownOf T n old → IsStoreNext T n w → line ≡ line_of old.format w.addr → IsKnownAmong T n (with_line line (lines_of (history T n))) k →
    IsSlotOf line slot k.rows.slots → bytes.low < bytes.high → bytes.high ≤ 8 → bytes.word * 8 + 8 ≤ k.format.line_size → WritesIn (word_address k.format.line_size line bytes.word) w bytes.low bytes.high → IsStoreAt T n line slot bytes w k
store-here T n line slot w bytes old k before next e known at some eight word writes = record {
  known = known;
  is = subst (λ m. IsAct T (suc n) (Stores m w)) (sym (e ∙ ap (λ f. line_of f w.addr) before.format)) next;
  at = subst (IsSlotOf line slot) known.rows.placed at;
  word = omega (arith, word, known.many, ap (λ (f : Layout). f.line_size) known.format);
  some = some;
  eight = eight;
  writes = subst (λ (f : Layout). WritesIn (word_address f.line_size line bytes.word) w bytes.low bytes.high) known.format writes;
}

-- an act on a line, once that has a slot
pub act-here : (T : Recording) (n line slot : ℕ) (a : Act) (k : Known) → IsKnownAmong T n (with_line line (lines_of (history T n))) k → IsAct T (suc n) a → IsSlotOf line slot k.rows.slots → IsActAt T n line slot a k
act-here T n line slot a k known next at = record { known = known; is = next; at = subst (IsSlotOf line slot) known.rows.placed at }

-- the lines of the next slot
pub known-next : (T : Recording) (n : ℕ) (a : Act) (k : Known) → IsAct T (suc n) a → IsKnownAmong T (suc n) (lines_of (a ∷ history T n)) k → IsKnownOf T (suc n) k
known-next T n a k is known = stepped (λ h. IsKnownAmong T (suc n) (lines_of h) k) T n a is known

-- ---- A flush

or-told : (b c : Bool) → (b || c) ≡ true → (b ≡ true) ⊎ (c ≡ true)
or-told true c e = inl refl
or-told false c e = inr e

pub or-left : (b c : Bool) → b ≡ true → (b || c) ≡ true
or-left b c e = rw e refl

or-right : (b c : Bool) → c ≡ true → (b || c) ≡ true
or-right true c e = refl
or-right false c e = e

module _ (T : Recording) (n l t slot : ℕ) (lines : List ℕ) (k : Known) (is : IsKnownAmong T n lines k) (next : IsAct T (suc n) (Flushes t l)) (at : IsSlotOf l slot lines) where
  pub flushed-rows : (number : ℕ) (rows : Rows) → number ≡ suc n → AreRows lines (λ m. last_line_store_at T m n) (λ m. safe_store_at T m n) (raised l number (λ m. last_flush m (history T n))) rows →
      IsKnownWith lines (history T (suc n)) (λ m. safe_store_at T m (suc n)) rows
  flushed-rows number rows numbered known =
      stepped (λ h. IsKnownWith lines h (λ m. safe_store m h) rows) T n (Flushes t l) next
      (flushed-known lines (history T n) t l number rows (numbered ∙ ap suc (sym (length-before T n (Flushes t l) next))) known)

  pub flushed-words : AreWordsOf T (suc n) k.words_of_line lines k.words
  flushed-words = words-other T n k.words_of_line lines k.words (Flushes t l) next (λ m w e. cc) is.words

  pub flushed-links : (number : ℕ) (links : List ℕ) → number ≡ suc n → links ≡ k.links ++ number ∷ [] → AreLinkedAt T (suc n) links
  flushed-links number links e pushed =
      let linked : AreLinked T (suc n) (λ m. safe_store_at T m n) (k.links ++ suc n ∷ []) = each_linked.other T n (Flushes t l) (λ m. safe_store_at T m n) k.links next (λ m w same. cc) is.entries in
      let same : k.links ++ suc n ∷ [] ≡ links = sym (pushed ∙ ap (λ m. k.links ++ m ∷ []) e) in
      stepped (λ h. AreLinked T (suc n) (λ m. safe_store m h) links) T n (Flushes t l) next (subst (AreLinked T (suc n) (λ m. safe_store_at T m n)) same linked)

  pub flushed-flushed : (last : ℕ) (new : List FirstFlush) (others : List SinceStore) → last ≡ last_line_store_at T l n → HasFirst slot last t k.flushed.first.items k.flushed.others.lines.items new others → AreFlushedOf lines (history T (suc n)) new others
  flushed-flushed last new others e has = stepped (λ h. AreFlushedOf lines h new others) T n (Flushes t l) next (flushed-flush lines t l slot last (history T n) k.flushed.first.items k.flushed.others.lines.items new others is.rows.once at e has is.flushed)

  pub flushed-waiting : (f : OpenFlush) (new : List (List OpenFlush)) → f.slot ≡ slot → f.number ≡ suc n → f.store ≡ last_line_store_at T l n → list_at t new ≡ list_at t k.waiting ++ f ∷ [] → ((u : ℕ) → u ≢ t → list_at u new ≡ list_at u k.waiting) →
      AreWaiting lines (history T (suc n)) new
  flushed-waiting f new placed numbered marked own others =
      let within : f.slot < length lines = omega (arith, placed, slice_get_within lines slot l at) in
      let line : slice_index_or lines f.slot 0 ≡ l = ap (λ p. slice_index_or lines p 0) placed ∙ get_or_from_slice_get lines slot l 0 at in
      let many = length-before T n (Flushes t l) next in
      stepped (λ h. AreWaiting lines h new) T n (Flushes t l) next ((waits-on last_line_store).flush lines t l (history T n) f k.waiting new within line (omega (arith, numbered, many)) marked own others is.waiting)

  pub flushed-tells : (again result : Bool) (safe last : ℕ) → again ≡ tells_at last k.flushed.first.items k.flushed.others.lines.items slot t → t < 256 → safe ≡ safe_store_at T l n → last ≡ last_line_store_at T l n → result ≡ (again || (safe == last)) →
      (result ≡ true) ↔ IsRedundantFlush T t l (suc n)
  flushed-tells again result safe last told small safe_is last_is answer = (there, back)
    where
      law : IsRedundantFlush T t l (suc n) ↔ ((safe_store_at T l n ≡ last_line_store_at T l n) ⊎ (has_flushed t l (history T n) ≡ true))
      law = redundant_flush_by_stores T t l n next

      again-is : again ≡ has_flushed t l (history T n)
      again-is = told ∙ ap (λ m. tells_at m k.flushed.first.items k.flushed.others.lines.items slot t) last_is ∙ is.flushed.each l slot t at small

      there : result ≡ true → IsRedundantFlush T t l (suc n)
      there yes_it = elim (or-told again (safe == last) (sym answer ∙ yes_it)) [
        | inl had ↦ law.1 (inr (sym again-is ∙ had))
        | inr same ↦ law.1 (inl (sym safe_is ∙ eqb-true safe last same ∙ last_is))
      ]

      back : IsRedundantFlush T t l (suc n) → result ≡ true
      back redundant = elim (law.0 redundant) [
        | inl same ↦ answer ∙ or-right again (safe == last) (eq-eqb safe last (safe_is ∙ same ∙ sym last_is))
        | inr had ↦ answer ∙ or-left again (safe == last) (again-is ∙ had)
      ]
