-- What is known of all lines: a clflush, and an assertion.
use Rattle.std.proofs.Common.{◌≡◌, ℕ, suc, ◌<◌, ◌≤◌, ◌⊎◌, inl, inr, ◌==◌, Bool, true, false, List, [], ◌∷◌, ◌++◌, refl, sym, ap, subst, ◌∙◌, eqb-true, arith}
use Rattle.std.specs.Prelude.{◌↔◌, nat_lt, if◌then◌else◌}
use Rattle.std.proofs.lemmas.Bool.{eq-eqb, ltb-true, both_ways, cases_lt}
use Rattle.pmt_laws.specs.Prelude.{Written, Stores, Clflushes, Asserts, Recording, IsAct, history, IsRedundantClflush, last_flush, IsKept}
use Rattle.pmt_laws.proofs.Histories.{history-act}
use Rattle.pmt_safety.specs.Safety.{last_line_store, last_line_store_at, safe_store, safe_store_at}
use Rattle.pmt_safety.proofs.StoreLemmas.{last-is_store, safe-le_last}
use Rattle.pmt_safety.proofs.RedundantLemmas.{redundant_clflush_by_stores}
use Rattle.pmt_safety.proofs.KeptLemmas.{kept_clflush_by_stores}
use Rattle.pmt_rows.specs.Known.{IsChain, with_place, AreLinked, AreLinkedAt, raised, AreRows, IsKnownWith}
use Rattle.pmt_rows.proofs.LinkedLemmas.{each_linked, raise_links}
use Rattle.pmt_tables.specs.Slots.{IsSlotOf}
use Rattle.pmt_rows.specs.declared.rows.Rows.{Rows}
use Rattle.pmt_rows.proofs.RowLemmas.{cleared-known}
use Rattle.pmt_rows.specs.Waiting.{AreWaiting}
use Rattle.pmt_rows.proofs.OpenLemmas.{waits-on}
use Rattle.pmt_sweep.specs.declared.known.Known.{Known}
use Rattle.pmt_sweep.specs.Known.{AreWordsOf, IsKnownAmong, AreFlushedOf}
use Rattle.pmt_sweep.proofs.WordsLemmas.{words-other}
use Rattle.pmt_sweep.proofs.FirstLemmas.{flushed-clflush, flushed-assertion}
use Rattle.pmt_sweep.proofs.KnownLemmas.{length-before, stepped}

-- entries are told by the last safe store of each line, however that is said
pub linked-same : (T : Recording) (n : ℕ) (safe now : ℕ → ℕ) (links : List ℕ) → ((m : ℕ) → now m ≡ safe m) → AreLinked T n safe links → AreLinked T n now links
linked-same T n safe now links same is = record {
  many = is.many;
  come = λ m. let e = same m in let old = is.come m in omega (arith, e, old);
  passed = λ m j w by act le. let e = same m in is.passed m j w by act (omega (arith, le, e));
  pending = λ m i w less act low. let e = same m in is.pending m i w less act (omega (arith, low, e));
  others = is.others;
}

below-true : (a b : ℕ) → a < b → nat_lt a b ≡ true
below-true a b h = go (nat_lt a b) refl
  where
    go : (t : Bool) → nat_lt a b ≡ t → t ≡ true
    go true e = refl
    go false e = let le : b ≤ a = grind (arith, e) in absurd (omega (arith, h, le))

below-false : (a b : ℕ) → b ≤ a → nat_lt a b ≡ false
below-false a b h = go (nat_lt a b) refl
  where
    go : (t : Bool) → nat_lt a b ≡ t → t ≡ false
    go true e = let lt : a < b = ltb-true a b e in absurd (omega (arith, h, lt))
    go false e = refl

module _ (T : Recording) (n l slot : ℕ) (lines : List ℕ) (k : Known) (is : IsKnownAmong T n lines k) (next : IsAct T (suc n) (Clflushes l)) (at : IsSlotOf l slot lines) where
  marked : (last_line_store_at T l n ≡ 0) ⊎ ((w : Written) × IsAct T (last_line_store_at T l n) (Stores l w))
  marked = elim (last-is_store T l n) [
    | inl none ↦ inl none
    | inr x ↦ inr (x.0, x.1)
  ]

  early : last_line_store_at T l n ≤ n
  early = elim (last-is_store T l n) [
    | inl none ↦ omega (arith, none)
    | inr x ↦ x.2
  ]

  -- the chain that the walk goes over
  pub clears-chain : (safe last : ℕ) → safe ≡ safe_store_at T l n → last ≡ last_line_store_at T l n → (stores : List ℕ) × IsChain k.links safe last stores
  clears-chain safe last safe_is last_is =
      let chain = raise_links.chain T n l (last_line_store_at T l n) (λ m. safe_store_at T m n) k.links is.entries early marked in
      (chain.0, subst (λ m. IsChain k.links m last chain.0) (sym safe_is) (subst (λ m. IsChain k.links (safe_store_at T l n) m chain.0) (sym last_is) chain.1))

  -- the last store to the line is the last safe one then, and other lines keep theirs
  safe-then : (m : ℕ) → safe_store_at T m (suc n) ≡ raised l (last_line_store_at T l n) (λ j. safe_store_at T j n) m
  safe-then m = ap (safe_store m) (history-act T n (Clflushes l) next) ∙ go (l == m) refl
    where
      go : (b : Bool) → (l == m) ≡ b → (if b then last_line_store m (history T n) else safe_store m (history T n)) ≡ (if b then last_line_store l (history T n) else safe_store m (history T n))
      go true e = ap (λ j. last_line_store j (history T n)) (sym (eqb-true l m e))
      go false e = refl

  pub cleared-rows : (number : ℕ) (rows : Rows) → number ≡ suc n → AreRows lines (λ m. last_line_store_at T m n) (raised l (last_line_store_at T l n) (λ m. safe_store_at T m n)) (raised l number (λ m. last_flush m (history T n))) rows →
      IsKnownWith lines (history T (suc n)) (λ m. safe_store_at T m (suc n)) rows
  cleared-rows number rows numbered known =
      stepped (λ h. IsKnownWith lines h (λ m. safe_store m h) rows) T n (Clflushes l) next
      (cleared-known lines (history T n) l number rows (numbered ∙ ap suc (sym (length-before T n (Clflushes l) next))) known)

  pub cleared-links : (safe last number : ℕ) (middle links : List ℕ) → safe ≡ safe_store_at T l n → last ≡ last_line_store_at T l n → number ≡ suc n → ((stores : List ℕ) → IsChain k.links safe last stores → middle ≡ with_place k.links stores number) →
      links ≡ middle ++ number ∷ [] → AreLinkedAt T (suc n) links
  cleared-links safe last number middle links safe_is last_is numbered walked pushed =
      let over = clears-chain safe last safe_is last_is in
      let chain : IsChain k.links (safe_store_at T l n) (last_line_store_at T l n) over.0 =
      subst (λ m. IsChain k.links m (last_line_store_at T l n) over.0) safe_is (subst (λ m. IsChain k.links safe m over.0) last_is over.1) in
      let walk : with_place k.links over.0 (suc n) ≡ middle = sym (walked over.0 over.1 ∙ ap (with_place k.links over.0) numbered) in
      let own : (l == l) ≡ true = eq-eqb l l refl in
      let risen : safe_store_at T l (suc n) ≡ last_line_store_at T l n = safe-then l ∙ ap (λ b. if b then last_line_store_at T l n else safe_store_at T l n) own in
      let up : AreLinked T n (raised l (last_line_store_at T l n) (λ m. safe_store_at T m n)) (with_place k.links over.0 (suc n)) =
      raise_links.links T n n l (last_line_store_at T l n) (λ m. safe_store_at T m n) k.links over.0 is.entries early marked (safe-le_last T l n) (omega arith) (omega (arith, risen)) chain in
      let then_linked = each_linked.other T n (Clflushes l) (raised l (last_line_store_at T l n) (λ m. safe_store_at T m n)) middle next (λ m w same. cc) (subst (AreLinked T n (raised l (last_line_store_at T l n) (λ m. safe_store_at T m n))) walk up) in
      let all : middle ++ suc n ∷ [] ≡ links = sym (pushed ∙ ap (λ m. middle ++ m ∷ []) numbered) in
      linked-same T (suc n) (raised l (last_line_store_at T l n) (λ m. safe_store_at T m n)) (λ m. safe_store_at T m (suc n)) links safe-then
      (subst (AreLinked T (suc n) (raised l (last_line_store_at T l n) (λ m. safe_store_at T m n))) all then_linked)

  pub cleared-words : AreWordsOf T (suc n) k.words_of_line lines k.words
  cleared-words = words-other T n k.words_of_line lines k.words (Clflushes l) next (λ m w e. cc) is.words

  pub cleared-flushed : AreFlushedOf lines (history T (suc n)) k.flushed.first.items k.flushed.others.lines.items
  cleared-flushed = stepped (λ h. AreFlushedOf lines h k.flushed.first.items k.flushed.others.lines.items) T n (Clflushes l) next (flushed-clflush lines l (history T n) k.flushed.first.items k.flushed.others.lines.items is.flushed)

  pub cleared-waiting : AreWaiting lines (history T (suc n)) k.waiting
  cleared-waiting = stepped (λ h. AreWaiting lines h k.waiting) T n (Clflushes l) next ((waits-on last_line_store).others lines (history T n) k.waiting (Clflushes l) (λ t m e. cc) (λ t e. cc) is.waiting)

  pub clears-kept : (safe last : ℕ) → safe ≡ safe_store_at T l n → last ≡ last_line_store_at T l n → (nat_lt safe last ≡ true) ↔ IsKept T (suc n)
  clears-kept safe last safe_is last_is =
      let law = kept_clflush_by_stores T l n next in (
        λ told. let later : safe < last = ltb-true safe last told in law.1 (omega (arith, later, safe_is, last_is)),
        λ kept. let later = law.0 kept in below-true safe last (omega (arith, later, safe_is, last_is)),
      )

  pub clears-redundant : (safe last : ℕ) → safe ≡ safe_store_at T l n → last ≡ last_line_store_at T l n → (nat_lt safe last ≡ false) ↔ IsRedundantClflush T l (suc n)
  clears-redundant safe last safe_is last_is = (there, back)
    where
      there : nat_lt safe last ≡ false → IsRedundantClflush T l (suc n)
      there told = elim (cases_lt safe last) [
        | inl later ↦ absurd (both_ways (nat_lt safe last) told (below-true safe last later))
        | inr all ↦ let most = safe-le_last T l n in (redundant_clflush_by_stores T l n next).1 (omega (arith, all, most, safe_is, last_is))
      ]

      back : IsRedundantClflush T l (suc n) → nat_lt safe last ≡ false
      back redundant = let same = (redundant_clflush_by_stores T l n next).0 redundant in below-false safe last (omega (arith, same, safe_is, last_is))

-- ---- An assertion

module _ (T : Recording) (n : ℕ) (lines : List ℕ) (k : Known) (is : IsKnownAmong T n lines k) (next : IsAct T (suc n) Asserts) where
  pub judged-rows : IsKnownWith lines (history T (suc n)) (λ m. safe_store_at T m (suc n)) k.rows
  judged-rows = stepped (λ h. IsKnownWith lines h (λ m. safe_store m h) k.rows) T n Asserts next is.rows

  pub judged-words : AreWordsOf T (suc n) k.words_of_line lines k.words
  judged-words = words-other T n k.words_of_line lines k.words Asserts next (λ m w e. cc) is.words

  pub judged-links : (number : ℕ) (links : List ℕ) → number ≡ suc n → links ≡ k.links ++ number ∷ [] → AreLinkedAt T (suc n) links
  judged-links number links e pushed =
      let linked : AreLinked T (suc n) (λ m. safe_store_at T m n) (k.links ++ suc n ∷ []) = each_linked.other T n Asserts (λ m. safe_store_at T m n) k.links next (λ m w same. cc) is.entries in
      let same : k.links ++ suc n ∷ [] ≡ links = sym (pushed ∙ ap (λ m. k.links ++ m ∷ []) e) in
      stepped (λ h. AreLinked T (suc n) (λ m. safe_store m h) links) T n Asserts next (subst (AreLinked T (suc n) (λ m. safe_store_at T m n)) same linked)

  pub judged-flushed : AreFlushedOf lines (history T (suc n)) k.flushed.first.items k.flushed.others.lines.items
  judged-flushed = stepped (λ h. AreFlushedOf lines h k.flushed.first.items k.flushed.others.lines.items) T n Asserts next (flushed-assertion lines (history T n) k.flushed.first.items k.flushed.others.lines.items is.flushed)

  pub judged-waiting : AreWaiting lines (history T (suc n)) k.waiting
  judged-waiting = stepped (λ h. AreWaiting lines h k.waiting) T n Asserts next ((waits-on last_line_store).others lines (history T n) k.waiting Asserts (λ t m e. cc) (λ t e. cc) is.waiting)
