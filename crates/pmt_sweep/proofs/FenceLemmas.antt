-- What is known of all lines: a fence.
use Rattle.std.proofs.Common.{◌≡◌, ◌≢◌, ℕ, suc, ◌<◌, ◌≤◌, inl, inr, ◌==◌, Bool, true, false, List, [], ◌∷◌, ◌++◌, length, get_or, refl, sym, ap, subst, ◌∙◌, eqb-true, arith}
use Rattle.std.specs.Prelude.{◌↔◌, All}
use Rattle.std.proofs.lemmas.Bool.{eq-eqb, both_ways}
use Rattle.std.proofs.lemmas.List.{get_or-map, length-map}
use Rattle.pmt_laws.specs.Prelude.{Fences, Recording, IsAct, history, IsEmptyFence, IsKept}
use Rattle.pmt_laws.proofs.Histories.{history-act}
use Rattle.pmt_tables.specs.Flags.{MarksThese}
use Rattle.pmt_safety.specs.Safety.{has_open_flush, last_line_store, safe_store, safe_store_at}
use Rattle.pmt_safety.proofs.KeptLemmas.{empty_fence_by_flag}
use Rattle.pmt_rows.specs.Known.{AreLinked, AreLinkedAt, IsKnownWith}
use Rattle.pmt_rows.proofs.LinkedLemmas.{each_linked}
use Rattle.pmt_rows.specs.declared.rows.Rows.{Rows}
use Rattle.pmt_rows.specs.declared.open.OpenFlush.{OpenFlush}
use Rattle.pmt_rows.specs.Waiting.{Waiting, AreWaiting, waiting, waits, list_at, raise_all, AreAtFence, IsAtFence, IsRaisable, raisers, some_raises, waits_all}
use Rattle.pmt_rows.proofs.OpenLemmas.{waits-on}
use Rattle.pmt_rows.proofs.WaitingLemmas.{fence-raises, open-tells}
use Rattle.pmt_rows.proofs.KeepingLemmas.{Marks, HasCome, all-mark, each-at, waiting-marks, waiting-come, fence_kept_by_raise, fenced-known}
use Rattle.pmt_sweep.specs.declared.known.Known.{Known}
use Rattle.pmt_sweep.specs.Passing.{FlagsKept}
use Rattle.pmt_sweep.specs.Known.{AreWordsOf, IsKnownAmong, AreFlushedOf}
use Rattle.pmt_sweep.proofs.WordsLemmas.{words-other}
use Rattle.pmt_sweep.proofs.FirstLemmas.{flushed-fence}
use Rattle.pmt_sweep.proofs.KnownLemmas.{stepped}
use Rattle.pmt_sweep.proofs.ClflushLemmas.{linked-same}
use Rattle.pmt_sweep.proofs.KeepingLemmas.{flags_kept}

-- ---- The fence

module _ (T : Recording) (n t : ℕ) (lines : List ℕ) (k : Known) (is : IsKnownAmong T n lines k) (next : IsAct T (suc n) (Fences t)) where
  -- the last safe stores then
  safe-then : (m : ℕ) → safe_store_at T m (suc n) ≡ raise_all (waits_all lines (list_at t k.waiting)) (λ j. safe_store_at T j n) m
  safe-then m = ap (safe_store m) (history-act T n (Fences t) next) ∙ sym (fence-raises t m (history T n)) ∙ ap (λ ws. raise_all ws (λ j. safe_store_at T j n) m) (sym (is.waiting.each t))

  raisable : (i : ℕ) (d : OpenFlush) → i < length (list_at t k.waiting) → IsRaisable T lines n (get_or (list_at t k.waiting) i d)
  raisable i d within = record {
    within = is.waiting.within t i d within;
    store = elim marks [
      | inl none ↦ inl none
      | inr x ↦ inr (x.0, x.1)
    ];
    by_now = elim marks [
      | inl none ↦ omega (arith, none)
      | inr x ↦ x.2
    ];
    later = let up = all-mark (waiting t (history T n)) (λ j. safe_store_at T j n) i (waits lines d) inside in
        let same : safe_store_at T (waits lines f).line (suc n) ≡ raise_all (waiting t (history T n)) (λ j. safe_store_at T j n) (waits lines f).line =
        ap (safe_store (waits lines f).line) (history-act T n (Fences t) next) ∙ sym (fence-raises t (waits lines f).line (history T n)) in
        let here : (waits lines f).store ≤ raise_all (waiting t (history T n)) (λ j. safe_store_at T j n) (waits lines f).line = subst (λ (w : Waiting). w.store ≤ raise_all (waiting t (history T n)) (λ j. safe_store_at T j n) w.line) read up in
        omega (arith, here, same);
  }
    where
      f : OpenFlush
      f = get_or (list_at t k.waiting) i d

      inside : i < length (waiting t (history T n))
      inside = omega (arith, within, ap length (is.waiting.each t), length-map (list_at t k.waiting) (waits lines))

      read : get_or (waiting t (history T n)) i (waits lines d) ≡ waits lines (get_or (list_at t k.waiting) i d)
      read = ap (λ ws. get_or ws i (waits lines d)) (sym (is.waiting.each t)) ∙ get_or-map (waits lines) (list_at t k.waiting) i d (waits lines d) within

      marks : Marks T n (waits lines (get_or (list_at t k.waiting) i d))
      marks = subst (Marks T n) read (each-at (Marks T n) (waiting t (history T n)) i (waits lines d) (waiting-marks T t n) inside)

  pub flagged : (kept : List Bool) (flushes : List OpenFlush) → length kept ≡ n → flushes ≡ list_at t k.waiting → All (λ f. (1 ≤ f.number) × (f.number ≤ length kept)) flushes
  flagged kept flushes many e = subst (All (λ (f : OpenFlush). (1 ≤ f.number) × (f.number ≤ length kept))) (sym e) each
    where
      each : (i : ℕ) (d : OpenFlush) → i < length (list_at t k.waiting) → (1 ≤ (get_or (list_at t k.waiting) i d).number) × ((get_or (list_at t k.waiting) i d).number ≤ length kept)
      each i d within =
          let inside : i < length (waiting t (history T n)) = omega (arith, within, ap length (is.waiting.each t), length-map (list_at t k.waiting) (waits lines)) in
          let read : get_or (waiting t (history T n)) i (waits lines d) ≡ waits lines (get_or (list_at t k.waiting) i d) =
          ap (λ ws. get_or ws i (waits lines d)) (sym (is.waiting.each t)) ∙ get_or-map (waits lines) (list_at t k.waiting) i d (waits lines d) within in
          let come : HasCome n (waits lines (get_or (list_at t k.waiting) i d)) = subst (HasCome n) read (each-at (HasCome n) (waiting t (history T n)) i (waits lines d) (waiting-come T t n) inside) in
          (come.0, omega (arith, come.1, many))

  pub at-fence : (number : ℕ) (flushes : List OpenFlush) → number ≡ suc n → flushes ≡ list_at t k.waiting → AreAtFence T lines n number (λ m. safe_store_at T m n) k.rows k.links flushes
  at-fence number flushes numbered e = record {
    numbered = numbered;
    at = record { rows = is.rows; entries = is.entries; above = λ l. omega arith };
    each = subst (All (IsRaisable T lines n)) (sym e) raisable;
  }

  module _ (flushes : List OpenFlush) (e : flushes ≡ list_at t k.waiting) (rows : Rows) (middle : List ℕ) (after : IsAtFence T lines n (raise_all (waits_all lines flushes) (λ m. safe_store_at T m n)) rows middle) where
    told : (m : ℕ) → safe_store_at T m (suc n) ≡ raise_all (waits_all lines flushes) (λ j. safe_store_at T j n) m
    told m = safe-then m ∙ ap (λ xs. raise_all (waits_all lines xs) (λ j. safe_store_at T j n) m) (sym e)

    pub fenced-rows : IsKnownWith lines (history T (suc n)) (λ m. safe_store_at T m (suc n)) rows
    fenced-rows = stepped (λ h. IsKnownWith lines h (λ m. safe_store m h) rows) T n (Fences t) next
        (fenced-known lines t (history T n) rows
        (subst (λ ws. IsKnownWith lines (history T n) (raise_all ws (λ m. safe_store_at T m n)) rows) (ap (waits_all lines) e ∙ is.waiting.each t) after.rows))

    pub fenced-links : (number : ℕ) (links : List ℕ) → number ≡ suc n → links ≡ middle ++ number ∷ [] → AreLinkedAt T (suc n) links
    fenced-links number links numbered pushed =
        let linked = each_linked.other T n (Fences t) (raise_all (waits_all lines flushes) (λ m. safe_store_at T m n)) middle next (λ m w same. cc) after.entries in
        let all : middle ++ suc n ∷ [] ≡ links = sym (pushed ∙ ap (λ m. middle ++ m ∷ []) numbered) in
        linked-same T (suc n) (raise_all (waits_all lines flushes) (λ m. safe_store_at T m n)) (λ m. safe_store_at T m (suc n)) links told
        (subst (AreLinked T (suc n) (raise_all (waits_all lines flushes) (λ m. safe_store_at T m n))) all linked)

  pub fenced-words : AreWordsOf T (suc n) k.words_of_line lines k.words
  fenced-words = words-other T n k.words_of_line lines k.words (Fences t) next (λ m w e. cc) is.words

  pub fenced-flushed : AreFlushedOf lines (history T (suc n)) k.flushed.first.items k.flushed.others.lines.items
  fenced-flushed = stepped (λ h. AreFlushedOf lines h k.flushed.first.items k.flushed.others.lines.items) T n (Fences t) next (flushed-fence lines t (history T n) k.flushed.first.items k.flushed.others.lines.items is.flushed)

  pub fenced-waiting : (new : List (List OpenFlush)) → list_at t new ≡ [] → ((u : ℕ) → u ≢ t → list_at u new ≡ list_at u k.waiting) → AreWaiting lines (history T (suc n)) new
  fenced-waiting new own others = stepped (λ h. AreWaiting lines h new) T n (Fences t) next ((waits-on last_line_store).fence lines t (history T n) k.waiting new own others is.waiting)

  pub fence-kept : (flushes : List OpenFlush) (result : Bool) → flushes ≡ list_at t k.waiting → result ≡ some_raises (waits_all lines flushes) (λ m. safe_store_at T m n) → (result ≡ true) ↔ IsKept T (suc n)
  fence-kept flushes result e answer =
      let some : result ≡ some_raises (waiting t (history T n)) (λ m. safe_store_at T m n) = answer ∙ ap (λ ws. some_raises ws (λ m. safe_store_at T m n)) (ap (waits_all lines) e ∙ is.waiting.each t) in
      rw some (fence_kept_by_raise T t n next)

  pub fence-flags : (flushes : List OpenFlush) (old new : List Bool) → flushes ≡ list_at t k.waiting → MarksThese old (raisers (waits_all lines flushes) (λ m. safe_store_at T m n)) new → FlagsKept T n t old new
  fence-flags flushes old new e marks =
      let same : waits_all lines flushes ≡ waiting t (history T n) = ap (waits_all lines) e ∙ is.waiting.each t in
      flags_kept T t n old new next (subst (λ ws. MarksThese old (raisers ws (λ m. safe_store_at T m n)) new) same marks)

  fence-empty : (flushes : List OpenFlush) → flushes ≡ list_at t k.waiting → (length flushes ≡ 0) ↔ IsEmptyFence T (suc n)
  fence-empty flushes e = (there, back)
    where
      many : length flushes ≡ length (waiting t (history T n))
      many = ap length e ∙ sym (length-map (list_at t k.waiting) (waits lines)) ∙ ap length (is.waiting.each t)

      none : (ws : List Waiting) → length ws ≡ 0 → ws ≡ []
      none [] z = refl
      none (w ∷ ws) z = absurd (omega (arith, z))

      there : length flushes ≡ 0 → IsEmptyFence T (suc n)
      there z = (empty_fence_by_flag T t n next).1 (go (has_open_flush t (history T n)) refl)
        where
          go : (b : Bool) → has_open_flush t (history T n) ≡ b → b ≡ false
          go false same = refl
          go true same = absurd ((open-tells t (history T n)).0 same (none (waiting t (history T n)) (omega (arith, z, many))))

      back : IsEmptyFence T (suc n) → length flushes ≡ 0
      back empty = go (waiting t (history T n)) refl
        where
          go : (ws : List Waiting) → waiting t (history T n) ≡ ws → length flushes ≡ 0
          go [] same = many ∙ ap length same
          go (w ∷ ws) same = absurd (both_ways (has_open_flush t (history T n)) ((empty_fence_by_flag T t n next).0 empty) ((open-tells t (history T n)).1 (λ none_wait. let two : w ∷ ws ≡ [] = sym same ∙ none_wait in cc)))

  pub fence-empty-told : (flushes : List OpenFlush) (result : Bool) → flushes ≡ list_at t k.waiting → result ≡ (length flushes == 0) → (result ≡ true) ↔ IsEmptyFence T (suc n)
  fence-empty-told flushes result e answer =
      (λ so. (fence-empty flushes e).0 (eqb-true (length flushes) 0 (sym answer ∙ so)), λ empty. answer ∙ eq-eqb (length flushes) 0 ((fence-empty flushes e).1 empty))
