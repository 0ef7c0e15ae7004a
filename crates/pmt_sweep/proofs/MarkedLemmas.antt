-- The entries of all lines' stores, line by line.
use Rattle.std.proofs.Common.{◌≡◌, ℕ, zero, suc, ◌+◌, ◌<◌, ◌≤◌, inl, inr, ◌==◌, ◌||◌, Bool, true, false, List, [], ◌∷◌, length, Some, refl, sym, ap, subst, ◌∙◌, eqb-true, arith}
use Rattle.std.specs.Prelude.{slice_get, slice_index}
use Rattle.std.proofs.lemmas.Bool.{cases_lt, false≢true}
use Rattle.std.proofs.lemmas.List.{length-map}
use Rattle.std.proofs.lemmas.Option.{slice_get_within}
use Rattle.pmt_laws.specs.Prelude.{Written, Act, Stores, Flushes, Clflushes, Fences, Asserts, Recording, IsAct, act, has_line, history, lines_of}
use Rattle.pmt_laws.proofs.Histories.{act-unique, act-within, event-some}
use Rattle.pmt_safety.specs.Safety.{last_line_store_at, safe_store_at, IsSafeFrom}
use Rattle.pmt_safety.proofs.SafetyLemmas.{safe-up_to, safe_from_is_passed}
use Rattle.pmt_safety.proofs.StoreLemmas.{last-greatest}
use Rattle.pmt_rows.proofs.LinkedLemmas.{safe-by_now}
use Rattle.pmt_tables.specs.Slots.{IsSlotOf}
use Rattle.pmt_tables.proofs.ListLemmas.{one-slot}
use Rattle.pmt_rows.specs.declared.rows.Row.{Row}
use Rattle.pmt_rows.specs.declared.rows.Rows.{Rows}
use Rattle.pmt_rows.specs.Known.{row_after}
use Rattle.pmt_sweep.specs.Entries.{AreEndsOf, IsLost, lost_entry, AreLostAfter, AreMarked, IsLineEnd, IsLineLostAfter, IsLineMarked}

-- the lines of a trace
abbrev pub all_lines : Recording → List ℕ
all_lines T = lines_of (history T (length T.events))

-- an event is a store to one line
pub same-line : (T : Recording) (k l j : ℕ) (v w : Written) → IsAct T j (Stores k v) → IsAct T j (Stores l w) → k ≡ l
same-line T k l j v w first second = let same = act-unique T j (Stores k v) (Stores l w) first second in cc

-- a line that is among them has a slot
line-placed : (l : ℕ) (lines : List ℕ) → has_line l lines ≡ true → (p : ℕ) × IsSlotOf l p lines
line-placed l [] has = absurd (false≢true has)
line-placed l (k ∷ lines) has = go (k == l) refl has (line-placed l lines)
  where
    go : (b : Bool) → (k == l) ≡ b → (b || has_line l lines) ≡ true → (has_line l lines ≡ true → (p : ℕ) × IsSlotOf l p lines) → (p : ℕ) × IsSlotOf l p (k ∷ lines)
    go true same has rest = (0, ap Some (eqb-true k l same))
    go false other has rest = let x = rest has in (suc x.0, x.1)

-- The lines at the first slots are marked.
pub record AreMarkedTo (T : Recording) (old new : List ℕ) (slot : ℕ) : Type 0 where
  pub many : length new ≡ length old
  pub own : (l p j : ℕ) → IsSlotOf l p (all_lines T) → p < slot → IsLost T l j → slice_index new j ≡ lost_entry T l j
  pub others : (j : ℕ) → ((l p : ℕ) → IsSlotOf l p (all_lines T) → p < slot → ¬ IsLost T l j) → slice_index new j ≡ slice_index old j

-- All lost stores to the lines at the first slots come after this event.
abbrev pub AreLostAfterTo : Recording → ℕ → ℕ → Type 0
AreLostAfterTo T slot before = (l p j : ℕ) → IsSlotOf l p (all_lines T) → p < slot → IsLost T l j → before < j

module _ (T : Recording) (rows : Rows) (old : List ℕ) (ends : AreEndsOf T (length T.events) rows old) where
  pub marked-none : AreMarkedTo T old old 0
  marked-none = record { many = refl; own = λ l p j at less lost. absurd (omega (arith, less)); others = λ j none. refl }

  pub many-rows : length rows.rows.items ≡ length (all_lines T)
  many-rows = ap length ends.rows.rows ∙ length-map (all_lines T) (row_after (λ l. safe_store_at T l (length T.events)) (history T (length T.events)))

  -- two slots of one store's lines are one
  one-line : (k l p q j : ℕ) → IsSlotOf k p (all_lines T) → IsSlotOf l q (all_lines T) → IsLost T k j → IsLost T l j → p ≡ q
  one-line k l p q j at there first second =
      let line = same-line T k l j first.what second.what first.is_store second.is_store in
      one-slot (all_lines T) l p q ends.rows.once (subst (λ m. IsSlotOf m p (all_lines T)) line at) there

  module _ (new : List ℕ) (slot l : ℕ) (at : IsSlotOf l slot (all_lines T)) (so_far : AreMarkedTo T old new slot) where
    pub line-ends : (row : Row) → row ≡ row_after (λ k. safe_store_at T k (length T.events)) (history T (length T.events)) l → IsLineEnd T l row new
    line-ends row is = record {
      ends = is;
      many = so_far.many ∙ ends.entries.many;
      pending = λ i lost.
          let within = act-within T (suc i) (Stores l lost.what) lost.is_store in
          so_far.others (suc i) (λ k p there less other. let same = one-line k l p slot (suc i) there at other lost in omega (arith, less, same))
          ∙ ends.entries.pending l i lost.what (omega (arith, within.1)) lost.is_store lost.later;
    }

    pub marked-next : (after : List ℕ) → IsLineMarked T l new after → AreMarkedTo T old after (slot + 1)
    marked-next after line = record {
      many = line.many ∙ so_far.many;
      own = own;
      others = λ j none. line.others j (λ lost. none l slot at (omega arith) lost) ∙ so_far.others j (λ k p there less. none k p there (omega (arith, less)));
    }
      where
        own : (k p j : ℕ) → IsSlotOf k p (all_lines T) → p < slot + 1 → IsLost T k j → slice_index after j ≡ lost_entry T k j
        own k p j there less lost = elim (cases_lt p slot) [
          | inl before ↦ line.others j (λ other. let same = one-line k l p slot j there at lost other in omega (arith, before, same)) ∙ so_far.own k p j there before lost
          | inr last ↦
              let same : p ≡ slot = omega (arith, less, last) in
              let here : Some k ≡ Some l = sym there ∙ ap (λ q. slice_get (all_lines T) q) same ∙ at in
              let own_line : l ≡ k = cc in
              subst (λ m. slice_index after j ≡ lost_entry T m j) own_line (line.own j (subst (λ m. IsLost T m j) (sym own_line) lost))
        ]

  -- one line more
  pub after-next : (slot l before own least : ℕ) → IsSlotOf l slot (all_lines T) → least ≤ before → least ≤ own → AreLostAfterTo T slot before → IsLineLostAfter T l own → AreLostAfterTo T (slot + 1) least
  after-next slot l before own least at first second so_far line k p j there less lost = elim (cases_lt p slot) [
    | inl earlier ↦ omega (arith, first, so_far k p j there earlier lost)
    | inr last ↦
        let same : p ≡ slot = omega (arith, less, last) in
        let here : Some k ≡ Some l = sym there ∙ ap (λ q. slice_get (all_lines T) q) same ∙ at in
        let own_line : k ≡ l = cc in
        omega (arith, second, line j (subst (λ m. IsLost T m j) own_line lost))
  ]

  module _ (new : List ℕ) (slot : ℕ) (all : length (all_lines T) ≤ slot) (so_far : AreMarkedTo T old new slot) where
    -- the line of a store has a slot
    placed : (l j : ℕ) (w : Written) → IsAct T j (Stores l w) → (p : ℕ) × IsSlotOf l p (all_lines T)
    placed l j w is = line-placed l (all_lines T) (go (has_line l (all_lines T)) refl)
      where
        go : (b : Bool) → has_line l (all_lines T) ≡ b → b ≡ true
        go true e = refl
        go false e =
            let within = act-within T j (Stores l w) is in
            let none : last_line_store_at T l (length T.events) ≡ 0 = ap (λ (r : Row). r.last_store) (ends.rows.others l e) in
            absurd (omega (arith, within.0, none, last-greatest T l (length T.events) j w is within.1))

    -- an event that is not lost has the entry that it had
    kept : (j : ℕ) → ((l : ℕ) → ¬ IsLost T l j) → slice_index new j ≡ slice_index old j
    kept j none = so_far.others j (λ l p at less. none l)

    none-lost : (l j : ℕ) (w : Written) → IsAct T j (Stores l w) → j ≤ safe_store_at T l (length T.events) → (k : ℕ) → ¬ IsLost T k j
    none-lost l j w is safe k lost =
        let line = same-line T k l j lost.what w lost.is_store is in
        let later : safe_store_at T l (length T.events) < j = subst (λ m. safe_store_at T m (length T.events) < j) line lost.later in
        omega (arith, later, safe)

    safe-from : (l j : ℕ) (w : Written) → IsAct T j (Stores l w) → j ≤ safe_store_at T l (length T.events) → IsSafeFrom T l j (slice_index new j)
    safe-from l j w is safe =
        let within = act-within T j (Stores l w) is in
        subst (IsSafeFrom T l j) (sym (kept j (none-lost l j w is safe))) (ends.entries.passed l j w within.1 is safe)

    -- its entry is the number of a place
    is-slot : (j : ℕ) → 1 ≤ j → j ≤ length T.events → ((l : ℕ) → ¬ IsLost T l j) → (1 ≤ slice_index new j) × (slice_index new j ≤ length T.events)
    is-slot zero some by_now none = absurd (omega (arith, some))
    is-slot (suc i) some by_now none = let e = event-some T i (omega (arith, by_now)) in go (act T.format e.0) (e.0, e.1, refl)
      where
        other : (a : Act) → IsAct T (suc i) a → ((l : ℕ) (w : Written) → a ≡ Stores l w → ⊥) → (1 ≤ slice_index new (suc i)) × (slice_index new (suc i) ≤ length T.events)
        other a is no_store =
            let own : slice_index new (suc i) ≡ suc i = kept (suc i) none ∙ ends.entries.others i a (omega (arith, by_now)) is no_store in
            (omega (arith, own), omega (arith, own, by_now))

        store : (l : ℕ) (w : Written) → IsAct T (suc i) (Stores l w) → (1 ≤ slice_index new (suc i)) × (slice_index new (suc i) ≤ length T.events)
        store l w is = elim (cases_lt (safe_store_at T l (length T.events)) (suc i)) [
          | inl later ↦ absurd (none l (record { what = w; is_store = is; later = later }))
          | inr safe ↦
              let from = safe-from l (suc i) w is safe in
              let passed = (safe_from_is_passed.passed T l (suc i) (slice_index new (suc i)) w is).0 from in
              let low : suc i ≤ slice_index new (suc i) = omega (arith, passed.0, safe-by_now T l (slice_index new (suc i))) in
              let high : slice_index new (suc i) ≤ length T.events = (safe_from_is_passed.from_then T l (suc i) (slice_index new (suc i)) (length T.events) w is from).0 ((safe-up_to T l (length T.events) (suc i) w is).1 safe) in
              (omega (arith, low), high)
        ]

        go : (a : Act) → IsAct T (suc i) a → (1 ≤ slice_index new (suc i)) × (slice_index new (suc i) ≤ length T.events)
        go (Stores l w) is = store l w is
        go (Flushes t k) is = other (Flushes t k) is (λ l w same. cc)
        go (Clflushes k) is = other (Clflushes k) is (λ l w same. cc)
        go (Fences t) is = other (Fences t) is (λ l w same. cc)
        go Asserts is = other Asserts is (λ l w same. cc)

    pub marked-all : AreMarked T new
    marked-all = record {
      trace = ends.trace;
      many = so_far.many ∙ ends.entries.many;
      lost = λ l j lost. let x = placed l j lost.what lost.is_store in so_far.own l x.0 j x.1 (omega (arith, slice_get_within (all_lines T) x.0 l x.1, all)) lost;
      others = is-slot;
      safe = safe-from;
    }

    pub after-all : (before : ℕ) → AreLostAfterTo T slot before → AreLostAfter T before
    after-all before so_far_after l j lost = let x = placed l j lost.what lost.is_store in so_far_after l x.0 j x.1 (omega (arith, slice_get_within (all_lines T) x.0 l x.1, all)) lost
