-- What one flush does at its thread's fence.
use Rattle.std.proofs.Common.{◌≡◌, ℕ, zero, suc, ◌-◌, ◌<◌, ◌≤◌, Bool, true, false, ◌==◌, List, [], ◌∷◌, length, max, drop, set, refl, sym, ap, subst, ◌∙◌, arith, get_or, eqb-true}
use Rattle.std.specs.Prelude.{nat_lt, ◌||◌, slice_index_or, if◌then◌else◌}
use Rattle.std.proofs.lemmas.Bool.{ltb-true}
use Rattle.std.proofs.lemmas.List.{drop_all}
use Rattle.std.proofs.lemmas.Option.{slice_get-get_or}
use Rattle.pmt_laws.specs.Prelude.{Recording, history, last_flush}
use Rattle.pmt_tables.specs.Flags.{MarksThese}
use Rattle.pmt_tables.proofs.MarkLemmas.{marks-nothing, marks-one}
use Rattle.pmt_safety.specs.Safety.{last_line_store, safe_store_at}
use Rattle.pmt_rows.specs.Known.{IsChain, with_place, raised, AreRows, IsKnownWith}
use Rattle.pmt_rows.proofs.LinkedLemmas.{raise_links}
use Rattle.pmt_tables.specs.Slots.{IsSlotOf}
use Rattle.pmt_rows.specs.declared.rows.Rows.{Rows}
use Rattle.pmt_rows.proofs.RowLemmas.{rows-same}
use Rattle.pmt_rows.proofs.WaitingLemmas.{raise-max}
use Rattle.pmt_rows.specs.declared.open.OpenFlush.{OpenFlush}
use Rattle.pmt_rows.specs.Waiting.{Waiting, waits, raise_all, raise_one, IsAtFence, IsRaisable, raisers, some_raises, waits_all}

below-true : (a b : ℕ) → a < b → nat_lt a b ≡ true
below-true a b h = go (nat_lt a b) refl
  where
    go : (t : Bool) → nat_lt a b ≡ t → t ≡ true
    go true e = refl
    go false e = let le : b ≤ a = grind (arith, e) in absurd (omega (arith, h, le))

below-false : (a b : ℕ) → b ≤ a → nat_lt a b ≡ false
below-false a b h = go (nat_lt a b) refl
  where
    go : (t : Bool) → nat_lt a b ≡ t → t ≡ false
    go true e = let lt : a < b = ltb-true a b e in absurd (omega (arith, h, lt))
    go false e = refl

-- whether a flush raises its line
pub rises-not : (a b read : ℕ) → read ≡ a → b ≤ read → false ≡ nat_lt a b
rises-not a b read e low = sym (below-false a b (omega (arith, e, low)))

pub rises-so : (a b read : ℕ) → read ≡ a → read < b → true ≡ nat_lt a b
rises-so a b read e up = sym (below-true a b (omega (arith, e, up)))

-- the line of a flush
abbrev pub line_in : List ℕ → OpenFlush → ℕ
line_in lines f = slice_index_or lines f.slot 0

pub raise-up : (w : Waiting) (safe : ℕ → ℕ) → nat_lt (safe w.line) w.store ≡ true → raise_one w safe ≡ raised w.line w.store safe
raise-up w safe up = rw up refl

pub raise-stays : (w : Waiting) (safe : ℕ → ℕ) → nat_lt (safe w.line) w.store ≡ false → raise_one w safe ≡ safe
raise-stays w safe stays = rw stays refl

pub rows-raised : (lines : List ℕ) (last safe flush : ℕ → ℕ) (w : Waiting) (r : Rows) → AreRows lines last (raised w.line (max (safe w.line) w.store) safe) flush r → AreRows lines last (raise_one w safe) flush r
rows-raised lines last safe flush w r is =
    rows-same lines last (raised w.line (max (safe w.line) w.store) safe) flush last (raise_one w safe) flush r
    (λ l. ap (λ s. record { last_store = last l; safe = s; last_flush = flush l }) (raise-max w safe l)) is

module _ (T : Recording) (lines : List ℕ) (n : ℕ) (safe : ℕ → ℕ) (rows : Rows) (entries : List ℕ) (f : OpenFlush) (at : IsAtFence T lines n safe rows entries) (able : IsRaisable T lines n f) where
  pub placed : IsSlotOf (line_in lines f) f.slot lines
  placed = slice_get-get_or lines f.slot 0 able.within

  -- the chain that the walk goes over
  chain : (stores : List ℕ) × IsChain entries (safe (line_in lines f)) f.store stores
  chain = raise_links.chain T n (line_in lines f) f.store safe entries at.entries able.by_now able.store

  pub chain-read : (read : ℕ) → read ≡ safe (line_in lines f) → (stores : List ℕ) × IsChain entries read f.store stores
  chain-read read e = (chain.0, subst (λ s. IsChain entries s f.store chain.0) (sym e) chain.1)

  module _ (new : Rows) (known : IsKnownWith lines (history T n) (raised (line_in lines f) (max (safe (line_in lines f)) f.store) safe) new) where
    rows-now : IsKnownWith lines (history T n) (raise_one (waits lines f) safe) new
    rows-now = rows-raised lines (λ l. last_line_store l (history T n)) safe (λ l. last_flush l (history T n)) (waits lines f) new known

    raised-at : (stores : List ℕ) → safe (line_in lines f) < f.store → IsChain entries (safe (line_in lines f)) f.store stores →
        IsKnownWith lines (history T n) (raised (line_in lines f) f.store safe) new → IsAtFence T lines n (raised (line_in lines f) f.store safe) new (with_place entries stores (suc n))
    raised-at stores up to is = record {
      rows = is;
      entries = raise_links.links T n n (line_in lines f) f.store safe entries stores at.entries able.by_now able.store (omega (arith, up)) (at.above (line_in lines f)) able.later to;
      above = λ k. go k (line_in lines f == k) refl;
    }
      where
        go : (k : ℕ) (b : Bool) → (line_in lines f == k) ≡ b → safe_store_at T k n ≤ (if b then f.store else safe k)
        go k true same = let e : line_in lines f ≡ k = eqb-true (line_in lines f) k same in subst (λ j. safe_store_at T j n ≤ f.store) e (omega (arith, up, at.above (line_in lines f)))
        go k false other = at.above k

    -- a flush that marks no later store than the last safe one leaves all as it is
    pub stays-at : (read : ℕ) → read ≡ safe (line_in lines f) → f.store ≤ read → IsAtFence T lines n (raise_one (waits lines f) safe) new entries
    stays-at read e low =
        let stays : raise_one (waits lines f) safe ≡ safe = raise-stays (waits lines f) safe (below-false (safe (line_in lines f)) f.store (omega (arith, e, low))) in
        subst (λ s. IsAtFence T lines n s new entries) (sym stays) (record { rows = subst (λ s. IsKnownWith lines (history T n) s new) stays rows-now; entries = at.entries; above = at.above })

    -- one that marks a later store raises its line
    pub raises-at : (xs : List ℕ) (number read : ℕ) → read ≡ safe (line_in lines f) → read < f.store → number ≡ suc n →
        ((stores : List ℕ) → IsChain entries read f.store stores → xs ≡ with_place entries stores number) → IsAtFence T lines n (raise_one (waits lines f) safe) new xs
    unfolding chain-read chain
    raises-at xs number read e up numbered walked =
        let over = chain-read read e in
        let walk : with_place entries chain.0 (suc n) ≡ xs = sym (walked over.0 over.1 ∙ ap (with_place entries chain.0) numbered) in
        let higher : safe (line_in lines f) < f.store = omega (arith, e, up) in
        let raises : raise_one (waits lines f) safe ≡ raised (line_in lines f) f.store safe = raise-up (waits lines f) safe (below-true (safe (line_in lines f)) f.store higher) in
        subst (λ ys. IsAtFence T lines n (raise_one (waits lines f) safe) new ys) walk
        (subst (λ s. IsAtFence T lines n s new (with_place entries chain.0 (suc n))) (sym raises) (raised-at chain.0 higher chain.1 (subst (λ s. IsKnownWith lines (history T n) s new) raises rows-now)))

-- ---- All of them

drop-next : {X : Type 0} (xs : List X) (k : ℕ) (x : X) → k < length xs → x ≡ get_or xs k x → drop k xs ≡ x ∷ drop (suc k) xs
drop-next [] k x within read = absurd (omega arith)
drop-next (y ∷ xs) zero x within read = ap (λ z. z ∷ xs) (sym read)
drop-next (y ∷ xs) (suc k) x within read = drop-next xs k x (omega arith) read

-- the flushes from the one before slot i on
pub from-before : (flushes : List OpenFlush) (i : ℕ) (x : OpenFlush) → 0 < i → i ≤ length flushes → x ≡ get_or flushes (i - 1) x → drop (i - 1) flushes ≡ x ∷ drop i flushes
from-before flushes i x some within read = let e : suc (i - 1) ≡ i = omega arith in drop-next flushes (i - 1) x (omega arith) read ∙ ap (λ k. x ∷ drop k flushes) e

-- they have raised the lines of rows, and the one before does
pub raising-next : (lines : List ℕ) (last safe flush : ℕ → ℕ) (new : Rows) (flushes : List OpenFlush) (i : ℕ) (x : OpenFlush) → 0 < i → i ≤ length flushes → x ≡ get_or flushes (i - 1) x →
    AreRows lines last (raised (line_in lines x) (max (raise_all (waits_all lines (drop i flushes)) safe (line_in lines x)) x.store) (raise_all (waits_all lines (drop i flushes)) safe)) flush new →
    AreRows lines last (raise_all (waits_all lines (drop (i - 1) flushes)) safe) flush new
raising-next lines last safe flush new flushes i x some within read is =
    subst (λ ws. AreRows lines last (raise_all (waits_all lines ws) safe) flush new) (sym (from-before flushes i x some within read))
    (rows-raised lines last (raise_all (waits_all lines (drop i flushes)) safe) flush (waits lines x) new is)

-- a flush is flagged where it raises its line
pub marks-raiser : (first kept : List Bool) (w : Waiting) (ws : List Waiting) (safe : ℕ → ℕ) → true ≡ nat_lt (raise_all ws safe w.line) w.store → 1 ≤ w.number → w.number ≤ length kept →
    MarksThese first (raisers ws safe) kept → MarksThese first (raisers (w ∷ ws) safe) (set kept (w.number - 1) true)
marks-raiser first kept w ws safe up some within marks =
    let here : raisers (w ∷ ws) safe ≡ w.number ∷ raisers ws safe = ap (λ b. if b then w.number ∷ raisers ws safe else raisers ws safe) (sym up) in
    subst (λ ks. MarksThese first ks (set kept (w.number - 1) true)) (sym here) (marks-one first kept (raisers ws safe) w.number some within marks)

pub marks-other : (first kept : List Bool) (w : Waiting) (ws : List Waiting) (safe : ℕ → ℕ) → false ≡ nat_lt (raise_all ws safe w.line) w.store → MarksThese first (raisers ws safe) kept → MarksThese first (raisers (w ∷ ws) safe) kept
marks-other first kept w ws safe low marks =
    let here : raisers (w ∷ ws) safe ≡ raisers ws safe = ap (λ b. if b then w.number ∷ raisers ws safe else raisers ws safe) (sym low) in
    subst (λ ks. MarksThese first ks kept) (sym here) marks

-- the flushes from slot i on have been decided
pub record IsDeciding (T : Recording) (lines : List ℕ) (n : ℕ) (safe : ℕ → ℕ) (r : Rows) (xs : List ℕ) (first kept : List Bool) (flushes : List OpenFlush) (i : ℕ) (rises : Bool) : Type 0 where
  pub at : IsAtFence T lines n (raise_all (waits_all lines (drop i flushes)) safe) r xs
  pub tells : rises ≡ some_raises (waits_all lines (drop i flushes)) safe
  pub flags : MarksThese first (raisers (waits_all lines (drop i flushes)) safe) kept

pub deciding-none : (T : Recording) (lines : List ℕ) (n : ℕ) (safe : ℕ → ℕ) (r : Rows) (xs : List ℕ) (kept : List Bool) (flushes : List OpenFlush) (i : ℕ) → i ≡ length flushes → IsAtFence T lines n safe r xs →
    IsDeciding T lines n safe r xs kept kept flushes i false
deciding-none T lines n safe r xs kept flushes i e at =
    let none : drop i flushes ≡ [] = drop_all i flushes (omega (arith, e)) in
    record {
      at = subst (λ ws. IsAtFence T lines n (raise_all (waits_all lines ws) safe) r xs) (sym none) at;
      tells = ap (λ ws. some_raises (waits_all lines ws) safe) (sym none);
      flags = subst (λ ws. MarksThese kept (raisers (waits_all lines ws) safe) kept) (sym none) (marks-nothing kept);
    }

pub deciding-next : (T : Recording) (lines : List ℕ) (n : ℕ) (safe : ℕ → ℕ) (r new : Rows) (xs ys : List ℕ) (first kept marked : List Bool) (flushes : List OpenFlush) (i : ℕ) (rises answer now : Bool) (x : OpenFlush) → 0 < i → i ≤ length flushes →
    x ≡ get_or flushes (i - 1) x → IsDeciding T lines n safe r xs first kept flushes i rises → IsAtFence T lines n (raise_one (waits lines x) (raise_all (waits_all lines (drop i flushes)) safe)) new ys →
    answer ≡ nat_lt (raise_all (waits_all lines (drop i flushes)) safe (line_in lines x)) x.store → now ≡ (answer || rises) → MarksThese first (raisers (waits_all lines (x ∷ drop i flushes)) safe) marked →
    IsDeciding T lines n safe new ys first marked flushes (i - 1) now
deciding-next T lines n safe r new xs ys first kept marked flushes i rises answer now x some within read is at says told flags =
    let next = from-before flushes i x some within read in
    record {
      at = subst (λ ws. IsAtFence T lines n (raise_all (waits_all lines ws) safe) new ys) (sym next) at;
      tells = told ∙ ap (λ b. b || rises) says ∙ ap (λ b. nat_lt (raise_all (waits_all lines (drop i flushes)) safe (line_in lines x)) x.store || b) is.tells ∙ ap (λ ws. some_raises (waits_all lines ws) safe) (sym next);
      flags = subst (λ ws. MarksThese first (raisers (waits_all lines ws) safe) marked) (sym next) flags;
    }

pub deciding-all : (T : Recording) (lines : List ℕ) (n : ℕ) (safe : ℕ → ℕ) (r : Rows) (xs : List ℕ) (first kept : List Bool) (flushes : List OpenFlush) (i : ℕ) (rises : Bool) → i ≡ 0 →
    IsDeciding T lines n safe r xs first kept flushes i rises → IsDeciding T lines n safe r xs first kept flushes 0 rises
deciding-all T lines n safe r xs first kept flushes i rises e is = subst (λ k. IsDeciding T lines n safe r xs first kept flushes k rises) e is
