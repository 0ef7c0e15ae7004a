-- The threads that have flushed a line, the first one and others: one more line, and what each act does.
use Rattle.std.proofs.Common.{◌≡◌, ◌≢◌, ℕ, suc, ◌⊎◌, ◌<◌, ◌≤◌, inl, inr, ◌==◌, Bool, true, false, List, [], ◌∷◌, ◌++◌, length, get_or, Some, refl, sym, ap, ◌∙◌, arith}
use Rattle.std.specs.Prelude.{◌&&◌, ◌||◌, not, if◌then◌else◌, slice_get, nat_eq, All}
use Rattle.std.proofs.lemmas.Bool.{eq-eqb, ne_eqb, cases_lt, cases_eq}
use Rattle.std.proofs.lemmas.List.{length-append, get_or_past, get_or_default}
use Rattle.std.proofs.lemmas.Option.{slice_get_within, same_Some}
use Rattle.pmt_laws.specs.Prelude.{Written, Act, Stores, Flushes, Clflushes, Fences, Asserts, last_flush, IsDistinct}
use Rattle.pmt_safety.specs.Safety.{last_line_store, has_flushed}
use Rattle.pmt_tables.specs.Slots.{IsSlotOf}
use Rattle.pmt_tables.proofs.ListLemmas.{one-slot, push-cases}
use Rattle.pmt_sweep.specs.declared.first_flush.FirstFlush.{FirstFlush}
use Rattle.pmt_sweep.specs.declared.flushed.SinceStore.{SinceStore}
use Rattle.pmt_sweep.specs.Known.{none_since, none_first, tells_first, tells_at, HasFirst, AreFlushedOf}

and-off : (b : Bool) → (b && false) ≡ false
and-off true = refl
and-off false = refl

-- a line without a flush is one that no thread has flushed
unflushed : (t l : ℕ) (h : List Act) → last_flush l h ≡ 0 → has_flushed t l h ≡ false
unflushed t l [] none = refl
unflushed t l (Stores k w ∷ h) none = let e = unflushed t l h none in go (not (k == l)) e
  where
    go : (b : Bool) → has_flushed t l h ≡ false → (b && has_flushed t l h) ≡ false
    go true e = e
    go false e = refl
unflushed t l (Flushes u k ∷ h) none = go (k == l) refl none (λ rest. unflushed t l h rest)
  where
    and-false : (b : Bool) → (b && false) ≡ false
    and-false true = refl
    and-false false = refl

    go : (b : Bool) → (k == l) ≡ b → (if b then suc (length h) else last_flush l h) ≡ 0 → (last_flush l h ≡ 0 → has_flushed t l h ≡ false) → (((u == t) && b) || has_flushed t l h) ≡ false
    go true e none rest = absurd (omega (arith, none))
    go false e none rest = rw (and-false (u == t)) (rest none)
unflushed t l (Clflushes k ∷ h) none = go (k == l) none (λ rest. unflushed t l h rest)
  where
    go : (b : Bool) → (if b then suc (length h) else last_flush l h) ≡ 0 → (last_flush l h ≡ 0 → has_flushed t l h ≡ false) → has_flushed t l h ≡ false
    go true none rest = absurd (omega (arith, none))
    go false none rest = rest none
unflushed t l (Fences u ∷ h) none = unflushed t l h none
unflushed t l (Asserts ∷ h) none = unflushed t l h none

-- nobody has flushed a line without a first flush
none-tells : (last t : ℕ) (s : SinceStore) → tells_first last none_first s t ≡ false
none-tells last t s = refl

-- one more line, which nobody has flushed
pub flushed-new : (lines : List ℕ) (l : ℕ) (h : List Act) (flushed : List FirstFlush) (others : List SinceStore) → last_flush l h ≡ 0 → AreFlushedOf lines h flushed others → AreFlushedOf (lines ++ l ∷ []) h flushed others
flushed-new lines l h flushed others none is = record {
  few = omega (arith, is.few, length-append lines (l ∷ []));
  by_now = is.by_now;
  each = λ k p t at small. elim (push-cases lines l k p at) [
    | inl before ↦ is.each k p t before small
    | inr last ↦
        let past : get_or flushed p none_first ≡ none_first = get_or_past flushed p none_first (omega (arith, is.few, last.0)) in
        ap (λ s. tells_first (last_line_store k h) s (get_or others p none_since) t) past ∙ none-tells (last_line_store k h) t (get_or others p none_since) ∙ sym (ap (λ m. has_flushed t m h) (sym last.1) ∙ unflushed t l h none)
  ];
}

-- what is known of a slot came with an earlier event
since-by : (h : List Act) (flushed : List FirstFlush) (p : ℕ) → All (λ (s : FirstFlush). s.store ≤ length h) flushed → (get_or flushed p none_first).store ≤ length h
since-by h flushed p by_now = elim (cases_lt p (length flushed)) [
  | inl within ↦ by_now p none_first within
  | inr past ↦ let e : get_or flushed p none_first ≡ none_first = get_or_past flushed p none_first past in rw e (omega arith)
]

-- a store to a line makes what is known of it past
pub flushed-store : (lines : List ℕ) (l : ℕ) (w : Written) (h : List Act) (flushed : List FirstFlush) (others : List SinceStore) → AreFlushedOf lines h flushed others → AreFlushedOf lines (Stores l w ∷ h) flushed others
flushed-store lines l w h flushed others is = record {
  few = is.few;
  by_now = λ p d within. let old = is.by_now p d within in omega (arith, old);
  each = λ k p t at small. go k p t (l == k) refl (is.each k p t at small);
}
  where
    go : (k p t : ℕ) (b : Bool) → (l == k) ≡ b → tells_at (last_line_store k h) flushed others p t ≡ has_flushed t k h →
        tells_at (if b then suc (length h) else last_line_store k h) flushed others p t ≡ (not b && has_flushed t k h)
    go k p t true same old =
        let by = since-by h flushed p is.by_now in
        let differ : ((get_or flushed p none_first).store == suc (length h)) ≡ false = ne_eqb (get_or flushed p none_first).store (suc (length h)) (λ e. omega (arith, e, by)) in
        rw (differ, and-off (not ((get_or flushed p none_first).thread == 0))) refl
    go k p t false other old = old

-- a clflush, a fence and an assertion leave all
pub flushed-clflush : (lines : List ℕ) (l : ℕ) (h : List Act) (flushed : List FirstFlush) (others : List SinceStore) → AreFlushedOf lines h flushed others → AreFlushedOf lines (Clflushes l ∷ h) flushed others
flushed-clflush lines l h flushed others is = record { few = is.few; by_now = λ p d within. let old = is.by_now p d within in omega (arith, old); each = is.each }

pub flushed-fence : (lines : List ℕ) (t : ℕ) (h : List Act) (flushed : List FirstFlush) (others : List SinceStore) → AreFlushedOf lines h flushed others → AreFlushedOf lines (Fences t ∷ h) flushed others
flushed-fence lines t h flushed others is = record { few = is.few; by_now = λ p d within. let old = is.by_now p d within in omega (arith, old); each = is.each }

pub flushed-assertion : (lines : List ℕ) (h : List Act) (flushed : List FirstFlush) (others : List SinceStore) → AreFlushedOf lines h flushed others → AreFlushedOf lines (Asserts ∷ h) flushed others
flushed-assertion lines h flushed others is = record { few = is.few; by_now = λ p d within. let old = is.by_now p d within in omega (arith, old); each = is.each }

-- ---- A flush

last-by : (l : ℕ) (h : List Act) → last_line_store l h ≤ length h
last-by l [] = omega arith
last-by l (Stores k w ∷ h) = go (k == l) (last-by l h)
  where
    go : (b : Bool) → last_line_store l h ≤ length h → (if b then suc (length h) else last_line_store l h) ≤ suc (length h)
    go true old = omega arith
    go false old = omega (arith, old)
last-by l (Flushes t k ∷ h) = let old = last-by l h in omega (arith, old)
last-by l (Clflushes k ∷ h) = let old = last-by l h in omega (arith, old)
last-by l (Fences t ∷ h) = let old = last-by l h in omega (arith, old)
last-by l (Asserts ∷ h) = let old = last-by l h in omega (arith, old)

and-on : (b : Bool) → (b && true) ≡ b
and-on true = refl
and-on false = refl

pub flushed-flush : (lines : List ℕ) (t l slot store : ℕ) (h : List Act) (old : List FirstFlush) (others : List SinceStore) (new : List FirstFlush) (then_others : List SinceStore) → IsDistinct nat_eq lines → IsSlotOf l slot lines → store ≡ last_line_store l h → HasFirst slot store t old others new then_others → AreFlushedOf lines h old others →
    AreFlushedOf lines (Flushes t l ∷ h) new then_others
flushed-flush lines t l slot store h old others new then_others once at e has is = record {
  few = omega (arith, has.many, is.few, slice_get_within lines slot l at);
  by_now = λ p d within. let le = store-at p (cases_eq p slot) in omega (arith, le, ap (λ (s : FirstFlush). s.store) (get_or_default new p d none_first within));
  each = λ k p u there small. each k p u there small (cases_eq p slot);
}
  where
    store-at : (p : ℕ) → (p ≡ slot) ⊎ (p ≢ slot) → (get_or new p none_first).store ≤ length h
    store-at p (inl same) =
        let here : (get_or new p none_first).store ≡ store = ap (λ q. (get_or new q none_first).store) same ∙ has.since in
        let le = last-by l h in
        omega (arith, here, e, le)
    store-at p (inr other) = let same = (has.kept p other).store in let by = since-by h old p is.by_now in omega (arith, same, by)

    own : (u : ℕ) → u < 256 → tells_at (last_line_store l h) new then_others slot u ≡ (((t == u) && (l == l)) || has_flushed u l h)
    own u small =
        let on : ((t == u) && (l == l)) ≡ (t == u) = ap (λ b. (t == u) && b) (eq-eqb l l refl) ∙ and-on (t == u) in
        ap (λ m. tells_at m new then_others slot u) (sym e) ∙ has.own u small ∙ ap (λ m. (t == u) || tells_at m old others slot u) e ∙ ap (λ b. (t == u) || b) (is.each l slot u at small)
        ∙ ap (λ b. b || has_flushed u l h) (sym on)

    each : (k p u : ℕ) → IsSlotOf k p lines → u < 256 → (p ≡ slot) ⊎ (p ≢ slot) → tells_at (last_line_store k h) new then_others p u ≡ (((t == u) && (l == k)) || has_flushed u k h)
    each k p u there small (inl same) =
        let line : k ≡ l = same_Some k l (sym there ∙ ap (slice_get lines) same ∙ at) in
        rw (same, line) (own u small)
    each k p u there small (inr other) =
        let apart : (l == k) ≡ false = ne_eqb l k (λ same. other (one-slot lines k p slot once there (at ∙ ap Some same))) in
        let off : ((t == u) && (l == k)) ≡ false = ap (λ b. (t == u) && b) apart ∙ and-off (t == u) in
        (has.kept p other).tells (last_line_store k h) u small ∙ is.each k p u there small ∙ ap (λ b. b || has_flushed u k h) (sym off)
