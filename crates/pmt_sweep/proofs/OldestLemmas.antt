-- Of lines the oldest of the last stores to their bytes, found once: it stays right while events come.
use Rattle.std.proofs.Common.{◌≡◌, ℕ, suc, ◌+◌, ◌*◌, ◌<◌, ◌≤◌, ◌⊎◌, inl, inr, Bool, true, false, List, [], ◌∷◌, ◌++◌, length, max, Option, Some, None, refl, sym, ap, subst, ◌∙◌, arith}
use Rattle.std.specs.Prelude.{if◌then◌else◌, unwrap_or}
use Rattle.std.proofs.lemmas.List.{length-append, get_or_past}
use Rattle.std.proofs.lemmas.Nat.{div-mul-add}
use Rattle.std.proofs.lemmas.Option.{slice_get_within, same_Some}
use Rattle.pmt_laws.specs.Prelude.{line_of, Act, Stores, Flushes, Clflushes, Fences, Asserts, Recording, IsTrace, IsAct, history, lines_of, has_line, with_line, last_store_number}
use Rattle.pmt_laws.proofs.Histories.{history-act, history-step}
use Rattle.pmt_laws.proofs.OverwrittenLemmas.{LastWriter, last_store_number-from, last_store_number-is, last_store_number-tells}
use Rattle.pmt_safety.specs.Safety.{last_line_store_at}
use Rattle.pmt_safety.proofs.StoreLemmas.{last-greatest, last-is_store}
use Rattle.pmt_tables.specs.Lasts.{IsLeastAbove, IsLastTo, last_number}
use Rattle.pmt_tables.specs.Slots.{IsSlotOf}
use Rattle.pmt_tables.proofs.LineLemmas.{writes-line}
use Rattle.pmt_tables.proofs.ListLemmas.{push-cases}
use Rattle.pmt_sweep.specs.Known.{last_in_line}
use Rattle.pmt_sweep.specs.declared.oldest.OldestStore.{OldestStore}
use Rattle.pmt_sweep.specs.Judged.{AreOldestAmong, AreOldestOf, IsKeptAt, IsOldestOf, none_found}

-- ---- The last stores to the bytes of a line stay until the next store to it

module _ (T : Recording) (n l j : ℕ) (trace : IsTrace T) (last : last_line_store_at T l n ≡ j) (by_now : j ≤ n) where
  since : (b : ℕ) → line_of T.format b ≡ l → last_number T j b ≡ last_number T n b
  since b here = go (last_store_number b (history T n)) refl (last_store_number b (history T j)) refl
    where
      go : (o : Option ℕ) → last_store_number b (history T n) ≡ o → (p : Option ℕ) → last_store_number b (history T j) ≡ p → last_number T j b ≡ last_number T n b
      go None e None then_e = ap (λ o. unwrap_or o 0) (then_e ∙ sym e)
      go None e (Some i) then_e =
          let never = subst (LastWriter T b n) e (last_store_number-tells T b n) in
          let it = last_store_number-is T b j i then_e in
          absurd (never i it.line it.what (omega (arith, it.by_now, by_now)) it.is_store it.writes_it)
      go (Some i) e p then_e =
          let it = last_store_number-is T b n i e in
          let line : it.line ≡ l = sym (writes-line T i it.line it.what b trace it.is_store it.writes_it) ∙ here in
          let first : i ≤ last_line_store_at T l n = last-greatest T l n i it.what (subst (λ m. IsAct T i (Stores m it.what)) line it.is_store) it.by_now in
          let was = last_store_number-from T b j i (record {
            line = it.line;
            what = it.what;
            is_store = it.is_store;
            by_now = omega (arith, first, last);
            writes_it = it.writes_it;
            last = λ k m w after before. it.last k m w after (omega (arith, before, by_now));
          }) in
          ap (λ o. unwrap_or o 0) (was ∙ sym e)

  pub in_line-since : (k : ℕ) → k < T.format.line_size → last_in_line T j l k ≡ last_in_line T n l k
  in_line-since k within = since (l * T.format.line_size + k) (div-mul-add l T.format.line_size k within)

least-same : (high x : ℕ) (f g : ℕ → ℕ) → ((k : ℕ) → k < high → f k ≡ g k) → IsLeastAbove 0 0 high f x → IsLeastAbove 0 0 high g x
least-same high x f g same is = record {
  reached = go is.reached;
  least = λ k from to some. let y = is.least k from to (omega (arith, some, same k to)) in (y.0, omega (arith, y.1, same k to));
}
  where
    go : (x ≡ 0) ⊎ ((0 < x) × IsLastTo 0 high f x) → (x ≡ 0) ⊎ ((0 < x) × IsLastTo 0 high g x)
    go (inl none) = inl none
    go (inr y) = inr (y.0, (y.1.0, y.1.1, y.1.2, sym (same y.1.0 y.1.2) ∙ y.1.3))

-- what was found is right while the last store to the line is the one for which it was found
pub oldest-now : (T : Recording) (n l : ℕ) (x : OldestStore) → IsTrace T → x.last_store ≡ last_line_store_at T l n → IsOldestOf T n l x → IsLeastAbove 0 0 T.format.line_size (last_in_line T n l) x.oldest
oldest-now T n l x trace last is = least-same T.format.line_size x.oldest (last_in_line T x.last_store l) (last_in_line T n l) (in_line-since T n l x.last_store trace (sym last) is.by_now) is.oldest

pub oldest-found : (T : Recording) (n l : ℕ) (x : OldestStore) → IsTrace T → x.last_store ≡ last_line_store_at T l n → IsLeastAbove 0 0 T.format.line_size (last_in_line T n l) x.oldest → IsOldestOf T n l x
oldest-found T n l x trace last is = record {
  by_now = by_now;
  oldest = least-same T.format.line_size x.oldest (last_in_line T n l) (last_in_line T x.last_store l) (λ k within. sym (in_line-since T n l x.last_store trace (sym last) by_now k within)) is;
}
  where
    by_now : x.last_store ≤ n
    by_now = elim (last-is_store T l n) [ inl none ↦ omega (arith, last, none) | inr y ↦ omega (arith, last, y.2) ]

-- ---- From event to event

none-right : (T : Recording) (n l : ℕ) → IsOldestOf T n l none_found
none-right T n l = record { by_now = omega arith; oldest = record { reached = inl refl; least = λ k from to some. absurd (omega (arith, some)) } }

pub oldest-start : (T : Recording) → AreOldestOf T 0 []
oldest-start T = record { few = omega arith; each = λ l p at. none-right T 0 l }

module _ (T : Recording) (n : ℕ) (found : List OldestStore) where
  line-more : (l : ℕ) (lines : List ℕ) → AreOldestAmong T n lines found → AreOldestAmong T n (with_line l lines) found
  line-more l lines are = go (has_line l lines)
    where
      go : (b : Bool) → AreOldestAmong T n (if b then lines else lines ++ l ∷ []) found
      go true = are
      go false = record {
        few = omega (arith, are.few, length-append lines (l ∷ []));
        each = λ k p at. elim (push-cases lines l k p at) [
          | inl before ↦ are.each k p before
          | inr last ↦ subst (IsOldestOf T n k) (sym (get_or_past found p none_found (omega (arith, are.few, last.0)))) (none-right T n k)
        ];
      }

  act-more : (a : Act) → AreOldestOf T n found → AreOldestAmong T n (lines_of (a ∷ history T n)) found
  act-more (Stores l w) are = line-more l (lines_of (history T n)) are
  act-more (Flushes t l) are = line-more l (lines_of (history T n)) are
  act-more (Clflushes l) are = line-more l (lines_of (history T n)) are
  act-more (Fences t) are = are
  act-more Asserts are = are

  pub oldest-on : AreOldestOf T n found → AreOldestOf T (suc n) found
  oldest-on are = elim (history-step T n) [
    | inl x ↦ subst (λ h. AreOldestAmong T (suc n) (lines_of h) found) (sym (history-act T n x.0 x.1)) (later (lines_of (x.0 ∷ history T n)) (act-more x.0 are))
    | inr x ↦ subst (λ h. AreOldestAmong T (suc n) (lines_of h) found) (sym x.1) (later (lines_of (history T n)) are)
  ]
    where
      later : (lines : List ℕ) → AreOldestAmong T n lines found → AreOldestAmong T (suc n) lines found
      later lines are = record { few = are.few; each = λ l p at. let it = are.each l p at in record { by_now = omega (arith, it.by_now); oldest = it.oldest } }

-- one more is found
pub oldest-kept : (T : Recording) (n l slot : ℕ) (x : OldestStore) (old new : List OldestStore) → IsSlotOf l slot (lines_of (history T n)) → IsOldestOf T n l x → length new ≤ max (length old) (slot + 1) → ((p : ℕ) → IsKeptAt slot x old new p) → AreOldestOf T n old →
    AreOldestOf T n new
oldest-kept T n l slot x old new here is few kept are = record {
  few = omega (arith, few, are.few, slice_get_within (lines_of (history T n)) slot l here);
  each = λ k p at. elim (kept p) [
    | inl same ↦ subst (IsOldestOf T n k) (sym same) (are.each k p at)
    | inr own ↦ let line : l ≡ k = same_Some l k (sym here ∙ subst (λ q. IsSlotOf k q (lines_of (history T n))) own.0 at) in subst (IsOldestOf T n k) (sym own.1) (subst (λ m. IsOldestOf T n m x) line is)
  ];
}
