-- The entries of safe stores: they rise with the stores of a line, and none lies before its store.
use Rattle.std.proofs.Common.{◌≡◌, ℕ, ◌<◌, ◌≤◌, inl, inr, Option, Some, None, unwrap_or, List, sym, ap, subst, refl, arith}
use Rattle.std.specs.Prelude.{slice_index}
use Rattle.std.proofs.lemmas.Bool.{cases_lt}
use Rattle.pmt_laws.specs.Prelude.{Written, line_of, Stores, Recording, IsTrace, IsAct, history, last_store_number}
use Rattle.pmt_laws.proofs.Histories.{act-within}
use Rattle.pmt_laws.proofs.OverwrittenLemmas.{last_store_number-is}
use Rattle.pmt_safety.specs.Safety.{safe_store_at}
use Rattle.pmt_safety.proofs.SafetyLemmas.{safe_from_is_passed}
use Rattle.pmt_safety.proofs.StoreLemmas.{safe-is_store}
use Rattle.pmt_rows.specs.Known.{AreLinkedAt}
use Rattle.pmt_tables.specs.Lasts.{last_number}
use Rattle.pmt_tables.proofs.LineLemmas.{writes-line}
use Rattle.pmt_sweep.specs.Judged.{no_place}

-- The last store to the byte at b.
pub record IsLastAt (T : Recording) (n b : ℕ) : Type 0 where
  pub what : Written
  pub is_store : IsAct T (last_number T n b) (Stores (line_of T.format b) what)
  pub by_now : last_number T n b ≤ n
  pub small : last_number T n b < no_place

pub last-at : (T : Recording) (n b : ℕ) → IsTrace T → 0 < last_number T n b → IsLastAt T n b
last-at T n b trace some = go (last_store_number b (history T n)) refl
  where
    go : (o : Option ℕ) → last_store_number b (history T n) ≡ o → IsLastAt T n b
    go None e = absurd (omega (arith, some, ap (λ x. unwrap_or x 0) e))
    go (Some j) e =
        let told : last_number T n b ≡ j = ap (λ x. unwrap_or x 0) e in
        let it = last_store_number-is T b n j e in
        let line : it.line ≡ line_of T.format b = sym (writes-line T j it.line it.what b trace it.is_store it.writes_it) in
        let within = act-within T j (Stores it.line it.what) it.is_store in
        record {
          what = it.what;
          is_store = subst (λ i. IsAct T i (Stores (line_of T.format b) it.what)) (sym told) (subst (λ l. IsAct T j (Stores l it.what)) line it.is_store);
          by_now = omega (arith, told, it.by_now);
          small = omega (arith, told, within.1, trace.few);
        }

module _ (T : Recording) (n l : ℕ) (entries : List ℕ) (linked : AreLinkedAt T n entries) where
  -- no store is safe before it comes
  pub entry-after : (j : ℕ) (w : Written) → IsAct T j (Stores l w) → j ≤ n → j ≤ safe_store_at T l n → j ≤ slice_index entries j
  entry-after j w is by_now safe =
      let from = (safe_from_is_passed.passed T l j (slice_index entries j) w is).0 (linked.passed l j w by_now is safe) in
      elim (safe-is_store T l (slice_index entries j)) [
        | inl none ↦ omega (arith, from.0, none)
        | inr x ↦ omega (arith, from.0, x.2)
      ]

  -- a later store is safe no earlier
  pub entries-rise : (i j : ℕ) (v w : Written) → IsAct T i (Stores l v) → IsAct T j (Stores l w) → i ≤ j → j ≤ n → j ≤ safe_store_at T l n → slice_index entries i ≤ slice_index entries j
  entries-rise i j v w one two order by_now safe =
      let first = (safe_from_is_passed.passed T l i (slice_index entries i) v one).0 (linked.passed l i v (omega (arith, order, by_now)) one (omega (arith, order, safe))) in
      let second = (safe_from_is_passed.passed T l j (slice_index entries j) w two).0 (linked.passed l j w by_now two safe) in
      elim (cases_lt (slice_index entries j) (slice_index entries i)) [
        | inl before ↦ absurd (omega (arith, first.1 (slice_index entries j) before, second.0, order))
        | inr after ↦ after
      ]
