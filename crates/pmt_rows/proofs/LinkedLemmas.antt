-- What the entries of events tell of a trace, step by step.
use Rattle.std.proofs.Common.{◌≡◌, ℕ, zero, suc, ◌<◌, ◌≤◌, ◌⊎◌, inl, inr, Bool, true, false, ◌==◌, List, [], ◌∷◌, ◌++◌, refl, sym, ap, subst, ◌∙◌, eqb-true, arith}
use Rattle.std.specs.Prelude.{if◌then◌else◌, slice_index}
use Rattle.std.proofs.lemmas.Bool.{cases_lt, eqb-false}
use Rattle.std.proofs.lemmas.List.{get_or_append_left, get_or_push, length_push}
use Rattle.pmt_laws.specs.Prelude.{Written, Act, Stores, Flushes, Clflushes, Fences, Asserts, Recording, IsAct, act, Has}
use Rattle.pmt_laws.proofs.Histories.{act-unique, act-within, event-some}
use Rattle.pmt_safety.specs.Safety.{last_line_store_at, safe_store_at, IsSafeFrom}
use Rattle.pmt_safety.proofs.StoreLemmas.{IsLineStore, last-is_store, last-greatest, safe-is_store}
use Rattle.pmt_safety.proofs.SafetyLemmas.{safe-up_to, safe-later, safe_from_is_passed}
use Rattle.pmt_rows.specs.Known.{IsChain, with_place, AreLinked, NoneLinked, EachLinked, raised, RaiseLinks, PendingIsBelow}
use Rattle.pmt_rows.proofs.ChainLemmas.{length-with_place, placed-in, placed-out}

line_store-by_now : (T : Recording) (l n j : ℕ) → IsLineStore T l n j → j ≤ n
line_store-by_now T l n j (inl none) = omega arith
line_store-by_now T l n j (inr x) = x.2

-- the last store so far has come, and so has the last safe one
pub last-by_now : (T : Recording) (l n : ℕ) → last_line_store_at T l n ≤ n
last-by_now T l n = line_store-by_now T l n (last_line_store_at T l n) (last-is_store T l n)

pub safe-by_now : (T : Recording) (l n : ℕ) → safe_store_at T l n ≤ n
safe-by_now T l n = line_store-by_now T l n (safe_store_at T l n) (safe-is_store T l n)

-- no store is safe from a place before it
from-after : (T : Recording) (l j p : ℕ) (w : Written) → IsAct T j (Stores l w) → IsSafeFrom T l j p → j ≤ p
from-after T l j p w is from = omega (arith, ((safe_from_is_passed.passed T l j p w is).0 from).0, safe-by_now T l p)

pub none_linked : NoneLinked
none_linked T = record {
  many = refl;
  come = λ l. omega arith;
  passed = λ l j w by_now is safe. absurd (omega (arith, by_now, (act-within T j (Stores l w) is).0));
  pending = λ l i w within is later. absurd (omega arith);
  others = λ i a within is none. absurd (omega arith);
}

-- ---- One more event

module _ (T : Recording) (n entry : ℕ) (safe : ℕ → ℕ) (entries : List ℕ) (linked : AreLinked T n safe entries) where
  kept : (j : ℕ) → j ≤ n → slice_index (entries ++ entry ∷ []) j ≡ slice_index entries j
  kept j by_now = get_or_append_left entries (entry ∷ []) 0 j (omega (arith, by_now, linked.many))

  newest : slice_index (entries ++ entry ∷ []) (suc n) ≡ entry
  newest = get_or_push entries entry 0 (suc n) linked.many

  -- what is to be shown of the new one completes it
  one-more : (a : Act) → IsAct T (suc n) a → ((l : ℕ) (w : Written) → a ≡ Stores l w → entry ≡ last_line_store_at T l n) → (((l : ℕ) (w : Written) → a ≡ Stores l w → ⊥) → entry ≡ suc n) →
      AreLinked T (suc n) safe (entries ++ entry ∷ [])
  one-more a is store other = record {
    many = omega (arith, length_push entries entry, linked.many);
    come = λ l. omega (arith, linked.come l);
    passed = λ l j w by_now stores below.
        let before : j ≤ n = omega (arith, below, linked.come l) in
        subst (IsSafeFrom T l j) (sym (kept j before)) (linked.passed l j w before stores below);
    pending = λ l i w within stores later. elim (cases_lt i n) [
      | inl before ↦ kept (suc i) (omega arith) ∙ linked.pending l i w before stores later
      | inr last ↦
          let here : n ≡ i = omega arith in
          let new : IsAct T (suc n) (Stores l w) = subst (λ k. IsAct T (suc k) (Stores l w)) (sym here) stores in
          subst (λ k. slice_index (entries ++ entry ∷ []) (suc k) ≡ last_line_store_at T l k) here (newest ∙ store l w (act-unique T (suc n) a (Stores l w) is new))
    ];
    others = λ i b within event_ none. elim (cases_lt i n) [
      | inl before ↦ kept (suc i) (omega arith) ∙ linked.others i b before event_ none
      | inr last ↦
          let here : n ≡ i = omega arith in
          let new : IsAct T (suc n) b = subst (λ k. IsAct T (suc k) b) (sym here) event_ in
          subst (λ k. slice_index (entries ++ entry ∷ []) (suc k) ≡ suc k) here (newest ∙ other (λ l w same. none l w (act-unique T (suc n) b a new is ∙ same)))
    ];
  }

pub each_linked : EachLinked
each_linked = record {
  store = λ T n l w safe entries is linked. one-more T n (last_line_store_at T l n) safe entries linked (Stores l w) is
      (λ k x same. let line : l ≡ k = cc in ap (λ j. last_line_store_at T j n) line) (λ none. absurd (none l w refl));
  other = λ T n a safe entries is none linked. one-more T n (suc n) safe entries linked a is (λ l w same. absurd (none l w same)) (λ _. refl);
}

-- ---- A raise

-- A chain has the stores to its line above the last safe one, and no others.
record AreStores (T : Recording) (l low last : ℕ) (stores : List ℕ) : Type 0 where
  pub just : (k : ℕ) (w : Written) → IsAct T k (Stores l w) → low < k → k ≤ last → Has stores k
  pub only : (k : ℕ) → Has stores k → (low < k) × (k ≤ last) × ((w : Written) × IsAct T k (Stores l w))

module _ (T : Recording) (m l : ℕ) (safe : ℕ → ℕ) (entries : List ℕ) (linked : AreLinked T m safe entries) where
  -- the entry of a store that is not safe
  before : (i : ℕ) → suc i ≤ m → IsLineStore T l m (suc i) → safe l < suc i → slice_index entries (suc i) ≡ last_line_store_at T l i
  before i by_now (inl none) later = absurd (omega (arith, none))
  before i by_now (inr x) later = linked.pending l i x.0 (omega arith) x.1 later

  is-store : (j : ℕ) → safe l < j → IsLineStore T l m j → (w : Written) × IsAct T j (Stores l w)
  is-store j later (inl none) = absurd (omega (arith, later, none))
  is-store j later (inr x) = (x.0, x.1)

  last-by : (i : ℕ) → suc i ≤ m → IsLineStore T l m (last_line_store_at T l i)
  last-by i by_now = go (last-is_store T l i)
    where
      go : IsLineStore T l i (last_line_store_at T l i) → IsLineStore T l m (last_line_store_at T l i)
      go (inl none) = inl none
      go (inr x) = inr (x.0, x.1, omega (arith, x.2))

  -- there is one, up to a bound
  chain-to : (bound last : ℕ) → last ≤ bound → last ≤ m → IsLineStore T l m last → (stores : List ℕ) × IsChain entries (safe l) last stores
  chain-to zero last small by_now is = ([], omega arith)
  chain-to (suc bound) zero small by_now is = ([], omega arith)
  chain-to (suc bound) (suc i) small by_now is = elim (cases_lt (safe l) (suc i)) [
    | inr safe_now ↦ ([], safe_now)
    | inl later ↦
        let entry = before i by_now is later in
        let first = last-by_now T l i in
        let rest = chain-to bound (last_line_store_at T l i) (omega (arith, first)) (omega (arith, first)) (last-by i by_now) in
        (suc i ∷ rest.0, (refl, later, omega (arith, linked.many), omega (arith, entry, first), subst (λ k. IsChain entries (safe l) k rest.0) (sym entry) rest.1))
  ]

  -- and any one has these stores
  chain-stores : (last : ℕ) (stores : List ℕ) → last ≤ m → IsLineStore T l m last → IsChain entries (safe l) last stores → AreStores T l (safe l) last stores
  chain-stores last [] by_now is chain = record { just = λ k w store later by_then. absurd (omega (arith, chain)); only = λ k has. absurd has }
  chain-stores zero (j ∷ js) by_now is chain = absurd (omega (arith, chain.0, chain.1))
  chain-stores (suc i) (j ∷ js) by_now is chain =
      let later : safe l < suc i = omega (arith, chain.0, chain.1) in
      let entry = before i by_now is later in
      let first = last-by_now T l i in
      let P : ℕ → Type 0 = λ k. IsChain entries (safe l) (slice_index entries k) js in
      let at : IsChain entries (safe l) (slice_index entries (suc i)) js = subst P chain.0 chain.4 in
      let rest = chain-stores (last_line_store_at T l i) js (omega (arith, first)) (last-by i by_now) (subst (λ k. IsChain entries (safe l) k js) entry at) in
      record {
        just = λ k w store above by_then. elim (cases_lt i k) [
          | inl newest ↦ inl (omega (arith, chain.0))
          | inr older ↦ inr (rest.just k w store above (last-greatest T l i k w store older))
        ];
        only = λ k has. elim has [
          | inl same ↦ let here : suc i ≡ k = omega (arith, same, chain.0) in (omega (arith, later), omega arith, subst (λ n. (w : Written) × IsAct T n (Stores l w)) here (is-store (suc i) later is))
          | inr there ↦ let x = rest.only k there in (x.0, omega (arith, x.1, first), x.2)
        ];
      }

  -- of a store above the last safe one that the raise passes, the place is the one from which it is safe
  from-raise : (n j : ℕ) (w : Written) → IsAct T j (Stores l w) → safe_store_at T l n ≤ safe l → safe l < j → j ≤ safe_store_at T l (suc n) → IsSafeFrom T l j (suc n)
  from-raise n j w is old later new = (safe_from_is_passed.passed T l j (suc n) w is).1 (
    new,
    λ k early. elim (cases_lt (safe_store_at T l k) j) [
      | inl below ↦ below
      | inr by_then ↦ absurd (omega (arith, old, later, (safe-up_to T l n j w is).0 (safe-later T l k n j (omega arith) ((safe-up_to T l k j w is).1 by_then))))
    ],
  )

  module _ (n last : ℕ) (stores : List ℕ) (by_now : last ≤ m) (is : IsLineStore T l m last) (up : safe l ≤ last) (old : safe_store_at T l n ≤ safe l) (new : last ≤ safe_store_at T l (suc n))
      (chain : IsChain entries (safe l) last stores) where
    set : List ℕ
    set = with_place entries stores (suc n)

    are : AreStores T l (safe l) last stores
    are = chain-stores last stores by_now is chain

    -- an entry that is none of the chain's
    out : (k : ℕ) → (Has stores k → ⊥) → slice_index (with_place entries stores (suc n)) k ≡ slice_index entries k
    out k none = placed-out entries stores (suc n) k none

    -- no other line's store is in the chain
    other-line : (k j : ℕ) (w : Written) → (l ≡ k → ⊥) → IsAct T j (Stores k w) → Has stores j → ⊥
    other-line k j w other store has =
        let x = are.only j has in
        let same = act-unique T j (Stores l (x.2).0) (Stores k w) (x.2).1 store in
        other cc

    raise-links : AreLinked T m (raised l last safe) (with_place entries stores (suc n))
    raise-links = record {
      many = length-with_place entries stores (suc n) ∙ linked.many;
      come = λ k. come (l == k) k;
      passed = λ k j w here store. passed (l == k) k j w refl here store;
      pending = λ k i w within store. pending (l == k) k i w refl within store;
      others = λ i a within event_ none. out (suc i) (λ has. let x = are.only (suc i) has in none l (x.2).0 (act-unique T (suc i) a (Stores l (x.2).0) event_ (x.2).1)) ∙ linked.others i a within event_ none;
    }
      where
        come : (b : Bool) (k : ℕ) → (if b then last else safe k) ≤ m
        come true k = by_now
        come false k = linked.come k

        passed : (b : Bool) (k j : ℕ) (w : Written) → (l == k) ≡ b → j ≤ m → IsAct T j (Stores k w) → j ≤ (if b then last else safe k) → IsSafeFrom T k j (slice_index (with_place entries stores (suc n)) j)
        passed true k j w e here store below =
            let line : l ≡ k = eqb-true l k e in
            let own : IsAct T j (Stores l w) = subst (λ i. IsAct T j (Stores i w)) (sym line) store in
            subst (λ i. IsSafeFrom T i j (slice_index (with_place entries stores (suc n)) j)) line (elim (cases_lt (safe l) j) [
              | inl later ↦ subst (IsSafeFrom T l j) (sym (placed-in entries stores (suc n) j (omega (arith, linked.many)) (are.just j w own later below))) (from-raise n j w own old later (omega (arith, new, below)))
              | inr safe_now ↦ subst (IsSafeFrom T l j) (sym (out j (λ has. omega (arith, safe_now, (are.only j has).0)))) (linked.passed l j w here own safe_now)
            ])
        passed false k j w e here store below =
            subst (IsSafeFrom T k j) (sym (out j (other-line k j w (eqb-false l k e) store))) (linked.passed k j w here store below)

        pending : (b : Bool) (k i : ℕ) (w : Written) → (l == k) ≡ b → i < m → IsAct T (suc i) (Stores k w) → (if b then last else safe k) < suc i → slice_index (with_place entries stores (suc n)) (suc i) ≡ last_line_store_at T k i
        pending true k i w e within store later =
            let line : l ≡ k = eqb-true l k e in
            let above : safe k < suc i = subst (λ j. safe j < suc i) line (omega (arith, up, later)) in
            out (suc i) (λ has. omega (arith, later, (are.only (suc i) has).1)) ∙ linked.pending k i w within store above
        pending false k i w e within store later = out (suc i) (other-line k (suc i) w (eqb-false l k e) store) ∙ linked.pending k i w within store later

with-place : (T : Recording) (l m j : ℕ) → j ≤ m → ((j ≡ 0) ⊎ ((w : Written) × IsAct T j (Stores l w))) → IsLineStore T l m j
with-place T l m j by_now (inl none) = inl none
with-place T l m j by_now (inr x) = inr (x.0, x.1, by_now)

pub raise_links : RaiseLinks
raise_links = record {
  chain = λ T m l last safe entries linked by_now is. chain-to T m l safe entries linked last last (omega arith) by_now (with-place T l m last by_now is);
  links = λ T m n l last safe entries stores linked by_now is up old new chain.
      raise-links T m l safe entries linked n last stores by_now (with-place T l m last by_now is) up old new chain;
}

-- ---- Which events are stores that are not safe

pub pending_is_below : PendingIsBelow
pending_is_below T n zero entries linked some by_now within = absurd (omega arith)
pending_is_below T n (suc i) entries linked some by_now within = (there, back)
  where
    back : (l : ℕ) × (w : Written) × IsAct T (suc i) (Stores l w) × (safe_store_at T l n < suc i) → slice_index entries (suc i) < suc i
    back (l, w, store, later) = omega (arith, linked.pending l i w (omega arith) store later, last-by_now T l i)

    there : slice_index entries (suc i) < suc i → (l : ℕ) × (w : Written) × IsAct T (suc i) (Stores l w) × (safe_store_at T l n < suc i)
    there below =
        let e = event-some T i (omega arith) in
        go (act T.format e.0) (e.0, e.1, refl)
      where
        other : (a : Act) → IsAct T (suc i) a → ((l : ℕ) (w : Written) → a ≡ Stores l w → ⊥) → (l : ℕ) × (w : Written) × IsAct T (suc i) (Stores l w) × (safe_store_at T l n < suc i)
        other a is none = absurd (omega (arith, below, linked.others i a (omega arith) is none))

        go : (a : Act) → IsAct T (suc i) a → (l : ℕ) × (w : Written) × IsAct T (suc i) (Stores l w) × (safe_store_at T l n < suc i)
        go (Stores l w) is = elim (cases_lt (safe_store_at T l n) (suc i)) [
          | inl later ↦ (l, w, is, later)
          | inr safe_now ↦ absurd (omega (arith, below, from-after T l (suc i) (slice_index entries (suc i)) w is (linked.passed l (suc i) w by_now is safe_now)))
        ]
        go (Flushes t k) is = other (Flushes t k) is (λ l w same. cc)
        go (Clflushes k) is = other (Clflushes k) is (λ l w same. cc)
        go (Fences t) is = other (Fences t) is (λ l w same. cc)
        go Asserts is = other Asserts is (λ l w same. cc)
