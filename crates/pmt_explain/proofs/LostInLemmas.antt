-- All last stores to bytes of a range that a crash loses.
use Rattle.std.proofs.Common.{◌≡◌, ◌↔◌, ℕ, ◌+◌, ◌-◌, ◌<◌, ◌≤◌, None, Some, ◌∙◌, inl, inr, Bool, true, false, eqb, List, [], ◌∷◌, ◌++◌, length, min, Contains, Option, refl, sym, ap, subst, arith, get_or}
use Rattle.std.specs.Prelude.{IsTrue, IsSorted, IsPermutation, unwrap_or, if◌then◌else◌}
use Rattle.std.specs.Ordering.{nat_cmp}
use Rattle.std.proofs.lemmas.Bool.{cases_lt, false≢true}
use Rattle.std.proofs.lemmas.List.Elements.{Contains-append_left, Contains-append_right, Contains-append_cases}
use Rattle.std.proofs.lemmas.List.Kept.{Contains-dedup_nat, Contains-from_dedup}
use Rattle.std.proofs.lemmas.List.Sorted.{Contains-permutation, IsPermutation-sym}
use Rattle.std.proofs.lemmas.Map.Keys.{IsStrictlyIncreasing-dedup}
use Rattle.pmt_explain.specs.Prelude.{Span, Act, Recording, history, count_at, last_store_number, Stores, IsStrictlyIncreasing, dedup, ByteStore, IsLastIn, IsLost}
use Rattle.pmt_laws.proofs.Histories.{act-within}
use Rattle.pmt_explain.specs.LastStores.{AreLastStores, AreLastIn}
use Rattle.pmt_explain.specs.Crashes.{IsLostAmong, AreLostAmong, IsLostIn, AreLostIn}
use Rattle.pmt_explain.proofs.CrashLemmas.{history-min, persisted-same}

-- where a last store to a byte of A stands in the list
record IsIndexed (A : Span) (last : List ℕ) (z : ByteStore) : Type 0 where
  pub index : ℕ
  pub below : index < length last
  pub byte : z.byte ≡ A.addr + index
  pub store : get_or last index 0 ≡ z.store

indexed : (T : Recording) (i : ℕ) (A : Span) (last : List ℕ) (z : ByteStore) → AreLastIn T i A last → IsLastIn T i A z → IsIndexed A last z
indexed T i A last z all x =
    let j = z.byte - A.addr in
    let byte : A.addr + j ≡ z.byte = omega (arith, x.inside.0) in
    let below : j < length last = omega (arith, x.inside.0, x.inside.1, all.size) in
    record {
      index = j;
      below = below;
      byte = sym byte;
      store = all.each j below ∙ ap (λ (b : ℕ). unwrap_or (last_store_number b (history T i)) 0) byte ∙ ap (λ (o : Option ℕ). unwrap_or o 0) x.last;
    }

-- a store in the list is the last one to its byte
told : (o : Option ℕ) (x : ℕ) → unwrap_or o 0 ≡ x → 1 ≤ x → o ≡ Some x
told None x e some = absurd (omega arith)
told (Some y) x e some = ap Some e

from-index : (T : Recording) (i : ℕ) (A : Span) (last : List ℕ) (j : ℕ) (z : ByteStore) → AreLastIn T i A last → j < length last → get_or last j 0 ≡ z.store → z.byte ≡ A.addr + j → 1 ≤ z.store → IsLastIn T i A z
from-index T i A last j z all below store byte some = record {
  inside = (omega arith, omega (arith, all.size));
  last = ap (λ (b : ℕ). last_store_number b (history T i)) byte ∙ told (last_store_number (A.addr + j) (history T i)) z.store (sym (all.each j below) ∙ store) some;
}

-- a lost store is an event
lost-some : (T : Recording) (n x : ℕ) (full : Option ℕ) → IsLost T n full x → 1 ≤ x
lost-some T n x full lost = (act-within T x (Stores lost.line lost.what) lost.is_store).0

-- the only element
only : (s x : ℕ) → Contains (s ∷ []) x → s ≡ x
only s x h = let e : h.0 ≡ 0 = omega (arith, h.1) in ap (λ k. get_or (s ∷ []) k x) (sym e) ∙ h.2

-- one more store, which stands at index k
among-more : (T : Recording) (n : ℕ) (full : Option ℕ) (last : List ℕ) (k x : ℕ) → IsLostAmong T n full last k x → IsLostAmong T n full last (k + 1) x
among-more T n full last k x y = record { index = y.index; below = omega (arith, y.below); store = y.store; is_lost = y.is_lost }

among-less : (T : Recording) (n : ℕ) (full : Option ℕ) (last : List ℕ) (k x : ℕ) (y : IsLostAmong T n full last (k + 1) x) → y.index < k → IsLostAmong T n full last k x
among-less T n full last k x y less = record { index = y.index; below = less; store = y.store; is_lost = y.is_lost }

among-lost : (T : Recording) (n : ℕ) (full : Option ℕ) (last : List ℕ) (k s : ℕ) (lost : List ℕ) → get_or last k 0 ≡ s → IsLost T n full s → AreLostAmong T n full last k lost → AreLostAmong T n full last (k + 1) (lost ++ s ∷ [])
among-lost T n full last k s lost at is old x = (
  λ h. elim (Contains-append_cases lost (s ∷ []) x h) [
    | inl before ↦ among-more T n full last k x ((old x).0 before)
    | inr here ↦ record { index = k; below = omega arith; store = at ∙ only s x here; is_lost = subst (IsLost T n full) (only s x here) is }
  ],
  λ y. elim (cases_lt y.index k) [
    | inl less ↦ Contains-append_left lost (s ∷ []) x ((old x).1 (among-less T n full last k x y less))
    | inr more ↦
        let e : y.index ≡ k = omega (arith, y.below) in
        let same : s ≡ x = sym at ∙ ap (λ j. get_or last j 0) (sym e) ∙ y.store in
        Contains-append_right lost (s ∷ []) x (subst (Contains (s ∷ [])) same (0, omega arith, refl))
  ],
)

among-kept : (T : Recording) (n : ℕ) (full : Option ℕ) (last : List ℕ) (k s : ℕ) (lost : List ℕ) → get_or last k 0 ≡ s → (IsLost T n full s → ⊥) → AreLostAmong T n full last k lost → AreLostAmong T n full last (k + 1) lost
among-kept T n full last k s lost at not old x = (
  λ h. among-more T n full last k x ((old x).0 h),
  λ y. elim (cases_lt y.index k) [
    | inl less ↦ (old x).1 (among-less T n full last k x y less)
    | inr more ↦
        let e : y.index ≡ k = omega (arith, y.below) in
        absurd (not (subst (IsLost T n full) (sym y.store ∙ ap (λ j. get_or last j 0) e ∙ at) y.is_lost))
  ],
)

pub among-next : (T : Recording) (n : ℕ) (full : Option ℕ) (last : List ℕ) (k s : ℕ) (lost new : List ℕ) (is : Bool) → get_or last k 0 ≡ s → IsTrue is ↔ IsLost T n full s → new ≡ (if is then lost ++ s ∷ [] else lost) →
    AreLostAmong T n full last k lost → AreLostAmong T n full last (k + 1) new
among-next T n full last k s lost new true at told pushed old = subst (AreLostAmong T n full last (k + 1)) (sym pushed) (among-lost T n full last k s lost at (told.0 refl) old)
among-next T n full last k s lost new false at told pushed old = subst (AreLostAmong T n full last (k + 1)) (sym pushed) (among-kept T n full last k s lost at (λ l. absurd (false≢true (told.1 l))) old)

-- a place after the last event is as that of the last one
lost-same : (T : Recording) (m n x : ℕ) (full : Option ℕ) → history T m ≡ history T n → IsLost T m full x → IsLost T n full x
lost-same T m n x full same lost = record { line = lost.line; what = lost.what; is_store = lost.is_store; missing = subst (λ p. p < count_at T lost.line x) (persisted-same T m n lost.line full same) lost.missing }

-- the lost ones of the last stores to bytes of A
lost-last : (T : Recording) (i m n x : ℕ) (A : Span) (full : Option ℕ) (last lost : List ℕ) → history T m ≡ history T n → AreLastIn T i A last → AreLostAmong T m full last (length last) lost →
    Contains lost x ↔ IsLostIn T i A n full x
lost-last T i m n x A full last lost same all among = (
  λ h.
      let y = (among x).0 h in
      record {
        byte = A.addr + y.index;
        is_last = from-index T i A last y.index (record { store = x; byte = A.addr + y.index }) all y.below y.store refl (lost-some T m x full y.is_lost);
        is_lost = lost-same T m n x full same y.is_lost;
      },
  λ z.
      let at = indexed T i A last (record { store = x; byte = z.byte }) all z.is_last in
      (among x).1 (record { index = at.index; below = at.below; store = at.store; is_lost = lost-same T n m x full (sym same) z.is_lost }),
)

-- of the place and the number by which they are the last ones, those of the last event at most are taken
last-in : (T : Recording) (j i : ℕ) (A : Span) (last : List ℕ) → history T j ≡ history T i → length last ≡ A.len → AreLastStores T A.addr j last → AreLastIn T i A last
last-in T j i A last same size each = record { size = size; each = λ k below. each k below ∙ ap (λ (h : List Act). unwrap_or (last_store_number (A.addr + k) h) 0) same }

-- sorted, and each once
pub lost-in : (T : Recording) (m n j i first : ℕ) (A : Span) (told full : Option ℕ) (last given lost sorted stores : List ℕ) →
    m ≡ min n (length T.events) → j ≡ min i (length T.events) → first ≡ A.addr → told ≡ full → length last ≡ A.len → AreLastStores T first j last → given ≡ last → AreLostAmong T m told given (length given) lost →
    IsPermutation lost sorted → IsSorted nat_cmp sorted → stores ≡ dedup eqb sorted → AreLostIn T i A n full stores
lost-in T m n j i first A told full last given lost sorted stores place number start line size each lent among moved ordered kept =
    let same : history T m ≡ history T n = ap (history T) place ∙ history-min T n in
    let now : history T j ≡ history T i = ap (history T) number ∙ history-min T i in
    let all = last-in T j i A last now size (subst (λ b. AreLastStores T b j last) start each) in
    let told_of : (x : ℕ) → Contains lost x ↔ IsLostIn T i A n full x = λ x. lost-last T i m n x A full last lost same all (subst (λ xs. AreLostAmong T m full xs (length xs) lost) lent (subst (λ o. AreLostAmong T m o given (length given) lost) line among)) in
    record {
      rising = subst IsStrictlyIncreasing (sym kept) (IsStrictlyIncreasing-dedup sorted ordered);
      each = λ x. (
        λ h. (told_of x).0 (Contains-permutation sorted lost x (IsPermutation-sym lost sorted moved) (Contains-from_dedup eqb sorted x (subst (λ xs. Contains xs x) kept h))),
        λ z. subst (λ xs. Contains xs x) (sym kept) (Contains-dedup_nat sorted x (Contains-permutation lost sorted x moved ((told_of x).1 z))),
      );
    }
