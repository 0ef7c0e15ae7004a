-- The last store to a byte, by its number.
use Rattle.std.proofs.Common.{◌≡◌, ℕ, zero, suc, ◌≤◌, ◌⊎◌, inl, inr, Bool, true, false, List, ◌∷◌, length, Option, None, Some, refl, sym, ap, subst, ◌∙◌, arith}
use Rattle.std.specs.Prelude.{if◌then◌else◌}
use Rattle.std.proofs.lemmas.Bool.Decides.{nat_tests}
use Rattle.pmt_laws.specs.Prelude.{Written, Act, Stores, writes, count, Recording, IsAct, history, count_at, last_store, up_to_last, last_store_number}
use Rattle.pmt_laws.proofs.Histories.{act-within, history-act, history-step, length-history}
use Rattle.pmt_reasons.proofs.CauseLemmas.{rank-store}

-- event x is the last one of the history h, by place n, that stores to the byte at b
pub record IsLastFound (T : Recording) (b n : ℕ) (h : List Act) (x : ℕ) : Type 0 where
  pub line : ℕ
  pub what : Written
  pub is_store : IsAct T x (Stores line what)
  pub by_now : x ≤ n
  pub store : last_store b h ≡ Some (record { line = line; rank = count_at T line x })
  pub past : up_to_last b h ≡ history T x

-- what the number of the last store tells
abbrev pub TellsLast : Recording → ℕ → ℕ → List Act → Option ℕ → Type 0
TellsLast T b n h None = last_store b h ≡ None
TellsLast T b n h (Some x) = IsLastFound T b n h x

-- another act is no store to the byte
last-later : (T : Recording) (b n : ℕ) (h g : List Act) (o : Option ℕ) → last_store b g ≡ last_store b h → up_to_last b g ≡ up_to_last b h → TellsLast T b n h o → TellsLast T b (suc n) g o
last-later T b n h g o same past none = grind (arith, nat_tests)

-- a store, to the byte or not
last-store : (T : Recording) (b n k : ℕ) (w : Written) → IsAct T (suc n) (Stores k w) → TellsLast T b n (history T n) (last_store_number b (history T n)) → (t : Bool) → writes w b ≡ t →
    TellsLast T b (suc n) (Stores k w ∷ history T n) (if t then Some (suc (length (history T n))) else last_store_number b (history T n))
last-store T b n k w is before true wrote =
    let number : suc (length (history T n)) ≡ suc n = ap suc (length-history T n (omega (arith, (act-within T (suc n) (Stores k w) is).1))) in
    let rank : suc (count k (history T n)) ≡ count_at T k (suc n) = sym (rank-store T k n w is) in
    subst (IsLastFound T b (suc n) (Stores k w ∷ history T n)) (sym number) (record {
      line = k;
      what = w;
      is_store = is;
      by_now = omega arith;
      store = ap (λ (s : Bool). if s then Some (record { line = k; rank = suc (count k (history T n)) }) else last_store b (history T n)) wrote ∙ ap (λ (r : ℕ). Some (record { line = k; rank = r })) rank;
      past = ap (λ (s : Bool). if s then Stores k w ∷ history T n else up_to_last b (history T n)) wrote ∙ sym (history-act T n (Stores k w) is);
    })
last-store T b n k w is before false other = grind (arith, nat_tests, last-later)

-- one more act
last-act : (T : Recording) (b n : ℕ) (a : Act) → IsAct T (suc n) a → TellsLast T b n (history T n) (last_store_number b (history T n)) →
    TellsLast T b (suc n) (a ∷ history T n) (last_store_number b (a ∷ history T n))
last-act T b n (Stores k w) is before = last-store T b n k w is before (writes w b) refl
last-act T b n a is before = last-later T b n (history T n) (a ∷ history T n) (last_store_number b (history T n)) refl refl before

-- the number of the last store tells which it is
pub last-at : (T : Recording) (b n : ℕ) → TellsLast T b n (history T n) (last_store_number b (history T n))
last-at T b zero = refl
last-at T b (suc n) = go (history-step T n) (last-at T b n)
  where
    go : ((a : Act) × IsAct T (suc n) a) ⊎ ((length T.events ≤ n) × (history T (suc n) ≡ history T n)) → TellsLast T b n (history T n) (last_store_number b (history T n)) →
        TellsLast T b (suc n) (history T (suc n)) (last_store_number b (history T (suc n)))
    go (inl x) before = subst (λ h. TellsLast T b (suc n) h (last_store_number b h)) (sym (history-act T n x.0 x.1)) (last-act T b n x.0 x.1 before)
    go (inr x) before =
        subst (λ h. TellsLast T b (suc n) h (last_store_number b h)) (sym x.1) (last-later T b n (history T n) (history T n) (last_store_number b (history T n)) refl refl before)

-- the last store, where its number is known
pub last-found : (T : Recording) (b n x : ℕ) → last_store_number b (history T n) ≡ Some x → IsLastFound T b n (history T n) x
last-found T b n x is = subst (TellsLast T b n (history T n)) is (last-at T b n)
