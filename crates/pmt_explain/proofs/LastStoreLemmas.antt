-- The last stores to the bytes of a range, store by store.
use Rattle.std.proofs.Common.{◌≡◌, ℕ, suc, ◌+◌, ◌-◌, ◌<◌, ◌≤◌, ◌⊎◌, inl, inr, Bool, true, false, List, ◌∷◌, length, max, min, Option, Some, refl, sym, ap, ◌∙◌, arith, get_or, set}
use Rattle.std.specs.Prelude.{if◌then◌else◌, unwrap_or, nat_le, nat_lt, slice_get}
use Rattle.std.proofs.Math.ListN.{length-set}
use Rattle.std.proofs.lemmas.List.{get_or-set_same, get_or-set_other}
use Rattle.std.proofs.lemmas.Bool.{cases_lt, cases_eq, and_parts, and_from, ltb-true, lt-ltb, leb-true, le-leb}
use Rattle.pmt_laws.specs.Prelude.{Event, Op, Store, Clwb, ClflushOpt, Clflush, Sfence, Mfence, IsPersist, IsOrderedBefore, Layout, Written, Act, writes, Recording, act_of, act, history, last_store_number}
use Rattle.pmt_laws.proofs.Histories.{history-suc, length-history}
use Rattle.pmt_explain.specs.LastStores.{AreLastStores, written_by}

-- the number is noted at the bytes from low to byte, and nothing else is changed
pub record IsNoted (first number low byte : ℕ) (old new : List ℕ) : Type 0 where
  pub size : length new ≡ length old
  pub written : (k : ℕ) → k < length old → low ≤ first + k → first + k < byte → get_or new k 0 ≡ number
  pub others : (k : ℕ) → k < length old → (first + k < low) ⊎ (byte ≤ first + k) → get_or new k 0 ≡ get_or old k 0

-- nothing is noted yet
pub noted-none : (first number low : ℕ) (old : List ℕ) → IsNoted first number low low old old
noted-none first number low old = record { size = refl; written = λ k within above below. absurd (omega arith); others = λ k within apart. refl }

-- one more byte
pub noted-next : (first number low byte : ℕ) (old new : List ℕ) → low ≤ byte → first ≤ byte → byte - first < length old → IsNoted first number low byte old new →
    IsNoted first number low (byte + 1) old (set new (byte - first) number)
noted-next first number low byte old new from inside within x = record {
  size = length-set new (byte - first) number ∙ x.size;
  written = λ k fits above below. elim (cases_eq k (byte - first)) [
    | inl same ↦ ap (λ j. get_or (set new (byte - first) number) j 0) same ∙ get_or-set_same new (byte - first) number 0 (omega (arith, x.size))
    | inr apart ↦ get_or-set_other new (byte - first) k number 0 apart ∙ x.written k fits above (omega arith)
  ];
  others = λ k fits apart. get_or-set_other new (byte - first) k number 0 (elim apart [ inl below ↦ λ e. absurd (omega arith) | inr above ↦ λ e. absurd (omega arith) ]) ∙ x.others k fits (elim apart [ inl below ↦ inl below | inr above ↦ inr (omega arith) ]);
}

-- all bytes of a store
pub noted-all : (first number low high byte : ℕ) (w : Written) (old new : List ℕ) → low ≡ max w.addr first → high ≡ min (w.addr + length w.bytes) (first + length old) →
    IsNoted first number low byte old new → low ≤ byte → high ≤ byte → (byte ≡ low) ⊎ (byte ≤ high) →
    (k : ℕ) → k < length old → get_or new k 0 ≡ (if writes w (first + k) then number else get_or old k 0)
noted-all first number low high byte w old new lowest highest x from upto end k fits = go (writes w (first + k)) refl
  where
    go : (t : Bool) → writes w (first + k) ≡ t → get_or new k 0 ≡ (if t then number else get_or old k 0)
    go true is =
        let both = and_parts (nat_le w.addr (first + k)) (nat_lt (first + k - w.addr) (length w.bytes)) is in
        let above = leb-true w.addr (first + k) both.0 in
        let below = ltb-true (first + k - w.addr) (length w.bytes) both.1 in
        x.written k fits (omega arith) (omega arith)
    go false is = elim (cases_lt (first + k) w.addr) [
      | inl before ↦ x.others k fits (inl (omega arith))
      | inr from_start ↦ elim (cases_lt (first + k) (w.addr + length w.bytes)) [
        | inl inside ↦
            let yes_both = and_from (nat_le w.addr (first + k)) (nat_lt (first + k - w.addr) (length w.bytes)) (le-leb w.addr (first + k) from_start) (lt-ltb (first + k - w.addr) (length w.bytes) (omega arith)) in
            cc
        | inr past ↦ elim end [
          | inl none ↦ elim (cases_lt (first + k) low) [ inl less ↦ x.others k fits (inl less) | inr more ↦ x.others k fits (inr (omega arith)) ]
          | inr some ↦ x.others k fits (inr (omega arith))
        ]
      ]
    ]

-- the last store to a byte, after one more event
pub last-number : (f : Layout) (t : ℕ) (op : Op) (b : ℕ) (h : List Act) → last_store_number b (act_of f t op ∷ h) ≡ (if written_by op b then Some (suc (length h)) else last_store_number b h)
last-number f t (Store w) b h = refl
last-number f t (Clwb a) b h = refl
last-number f t (ClflushOpt a) b h = refl
last-number f t (Clflush a) b h = refl
last-number f t Sfence b h = refl
last-number f t Mfence b h = refl
last-number f t (IsPersist r) b h = refl
last-number f t (IsOrderedBefore r q) b h = refl

-- a choice behind unwrap_or
unwrap-choice : (t : Bool) (m : ℕ) (o : Option ℕ) → unwrap_or (if t then Some m else o) 0 ≡ (if t then m else unwrap_or o 0)
unwrap-choice true m o = refl
unwrap-choice false m o = refl

-- after one more event
pub last-next : (T : Recording) (first n m : ℕ) (e : Event) (old new : List ℕ) → m ≡ suc n → slice_get T.events n ≡ Some e → n < length T.events → length new ≡ length old → AreLastStores T first n old →
    ((k : ℕ) → k < length old → get_or new k 0 ≡ (if written_by e.op (first + k) then m else get_or old k 0)) → AreLastStores T first m new
last-next T first n m e old new number is within size before noted k fits =
    let inside : k < length old = omega arith in
    let b = first + k in
    let h = history T n in
    let grown : history T m ≡ act T.format e ∷ h = ap (history T) number ∙ history-suc T n e is in
    let long : length h ≡ n = length-history T n (omega arith) in
    let told : unwrap_or (last_store_number b (history T m)) 0 ≡ (if written_by e.op b then suc (length h) else unwrap_or (last_store_number b h) 0) =
    ap (λ (g : List Act). unwrap_or (last_store_number b g) 0) grown ∙ ap (λ (o : Option ℕ). unwrap_or o 0) (last-number T.format e.thread e.op b h)
    ∙ unwrap-choice (written_by e.op b) (suc (length h)) (last_store_number b h) in
    let same : suc (length h) ≡ m = ap suc long ∙ sym number in
    noted k inside ∙ ap (λ (x : ℕ). if written_by e.op b then m else x) (before k inside)
    ∙ ap (λ (x : ℕ). if written_by e.op b then x else unwrap_or (last_store_number b h) 0) (sym same) ∙ sym told
