-- The last store to a byte, from the stores of the byte's line.
use Rattle.std.proofs.Common.{◌≡◌, ℕ, zero, suc, ◌-◌, ◌<◌, ◌≤◌, ◌⊎◌, inl, inr, true, false, List, ◌∷◌, length, Some, None, refl, sym, ap, subst, ◌∙◌, arith}
use Rattle.std.specs.Prelude.{◌&&◌, nat_le, nat_lt}
use Rattle.std.proofs.lemmas.Bool.{cases_Bool, cases_eq}
use Rattle.pmt_laws.specs.Prelude.{Written, line_of, Act, Stores, Flushes, Clflushes, Fences, Asserts, count, writes, Recording, IsTrace, IsAct, history, count_at, last_store, up_to_last}
use Rattle.pmt_laws.proofs.Histories.{history-act, history-step, act-unique}
use Rattle.pmt_laws.proofs.BoxLemmas.{count-store, count-store_other}
use Rattle.pmt_asserts.specs.declared.put.Put.{Put}
use Rattle.pmt_asserts.specs.Puts.{covers, put_at, last_in}
use Rattle.pmt_asserts.proofs.TraceLemmas.{ArePuts, put-at, puts-length, same-store, count_at-le_length, count_at-store}
use Rattle.pmt_lines.proofs.TraceLemmas.{writes-line}

-- What the first c stores of line l tell of the last one to the byte at b after a history, at the latest at place n.
pub data LastIs (T : Recording) (l : ℕ) (puts : List Put) (b n c : ℕ) (h : List Act) : Type 0 where
  NoLast : last_store b h ≡ None → last_in puts b c ≡ 0 → LastIs T l puts b n c h
  LastAt : (r : ℕ) → last_store b h ≡ Some (record { line = l; rank = suc r }) → last_in puts b c ≡ suc r → r < length puts → r < c →
      (put_at puts r).number ≤ n → up_to_last b h ≡ history T (put_at puts r).number → LastIs T l puts b n c h

-- one more store that doesn't write the byte
last_in-skips : (puts : List Put) (b c : ℕ) → covers (put_at puts c) b ≡ false → last_in puts b (suc c) ≡ last_in puts b c
unfolding last_in
last_in-skips puts b c h = rw h refl

-- one more store that writes it
pub last_in-takes : (puts : List Put) (b c : ℕ) → covers (put_at puts c) b ≡ true → last_in puts b (suc c) ≡ suc c
unfolding last_in
last_in-takes puts b c h = rw h refl

last_in-zero : (puts : List Put) (b : ℕ) → last_in puts b 0 ≡ 0
unfolding last_in
last_in-zero puts b = refl

-- a later place and the same last store
later-last : (T : Recording) (l : ℕ) (puts : List Put) (b n m c d : ℕ) (h g : List Act) → n ≤ m → c ≤ d → last_in puts b d ≡ last_in puts b c → last_store b g ≡ last_store b h → up_to_last b g ≡ up_to_last b h → LastIs T l puts b n c h → LastIs T l puts b m d g
later-last T l puts b n m c d h g later more in_same last_same past_same (NoLast unwritten unranked) = NoLast (last_same ∙ unwritten) (in_same ∙ unranked)
later-last T l puts b n m c d h g later more in_same last_same past_same (LastAt r some is within below by_now past) =
    LastAt r (last_same ∙ some) (in_same ∙ is) within (omega arith) (omega arith) (past_same ∙ past)

-- the store of an event covers what it writes
covers-writes : (T : Recording) (l n c : ℕ) (puts : List Put) (w : Written) (b : ℕ) → ArePuts T l 0 puts → IsAct T n (Stores l w) → count_at T l n ≡ suc c →
    (c < length puts) × ((put_at puts c).number ≡ n) × (covers (put_at puts c) b ≡ writes w b)
covers-writes T l n c puts w b are is counts =
    let within : c < length puts = omega (arith, counts, count_at-le_length T l n, puts-length T l 0 puts are) in
    let p = put-at T l 0 puts are c within in
    let rank : count_at T l (put_at puts c).number ≡ count_at T l n = omega (arith, p.1, counts) in
    let same = same-store T l (put_at puts c).number n (p.0).what w (p.0).is is rank in
    let act_same : Stores l (p.0).what ≡ Stores l w = act-unique T n (Stores l (p.0).what) (Stores l w) (subst (λ m. IsAct T m (Stores l (p.0).what)) same (p.0).is) is in
    let what : (p.0).what ≡ w = cc in
    (within, same, ap (λ a. nat_le a b && nat_lt (b - a) (put_at puts c).len) (sym (p.0).addr) ∙ ap (λ m. nat_le (p.0).what.addr b && nat_lt (b - (p.0).what.addr) m) (sym (p.0).len) ∙ ap (λ v. writes v b) what)

-- what a store doesn't write
skipped : (b k : ℕ) (w : Written) (h : List Act) → writes w b ≡ false → (last_store b (Stores k w ∷ h) ≡ last_store b h) × (up_to_last b (Stores k w ∷ h) ≡ up_to_last b h)
skipped b k w h free = (rw free refl, rw free refl)

-- what a store writes
taken : (b k : ℕ) (w : Written) (h : List Act) → writes w b ≡ true → (last_store b (Stores k w ∷ h) ≡ Some (record { line = k; rank = suc (count k h) })) × (up_to_last b (Stores k w ∷ h) ≡ Stores k w ∷ h)
taken b k w h hit = (rw hit refl, rw hit refl)

-- the last store after one more act
last-next :
    (T : Recording) (l : ℕ) (puts : List Put) (b n : ℕ) (a : Act) → IsTrace T → ArePuts T l 0 puts → line_of T.format b ≡ l → IsAct T (suc n) a →
    LastIs T l puts b n (count_at T l n) (history T n) → LastIs T l puts b (suc n) (count l (a ∷ history T n)) (a ∷ history T n)
last-next T l puts b n (Stores k w) trace are in_line is known = go (cases_eq l k)
  where
    h : List Act
    h = history T n

    other : (l ≡ k → ⊥) → writes w b ≡ false
    other ne = elim (cases_Bool (writes w b)) [ inl hit ↦ absurd (ne (sym in_line ∙ writes-line T (suc n) k w b trace is hit)) | inr free ↦ free ]

    same : l ≡ k → LastIs T l puts b (suc n) (suc (count_at T l n)) (Stores k w ∷ h)
    same e =
        let is' : IsAct T (suc n) (Stores l w) = subst (λ j. IsAct T (suc n) (Stores j w)) (sym e) is in
        let there = covers-writes T l (suc n) (count_at T l n) puts w b are is' (count_at-store T l n w is') in
        elim (cases_Bool (writes w b)) [
          | inl hit ↦
              let last = (taken b k w h hit).0 in
              LastAt (count_at T l n) (subst (λ j. last_store b (Stores k w ∷ h) ≡ Some (record { line = j; rank = suc (count j h) })) (sym e) last)
              (last_in-takes puts b (count_at T l n) (there.2 ∙ hit)) there.0 (omega arith) (omega (arith, there.1))
              ((taken b k w h hit).1 ∙ sym (history-act T n (Stores k w) is) ∙ ap (history T) (sym there.1))
          | inr free ↦
              let last = skipped b k w h free in
              later-last T l puts b n (suc n) (count_at T l n) (suc (count_at T l n)) h (Stores k w ∷ h) (omega arith) (omega arith) (last_in-skips puts b (count_at T l n) (there.2 ∙ free)) last.0 last.1 known
        ]

    go : (l ≡ k) ⊎ (l ≡ k → ⊥) → LastIs T l puts b (suc n) (count l (Stores k w ∷ h)) (Stores k w ∷ h)
    go (inl e) = subst (λ c. LastIs T l puts b (suc n) c (Stores k w ∷ h)) (sym (count-store l k w h e)) (same e)
    go (inr ne) =
        let last = skipped b k w h (other ne) in
        let c = count-store_other l k w h ne in
        later-last T l puts b n (suc n) (count_at T l n) (count l (Stores k w ∷ h)) h (Stores k w ∷ h) (omega arith) (omega (arith, c)) (ap (last_in puts b) c) last.0 last.1 known
last-next T l puts b n (Flushes t k) trace are in_line is known = later-last T l puts b n (suc n) (count_at T l n) (count_at T l n) (history T n) (Flushes t k ∷ history T n) (omega arith) (omega arith) refl refl refl known
last-next T l puts b n (Clflushes k) trace are in_line is known = later-last T l puts b n (suc n) (count_at T l n) (count_at T l n) (history T n) (Clflushes k ∷ history T n) (omega arith) (omega arith) refl refl refl known
last-next T l puts b n (Fences t) trace are in_line is known = later-last T l puts b n (suc n) (count_at T l n) (count_at T l n) (history T n) (Fences t ∷ history T n) (omega arith) (omega arith) refl refl refl known
last-next T l puts b n Asserts trace are in_line is known = later-last T l puts b n (suc n) (count_at T l n) (count_at T l n) (history T n) (Asserts ∷ history T n) (omega arith) (omega arith) refl refl refl known

-- the last store to a byte of a line, at each place
pub last-is : (T : Recording) (l : ℕ) (puts : List Put) (b n : ℕ) → IsTrace T → ArePuts T l 0 puts → line_of T.format b ≡ l → LastIs T l puts b n (count_at T l n) (history T n)
last-is T l puts b zero trace are in_line = NoLast refl (last_in-zero puts b)
last-is T l puts b (suc n) trace are in_line =
    let known = last-is T l puts b n trace are in_line in
    elim (history-step T n) [
      | inl x ↦ subst (λ g. LastIs T l puts b (suc n) (count l g) g) (sym (history-act T n x.0 x.1)) (last-next T l puts b n x.0 trace are in_line x.1 known)
      | inr x ↦ subst (λ g. LastIs T l puts b (suc n) (count l g) g) (sym x.1)
          (later-last T l puts b n (suc n) (count_at T l n) (count_at T l n) (history T n) (history T n) (omega arith) (omega arith) refl refl refl known)
    ]
