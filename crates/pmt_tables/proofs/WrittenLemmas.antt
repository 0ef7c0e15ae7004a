-- What words tell of a trace, step by step.
use Rattle.std.proofs.Common.{◌≡◌, ℕ, suc, ◌+◌, ◌-◌, ◌<◌, ◌≤◌, Bool, true, false, ◌∷◌, length, Option, Some, None, refl, sym, ap, subst, ◌∙◌, arith}
use Rattle.std.specs.Prelude.{if◌then◌else◌, unwrap_or, ◌↔◌}
use Rattle.std.proofs.lemmas.Bool.Decides.{nat_tests}
use Rattle.pmt_laws.specs.Prelude.{Written, Act, Stores, Flushes, Clflushes, Fences, Asserts, writes, Recording, IsAct, history, IsOverwritten, OverwritesBefore, last_store_number, last_flush}
use Rattle.pmt_laws.proofs.Histories.{act-unique, act-within, history-act, length-history}
use Rattle.pmt_laws.proofs.OverwrittenLemmas.{overwritten_by_numbers, last_store_number-is}
use Rattle.pmt_tables.specs.Lasts.{is_in, IsLastTo, last_number, IsWordAt, WritesIn, WordsGoOn, OverwrittenByWord}
use Rattle.pmt_tables.proofs.LineLemmas.{byte-from_writes, writes-line}

-- which bytes of the word the store writes
writes-in : (a low high k : ℕ) (w : Written) → WritesIn a w low high → writes w (a + k) ≡ is_in low high k
writes-in a low high k w it = grind (arith, nat_tests, it.from, it.to)

go-on-store : (T : Recording) (n l a low high : ℕ) (w : Written) (last : ℕ → ℕ) → IsAct T (suc n) (Stores l w) → WritesIn a w low high → IsWordAt T n a last →
    IsWordAt T (suc n) a (λ k. if is_in low high k then suc n else last k)
go-on-store T n l a low high w last is it old k small =
    sym (ap (λ h. unwrap_or (last_store_number (a + k) h) 0) (history-act T n (Stores l w) is) ∙ go (is_in low high k) (writes-in a low high k w it))
  where
    many : length (history T n) ≡ n
    many = let within = act-within T (suc n) (Stores l w) is in length-history T n (omega (arith, within.1))

    go : (b : Bool) → writes w (a + k) ≡ b → unwrap_or (if writes w (a + k) then Some (suc (length (history T n))) else last_store_number (a + k) (history T n)) 0 ≡ (if b then suc n else last k)
    go true e = rw e (ap suc many)
    go false e = rw e (sym (old k small))

go-on-other : (T : Recording) (n a : ℕ) (act : Act) (last : ℕ → ℕ) → IsAct T (suc n) act → ((l k : ℕ) (w : Written) → act ≡ Stores l w → k < 8 → writes w (a + k) ≡ false) → IsWordAt T n a last →
    IsWordAt T (suc n) a last
go-on-other T n a act last is none old k small =
    old k small ∙ sym (ap (λ h. unwrap_or (last_store_number (a + k) h) 0) (history-act T n act is) ∙ ap (λ o. unwrap_or o 0) (go act none))
  where
    go : (act : Act) → ((l k : ℕ) (w : Written) → act ≡ Stores l w → k < 8 → writes w (a + k) ≡ false) → last_store_number (a + k) (act ∷ history T n) ≡ last_store_number (a + k) (history T n)
    go (Stores l w) free = let e = free l k w refl small in rw e refl
    go (Flushes t l) free = refl
    go (Clflushes l) free = refl
    go (Fences t) free = refl
    go Asserts free = refl

pub words_go_on : WordsGoOn
words_go_on = record { none = λ T a k small. refl; store = go-on-store; other = go-on-other }

-- a last store that is there
number-some : (o : Option ℕ) (j : ℕ) → 0 < j → unwrap_or o 0 ≡ j → o ≡ Some j
number-some None j some e = absurd (omega (arith, some, e))
number-some (Some i) j some e = ap Some e

pub overwritten_by_word : OverwrittenByWord
overwritten_by_word T n l a low high j w last trace is it short old = (there, back)
  where
    before : suc n - 1 ≡ n
    before = omega arith

    law : IsOverwritten T j (suc n) ↔ ((k : ℕ) × (earlier : Written) × (later : Written) × (byte : ℕ) × OverwritesBefore T k j (suc n) earlier later byte)
    law = overwritten_by_numbers T j (suc n)

    there : IsOverwritten T j (suc n) → (last_flush l (history T n) < j) × IsLastTo low high last j
    there over = go (law.0 over)
      where
        go : (k : ℕ) × (earlier : Written) × (later : Written) × (byte : ℕ) × OverwritesBefore T k j (suc n) earlier later byte → (last_flush l (history T n) < j) × IsLastTo low high last j
        go (k, earlier, later, byte, x) =
            let same = act-unique T (suc n) (Stores k later) (Stores l w) x.is_later is in
            let line : k ≡ l = cc in
            let what : later ≡ w = cc in
            let written : writes w byte ≡ true = ap (λ v. writes v byte) (sym what) ∙ x.writes_later in
            let at = byte-from_writes w byte written in
            let here : a + (byte - a) ≡ byte = omega (arith, at.0, it.from) in
            let told : last_store_number byte (history T n) ≡ Some j = rw before at x.last in
            let flushed : last_flush k (history T n) < j = rw before at x.unflushed in
            let number : last (byte - a) ≡ j = old (byte - a) (omega (arith, at.0, at.1, it.from, it.to, short)) ∙ ap (last_number T n) here ∙ ap (λ o. unwrap_or o 0) told in
            (subst (λ m. last_flush m (history T n) < j) line flushed, (byte - a, omega (arith, at.0, it.from), omega (arith, at.0, at.1, it.from, it.to), number))

    back : (last_flush l (history T n) < j) × IsLastTo low high last j → IsOverwritten T j (suc n)
    back (later, (k, from, to, number)) =
        let told : last_store_number (a + k) (history T n) ≡ Some j = number-some (last_store_number (a + k) (history T n)) j (omega (arith, later)) (sym (old k (omega (arith, to, short))) ∙ number) in
        let x = last_store_number-is T (a + k) n j told in
        let written : writes w (a + k) ≡ true = writes-in a low high k w it ∙ in-range low high k from to in
        let line : x.line ≡ l = sym (writes-line T j x.line x.what (a + k) trace x.is_store x.writes_it) ∙ writes-line T (suc n) l w (a + k) trace is written in
        let earlier : IsAct T j (Stores l x.what) = subst (λ m. IsAct T j (Stores m x.what)) line x.is_store in
        law.1 (
          l,
          x.what,
          w,
          a + k,
          record {
            is_earlier = earlier;
            is_later = is;
            writes_later = written;
            last = rw before told;
            unflushed = rw before later;
          },
        )
      where
        in-range : (low high k : ℕ) → low ≤ k → k < high → is_in low high k ≡ true
        in-range low high k from to = grind (arith, nat_tests, from, to)
