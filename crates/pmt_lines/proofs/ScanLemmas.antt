-- What is kept of a line while its findings are gathered stays right, event by event.
use Rattle.std.proofs.Common.{◌≡◌, ℕ, zero, suc, ◌+◌, ◌/◌, ◌%◌, ◌<◌, ◌≤◌, ◌⊎◌, inl, inr, ◌==◌, Bool, true, false, List, ◌∷◌, length, get_or, Some, refl, sym, ap, subst, ◌∙◌, arith, eqb-true}
use Rattle.std.specs.Prelude.{if◌then◌else◌, unwrap_or}
use Rattle.std.proofs.lemmas.Bool.{cases_lt, eq-eqb, true≢false}
use Rattle.pmt_laws.specs.Prelude.{Written, line_of, Act, Stores, Flushes, Clflushes, Fences, Asserts, writes, Recording, IsTrace, IsAct, history, last_store_number, last_flush}
use Rattle.pmt_laws.proofs.Histories.{history-act, history-step, act-within, length-history}
use Rattle.pmt_marks.specs.Lines.{Follows}
use Rattle.pmt_lines.specs.declared.step.StepKind.{StepKind}
use Rattle.pmt_lines.specs.declared.step.StepKind.TheVariants.{Store, Flush, Clflush, Fence}
use Rattle.pmt_lines.specs.declared.line_findings.Scan.{Scan}
use Rattle.pmt_lines.specs.Jobs.{IsKind, Touches, ByStore, ByFlush, ByClflush, TakesKind, StoresBytes, TakesBytes, flush_after}
use Rattle.pmt_lines.proofs.RunLemmas.{follows-over, follows-kind, kind-within}
use Rattle.pmt_lines.proofs.TraceLemmas.{size-of_format, IsStoreOf, store-of_trace, byte-line, same-block, byte-from_writes, writes-from_byte}

-- The event changes nothing that f tells of the history.
abbrev LeavesAlone : {A : Type 0} → Recording → ℕ → (List Act → A) → ℕ → Type 0
LeavesAlone T l f n = (a : Act) → IsAct T (suc n) a → ¬ Touches T l (suc n) → f (a ∷ history T n) ≡ f (history T n)

-- what no event between changes stays
stays-over : {A : Type 0} (T : Recording) (l : ℕ) (f : List Act → A) → ((n : ℕ) → LeavesAlone T l f n) → (low n : ℕ) → low ≤ n → ((k : ℕ) → low < k → k ≤ n → ¬ Touches T l k) → f (history T n) ≡ f (history T low)
stays-over T l f each low zero h untouched = let e : zero ≡ low = omega arith in ap (λ k. f (history T k)) e
stays-over T l f each low (suc n) h untouched =
    elim (cases_lt n low) [
      | inl past ↦ let e : suc n ≡ low = omega arith in ap (λ k. f (history T k)) e
      | inr more ↦ one more (history-step T n) ∙ stays-over T l f each low n more (λ k a b. untouched k a (omega arith))
    ]
  where
    one : low ≤ n → ((a : Act) × IsAct T (suc n) a) ⊎ ((length T.events ≤ n) × (history T (suc n) ≡ history T n)) → f (history T (suc n)) ≡ f (history T n)
    one more (inl x) = ap f (history-act T n x.0 x.1) ∙ each n x.0 x.1 (untouched (suc n) (omega arith) (omega arith))
    one more (inr x) = ap f x.1

-- an event that doesn't matter to a line stores none of its bytes
bytes-alone : (T : Recording) (l b : ℕ) → IsTrace T → line_of T.format b ≡ l → (n : ℕ) → LeavesAlone T l (last_store_number b) n
bytes-alone T l b is_trace line n (Stores k w) is untouched = go (writes w b) refl
  where
    go : (v : Bool) → writes w b ≡ v → (if v then Some (suc (length (history T n))) else last_store_number b (history T n)) ≡ last_store_number b (history T n)
    go true it =
        let of_line = byte-line T.format k b w (size-of_format T.format is_trace.format) (store-of_trace T (suc n) k w is_trace is) it in
        let same : k ≡ l = sym of_line ∙ line in
        absurd (untouched (ByStore w (subst (λ j. IsAct T (suc n) (Stores j w)) same is)))
    go false it = refl
bytes-alone T l b is_trace line n (Flushes t k) is untouched = refl
bytes-alone T l b is_trace line n (Clflushes k) is untouched = refl
bytes-alone T l b is_trace line n (Fences t) is untouched = refl
bytes-alone T l b is_trace line n Asserts is untouched = refl

-- an event that doesn't matter to a line doesn't flush it
flush-alone : (T : Recording) (l n : ℕ) → LeavesAlone T l (last_flush l) n
flush-alone T l n (Stores k w) is untouched = refl
flush-alone T l n (Flushes t k) is untouched = go (k == l) refl
  where
    go : (v : Bool) → (k == l) ≡ v → (if v then suc (length (history T n)) else last_flush l (history T n)) ≡ last_flush l (history T n)
    go true e = absurd (untouched (ByFlush t (subst (λ j. IsAct T (suc n) (Flushes t j)) (eqb-true k l e) is)))
    go false e = refl
flush-alone T l n (Clflushes k) is untouched = go (k == l) refl
  where
    go : (v : Bool) → (k == l) ≡ v → (if v then suc (length (history T n)) else last_flush l (history T n)) ≡ last_flush l (history T n)
    go true e = absurd (untouched (ByClflush (subst (λ j. IsAct T (suc n) (Clflushes j)) (eqb-true k l e) is)))
    go false e = refl
flush-alone T l n (Fences t) is untouched = refl
flush-alone T l n Asserts is untouched = refl

pub flush-over : (T : Recording) (l low n : ℕ) → low ≤ n → ((k : ℕ) → low < k → k ≤ n → ¬ Touches T l k) → last_flush l (history T n) ≡ last_flush l (history T low)
flush-over T l low n = stays-over T l (last_flush l) (flush-alone T l) low n

-- The table has the last store to each byte of the line at place n.
abbrev pub IsTable : Recording → ℕ → ℕ → List ℕ → Type 0
IsTable T l n table = (b : ℕ) → line_of T.format b ≡ l → get_or table (b % 256) 0 ≡ unwrap_or (last_store_number b (history T n)) 0

-- What is kept is right for line l at place n.
pub record IsScan (T : Recording) (l n : ℕ) (scan : Scan) : Type 0 where
  pub follows : Follows l (history T n) scan.state
  pub table : IsTable T l n scan.stores.numbers
  pub flush : scan.flush ≡ last_flush l (history T n)

-- the table stays right while no event matters to the line
table-over : (T : Recording) (l low n : ℕ) (table : List ℕ) → IsTrace T → low ≤ n → ((k : ℕ) → low < k → k ≤ n → ¬ Touches T l k) → IsTable T l low table → IsTable T l n table
table-over T l low n table is_trace h untouched before b line =
    before b line ∙ ap (λ o. unwrap_or o 0) (sym (stays-over T l (last_store_number b) (bytes-alone T l b is_trace line) low n h untouched))

-- and all that is kept
pub scan-over : (T : Recording) (l low n : ℕ) (scan : Scan) → IsTrace T → low ≤ n → ((k : ℕ) → low < k → k ≤ n → ¬ Touches T l k) → IsScan T l low scan → IsScan T l n scan
scan-over T l low n scan is_trace h untouched s = record {
  follows = follows-over T l low n scan.state h untouched s.follows;
  table = table-over T l low n scan.stores.numbers is_trace h untouched s.table;
  flush = s.flush ∙ sym (flush-over T l low n h untouched);
}

-- the table after a store to the line
table-store : (T : Recording) (l n : ℕ) (w : Written) (old new : List ℕ) → IsTrace T → IsAct T (suc n) (Stores l w) → StoresBytes old new w.addr (length w.bytes) (suc n) → IsTable T l n old → IsTable T l (suc n) new
table-store T l n w old new is_trace is stores before b line =
    go (writes w b) refl ∙ ap (λ h. unwrap_or (last_store_number b h) 0) (sym (history-act T n (Stores l w) is))
  where
    of_line : IsStoreOf T.format l w
    of_line = store-of_trace T (suc n) l w is_trace is

    block : b / 256 ≡ w.addr / 256
    block = same-block T.format b w.addr (size-of_format T.format is_trace.format) (line ∙ sym of_line.line)

    numbered : length (history T n) ≡ n
    numbered = length-history T n (omega (arith, (act-within T (suc n) (Stores l w) is).1))

    outside : writes w b ≡ false → (b % 256 < w.addr % 256) ⊎ (w.addr % 256 + length w.bytes ≤ b % 256)
    outside it =
        elim (cases_lt (b % 256) (w.addr % 256)) [
          | inl less ↦ inl less
          | inr from ↦ elim (cases_lt (b % 256) (w.addr % 256 + length w.bytes)) [
            | inl to ↦ absurd (true≢false (sym (writes-from_byte w b (omega (arith, block, from, to), omega (arith, block, from, to))) ∙ it))
            | inr past ↦ inr past
          ]
        ]

    go : (v : Bool) → writes w b ≡ v → get_or new (b % 256) 0 ≡ unwrap_or (if v then Some (suc (length (history T n))) else last_store_number b (history T n)) 0
    go true it =
        let at = byte-from_writes w b it in
        stores.inside (b % 256) (omega (arith, block, at.0, at.1)) (omega (arith, block, at.0, at.1)) ∙ ap suc (sym numbered)
    go false it = stores.outside (b % 256) (outside it) ∙ before b line

-- the table after another step
table-other : (T : Recording) (l n : ℕ) (a : Act) (old new : List ℕ) → IsAct T (suc n) a → ((b : ℕ) → last_store_number b (a ∷ history T n) ≡ last_store_number b (history T n)) → new ≡ old → IsTable T l n old → IsTable T l (suc n) new
table-other T l n a old new is same kept before b line =
    ap (λ (t : List ℕ). get_or t (b % 256) 0) kept ∙ before b line ∙ ap (λ o. unwrap_or o 0) (sym (ap (last_store_number b) (history-act T n a is) ∙ same b))

table-kind : (T : Recording) (l n t : ℕ) (kind : StepKind) (old new : List ℕ) → IsTrace T → IsKind T l (suc n) t kind → TakesBytes old new (suc n) kind → IsTable T l n old → IsTable T l (suc n) new
table-kind T l n t (Store addr len) old new is_trace is takes before =
    let takes' : StoresBytes old new is.0.addr (length is.0.bytes) (suc n) = rw (is.2, is.3) takes in
    table-store T l n is.0 old new is_trace is.1 takes' before
table-kind T l n t Flush old new is_trace is takes before = table-other T l n (Flushes t l) old new is (λ b. refl) takes before
table-kind T l n t Clflush old new is_trace is takes before = table-other T l n (Clflushes l) old new is (λ b. refl) takes before
table-kind T l n t Fence old new is_trace is takes before = table-other T l n (Fences t) old new is (λ b. refl) takes before

-- the last flush after a step
pub flush-kind : (T : Recording) (l n t : ℕ) (kind : StepKind) → IsKind T l (suc n) t kind → last_flush l (history T (suc n)) ≡ flush_after (last_flush l (history T n)) (suc n) kind
flush-kind T l n t kind is = go kind is
  where
    numbered : length (history T n) ≡ n
    numbered = length-history T n (omega (arith, (kind-within T l (suc n) t kind is).1))

    own : (l == l) ≡ true
    own = eq-eqb l l refl

    go : (kind : StepKind) → IsKind T l (suc n) t kind → last_flush l (history T (suc n)) ≡ flush_after (last_flush l (history T n)) (suc n) kind
    go (Store addr len) is = ap (last_flush l) (history-act T n (Stores l is.0) is.1)
    go Flush is = ap (last_flush l) (history-act T n (Flushes t l) is) ∙ rw (own, numbered) refl
    go Clflush is = ap (last_flush l) (history-act T n (Clflushes l) is) ∙ rw (own, numbered) refl
    go Fence is = ap (last_flush l) (history-act T n (Fences t) is)

-- what is kept is right after a step
pub scan-kind : (T : Recording) (l n t : ℕ) (kind : StepKind) (old new : Scan) → IsTrace T → IsKind T l (suc n) t kind → TakesKind l t kind old.state new.state → TakesBytes old.stores.numbers new.stores.numbers (suc n) kind → new.flush ≡ flush_after old.flush (suc n) kind → IsScan T l n old → IsScan T l (suc n) new
scan-kind T l n t kind old new is_trace is takes bytes flush s = record {
  follows = follows-kind T l n t kind old.state new.state is takes s.follows;
  table = table-kind T l n t kind old.stores.numbers new.stores.numbers is_trace is bytes s.table;
  flush = flush ∙ ap (λ last. flush_after last (suc n) kind) s.flush ∙ sym (flush-kind T l n t kind is);
}
