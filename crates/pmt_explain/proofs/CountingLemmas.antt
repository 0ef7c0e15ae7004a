-- The counts of lines, event by event.
use Rattle.std.proofs.Common.{◌≡◌, ℕ, zero, suc, ◌+◌, ◌<◌, ◌≤◌, ◌⊎◌, ◌==◌, inl, inr, Bool, true, false, List, [], ◌∷◌, ◌++◌, map, min, Option, Some, refl, sym, ap, ap₂, subst, ◌∙◌, arith}
use Rattle.std.specs.Prelude.{if◌then◌else◌, nat_eq, nat_le, slice_get}
use Rattle.std.proofs.lemmas.Bool.{cases_lt, cases_eq, eq-eqb, ne_eqb, le-leb, lt-leb}
use Rattle.std.specs.Map.{keys_of}
use Rattle.indexmap.specs.IndexMap.{keys, insert_entry}
use Rattle.pmt_laws.specs.Prelude.{Event, Layout, Written, Act, Stores, Flushes, Clflushes, Fences, Asserts, count, Recording, IsAct, act, history, count_at, has_line, with_line, lines_of}
use Rattle.pmt_laws.proofs.Histories.{history-act, history-step}
use Rattle.pmt_reasons.proofs.CauseLemmas.{rank-store}
use Rattle.pmt_explain.specs.declared.crash.Crash.{Crash}
use Rattle.pmt_explain.specs.declared.lines.LineCount.{LineCount}
use Rattle.pmt_explain.specs.Crashes.{line_count, persisted_to, IsCrashAt, Counts, count_in, raised, lines_after, count_after, count_by, AreCountsBy}

-- a key that is put into a map stands among its keys as a line in a list of lines
pub keys-inserted : (l : ℕ) (v : LineCount) (es : List (ℕ × LineCount)) → keys_of (insert_entry nat_eq es l v) ≡ with_line l (keys_of es)
keys-inserted l v [] = refl
keys-inserted l v (e ∷ es) = go (cases_eq l e.0) (keys-inserted l v es)
  where
    longer : (b : Bool) (xs : List ℕ) → (e.0 ∷ (if b then xs else xs ++ l ∷ [])) ≡ (if b then e.0 ∷ xs else e.0 ∷ (xs ++ l ∷ []))
    longer true xs = refl
    longer false xs = refl

    go : (l ≡ e.0) ⊎ (l ≡ e.0 → ⊥) → keys_of (insert_entry nat_eq es l v) ≡ with_line l (keys_of es) → keys_of (insert_entry nat_eq (e ∷ es) l v) ≡ with_line l (keys_of (e ∷ es))
    go (inl same) rest = rw (eq-eqb l e.0 same, eq-eqb e.0 l (sym same)) refl
    go (inr other) rest = rw (ne_eqb l e.0 other, ne_eqb e.0 l (λ e. other (sym e))) (ap (λ xs. e.0 ∷ xs) rest ∙ longer (has_line l (keys_of es)) (keys_of es))

-- no line has more stores than there are events
count-step : (l : ℕ) (a : Act) (h : List Act) → count l (a ∷ h) ≤ suc (count l h)
count-step l (Stores k w) h = go (k == l)
  where
    go : (b : Bool) → (if b then suc (count l h) else count l h) ≤ suc (count l h)
    go true = omega arith
    go false = omega arith
count-step l (Flushes t k) h = omega arith
count-step l (Clflushes k) h = omega arith
count-step l (Fences t) h = omega arith
count-step l Asserts h = omega arith

count-le : (T : Recording) (l n : ℕ) → count_at T l n ≤ n
count-le T l zero = omega arith
count-le T l (suc n) = let few = count-le T l n in elim (history-step T n) [
  | inl x ↦ omega (arith, ap (count l) (history-act T n x.0 x.1), count-step l x.0 (history T n))
  | inr x ↦ omega (arith, ap (count l) x.1)
]

-- so the counts are below the next number
pub counts-below : (T : Recording) (c : Crash) (n number l : ℕ) (counts : Counts) → n < number → AreCountsBy T c n counts → ((count_in counts l).stores < number) × ((count_in counts l).persisted < number)
counts-below T c n number l counts less x =
    let m = min n (persisted_to c l) in (
      omega (arith, ap (λ (y : LineCount). y.stores) (x.each l), count-le T l n),
      omega (arith, ap (λ (y : LineCount). y.persisted) (x.each l), count-le T l m),
    )

-- a count of two numbers
abbrev one-count : ℕ → ℕ → ℕ → LineCount
one-count l s p = record { line = l; stores = s; persisted = p }

same-counts : (l s p r q : ℕ) → s ≡ r → p ≡ q → one-count l s p ≡ one-count l r q
same-counts l s p r q stores persisted = ap₂ (one-count l) stores persisted

-- an event that is no store to the line
count-stays : (T : Recording) (c : Crash) (n l : ℕ) → count_at T l (suc n) ≡ count_at T l n → count_by T c n l ≡ count_by T c (suc n) l
count-stays T c n l same = same-counts l _ _ _ _ (sym same) (go (cases_lt n (persisted_to c l)))
  where
    go : (n < persisted_to c l) ⊎ (persisted_to c l ≤ n) → count_at T l (min n (persisted_to c l)) ≡ count_at T l (min (suc n) (persisted_to c l))
    go (inl above) =
        let old : min n (persisted_to c l) ≡ n = omega arith in
        let new : min (suc n) (persisted_to c l) ≡ suc n = omega arith in
        ap (count_at T l) old ∙ sym same ∙ ap (count_at T l) (sym new)
    go (inr past) = let e : min n (persisted_to c l) ≡ min (suc n) (persisted_to c l) = omega arith in ap (count_at T l) e

-- a store to the line, which is persisted where its number is at most that of the crash
abbrev flag : ℕ → ℕ → ℕ
flag i to = if nat_le i to then 1 else 0

abbrev IsFlagged : ℕ → ℕ → ℕ → Type 0
IsFlagged p i to = ((p ≡ 1) × (i ≤ to)) ⊎ ((p ≡ 0) × (to < i))

flagged : (i to : ℕ) → IsFlagged (flag i to) i to
flagged i to = go (cases_lt to i)
  where
    go : (to < i) ⊎ (i ≤ to) → IsFlagged (flag i to) i to
    go (inl past) = inr (rw (lt-leb i to past) refl, past)
    go (inr within) = inl (rw (le-leb i to within) refl, within)

count-goes : (T : Recording) (c : Crash) (n l : ℕ) (w : Written) → IsAct T (suc n) (Stores l w) → raised (count_by T c n l) 1 (flag (suc n) (persisted_to c l)) ≡ count_by T c (suc n) l
count-goes T c n l w is =
    let rank = rank-store T l n w is in
    let to = persisted_to c l in
    same-counts l _ _ _ _ (omega (arith, rank)) (go to (flag (suc n) to) (flagged (suc n) to) rank)
  where
    go : (to p : ℕ) → IsFlagged p (suc n) to → count_at T l (suc n) ≡ suc (count_at T l n) → count_at T l (min n to) + p ≡ count_at T l (min (suc n) to)
    go to p (inl within) rank =
        let old : min n to ≡ n = omega (arith, within.1) in
        let new : min (suc n) to ≡ suc n = omega (arith, within.1) in
        omega (arith, within.0, rank, ap (count_at T l) old, ap (count_at T l) new)
    go to p (inr past) rank =
        let e : min n to ≡ min (suc n) to = omega (arith, past.1) in
        omega (arith, past.0, ap (count_at T l) e)

-- nothing more
choice-none : (b : Bool) (l s p : ℕ) → (if b then raised (one-count l s p) 0 0 else one-count l s p) ≡ one-count l s p
choice-none true l s p = same-counts l _ _ _ _ (omega arith) (omega arith)
choice-none false l s p = refl

-- one more act
count-next : (T : Recording) (c : Crash) (n : ℕ) (a : Act) → IsAct T (suc n) a → (k : ℕ) → count_after c (suc n) a k (count_by T c n k) ≡ count_by T c (suc n) k
count-next T c n (Stores l w) is k = go (cases_eq l k)
  where
    go : (l ≡ k) ⊎ (l ≡ k → ⊥) → count_after c (suc n) (Stores l w) k (count_by T c n k) ≡ count_by T c (suc n) k
    go (inl same) =
        let P : ℕ → Type 0 = λ j. count_after c (suc n) (Stores l w) j (count_by T c n j) ≡ count_by T c (suc n) j in
        subst P same (rw (eq-eqb l l refl) (count-goes T c n l w is))
    go (inr other) =
        let apart = ne_eqb l k other in
        let stays : count_at T k (suc n) ≡ count_at T k n = ap (count k) (history-act T n (Stores l w) is) ∙ rw apart refl in
        rw apart (count-stays T c n k stays)
count-next T c n (Flushes t l) is k =
    choice-none (l == k) k (count_at T k n) (count_at T k (min n (persisted_to c k))) ∙ count-stays T c n k (ap (count k) (history-act T n (Flushes t l) is))
count-next T c n (Clflushes l) is k =
    choice-none (l == k) k (count_at T k n) (count_at T k (min n (persisted_to c k))) ∙ count-stays T c n k (ap (count k) (history-act T n (Clflushes l) is))
count-next T c n (Fences t) is k = count-stays T c n k (ap (count k) (history-act T n (Fences t) is))
count-next T c n Asserts is k = count-stays T c n k (ap (count k) (history-act T n Asserts is))

lines-next : (a : Act) (h : List Act) → lines_after a (lines_of h) ≡ lines_of (a ∷ h)
lines-next (Stores l w) h = refl
lines-next (Flushes t l) h = refl
lines-next (Clflushes l) h = refl
lines-next (Fences t) h = refl
lines-next Asserts h = refl

-- one more event, at an index of the list
pub counted : (T : Recording) (c : Crash) (f : Layout) (es : List Event) (n number : ℕ) (e : Event) (old new : Counts) → f ≡ T.format → es ≡ T.events → number ≡ suc n → slice_get es n ≡ Some e →
    keys new ≡ lines_after (act f e) (keys old) → ((l : ℕ) → count_in new l ≡ count_after c number (act f e) l (count_in old l)) → AreCountsBy T c n old → AreCountsBy T c number new
counted T c f es n number e old new format events next is lines each before =
    let a : Act = act f e in
    let at : IsAct T (suc n) a = (e, ap (λ xs. slice_get xs n) (sym events) ∙ is, ap (λ g. act g e) (sym format)) in
    let P : ℕ → Type 0 = λ m. AreCountsBy T c m new in
    subst P (sym next) (record {
      lines = lines ∙ ap (lines_after a) before.lines ∙ lines-next a (history T n) ∙ ap lines_of (sym (history-act T n a at));
      each = λ l. each l ∙ ap (λ (i : ℕ). count_after c i a l (count_in old l)) next ∙ ap (count_after c (suc n) a l) (before.each l) ∙ count-next T c n a at l;
    })

-- the counts of the crash
pub counts-listed : (T : Recording) (n : ℕ) (full : Option ℕ) (c : Crash) (counts : Counts) (list : List LineCount) → IsCrashAt T n full c → AreCountsBy T c c.place counts →
    list ≡ map (λ l. count_in counts l) (keys counts) → list ≡ map (line_count T n full) (lines_of (history T n))
counts-listed T n full c counts list crash x is = is ∙ ap (map (λ l. count_in counts l)) (x.lines ∙ ap lines_of crash.same) ∙ go (lines_of (history T n))
  where
    each : (l : ℕ) → count_in counts l ≡ line_count T n full l
    each l =
        let upto : min c.place (persisted_to c l) ≡ persisted_to c l = omega (arith, crash.by_place l) in
        x.each l ∙ same-counts l _ _ _ _ (ap (count l) crash.same) (ap (count_at T l) upto ∙ sym (crash.persisted l))

    go : (ls : List ℕ) → map (λ l. count_in counts l) ls ≡ map (line_count T n full) ls
    go [] = refl
    go (l ∷ ls) = ap₂ (λ (y : LineCount) (ys : List LineCount). y ∷ ys) (each l) (go ls)
