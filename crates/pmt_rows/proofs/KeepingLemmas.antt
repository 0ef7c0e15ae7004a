-- What the flushes that wait for a fence raise, what they mark, and which of them are kept.
use Rattle.std.proofs.Common.{◌≡◌, ℕ, zero, suc, ◌<◌, ◌≤◌, inl, inr, ◌==◌, Bool, true, false, List, [], ◌∷◌, ◌++◌, length, map, max, get_or, refl, sym, ap, subst, ◌∙◌, eqb-true, arith}
use Rattle.std.specs.Prelude.{◌||◌, nat_lt, if◌then◌else◌}
use Rattle.std.proofs.lemmas.Bool.{eq-eqb, ltb-true}
use Rattle.std.proofs.lemmas.List.{map-append}
use Rattle.pmt_laws.specs.Prelude.{Act, Stores, Flushes, Clflushes, Fences, Asserts, count, Recording, IsAct, history, IsKept, AllByRecursion}
use Rattle.pmt_laws.specs.Passing.{Flushed, open_flushes}
use Rattle.pmt_laws.proofs.Histories.{act-within, history-act, history-step, length-history}
use Rattle.pmt_safety.specs.Safety.{last_line_store, last_line_store_at, marked_store_at, safe_store, safe_store_at, store_of, last_marked}
use Rattle.pmt_safety.proofs.MarkingLemmas.{fence_keeps}
use Rattle.pmt_safety.proofs.StoreLemmas.{IsLineStore, last-is_store}
use Rattle.pmt_safety.proofs.KeptLemmas.{kept_fence_by_stores}
use Rattle.pmt_rows.specs.Known.{raised, IsKnownWith}
use Rattle.pmt_rows.specs.Waiting.{Waiting, waiting, raise_all, raise_one, some_raises, KeptByRaise, FenceKeptByRaise}
use Rattle.pmt_rows.specs.declared.rows.Rows.{Rows}
use Rattle.pmt_rows.proofs.RowLemmas.{kept-same}
use Rattle.pmt_rows.proofs.WaitingLemmas.{fence-raises, raise-max}

length-before : (T : Recording) (n : ℕ) (a : Act) → IsAct T (suc n) a → length (history T n) ≡ n
length-before T n a is = let within = act-within T (suc n) a is in length-history T n (omega (arith, within.1))

-- ---- Raises by flushes

-- a flush takes no line back, and its own at least to the store that it marks
one-up : (w : Waiting) (safe : ℕ → ℕ) (l : ℕ) → safe l ≤ raise_one w safe l
one-up w safe l = go (nat_lt (safe w.line) w.store) refl
  where
    inner : (b : Bool) → (w.line == l) ≡ b → safe w.line < w.store → safe l ≤ (if b then w.store else safe l)
    inner true e up = let same : safe w.line ≡ safe l = ap safe (eqb-true w.line l e) in omega (arith, same, up)
    inner false e up = omega arith

    go : (b : Bool) → nat_lt (safe w.line) w.store ≡ b → safe l ≤ (if b then raised w.line w.store safe else safe) l
    go true e = inner (w.line == l) refl (ltb-true (safe w.line) w.store e)
    go false e = omega arith

one-marks : (w : Waiting) (safe : ℕ → ℕ) → w.store ≤ raise_one w safe w.line
one-marks w safe = go (nat_lt (safe w.line) w.store) refl
  where
    go : (b : Bool) → nat_lt (safe w.line) w.store ≡ b → w.store ≤ (if b then raised w.line w.store safe else safe) w.line
    go true e = let own : (w.line == w.line) ≡ true = eq-eqb w.line w.line refl in let at : (if w.line == w.line then w.store else safe w.line) ≡ w.store = ap (λ b. if b then w.store else safe w.line) own in omega (arith, at)
    go false e = let le : w.store ≤ safe w.line = grind (arith, e) in le

all-up : (ws : List Waiting) (safe : ℕ → ℕ) (l : ℕ) → safe l ≤ raise_all ws safe l
all-up [] safe l = omega arith
all-up (w ∷ ws) safe l = let rest = all-up ws safe l in let here = one-up w (raise_all ws safe) l in omega (arith, rest, here)

pub all-mark : (ws : List Waiting) (safe : ℕ → ℕ) (i : ℕ) (d : Waiting) → i < length ws → (get_or ws i d).store ≤ raise_all ws safe (get_or ws i d).line
all-mark [] safe i d within = absurd (omega (arith, within))
all-mark (w ∷ ws) safe zero d within = one-marks w (raise_all ws safe)
all-mark (w ∷ ws) safe (suc i) d within =
    let rest = all-mark ws safe i d (omega (arith, within)) in
    let here = one-up w (raise_all ws safe) (get_or ws i d).line in
    omega (arith, rest, here)

-- some of them raises a line, or none does
some-raised : (ws : List Waiting) (safe : ℕ → ℕ) → some_raises ws safe ≡ true → (l : ℕ) × (safe l < raise_all ws safe l)
some-raised [] safe told = absurd (let no_way : false ≡ true = told in cc)
some-raised (w ∷ ws) safe told = go (nat_lt (raise_all ws safe w.line) w.store) refl told (some-raised ws safe)
  where
    go : (b : Bool) → nat_lt (raise_all ws safe w.line) w.store ≡ b → (b || some_raises ws safe) ≡ true → (some_raises ws safe ≡ true → (l : ℕ) × (safe l < raise_all ws safe l)) → (l : ℕ) × (safe l < raise_one w (raise_all ws safe) l)
    go true e told rest =
        let up = ltb-true (raise_all ws safe w.line) w.store e in
        let marks = one-marks w (raise_all ws safe) in
        let old = all-up ws safe w.line in
        (w.line, omega (arith, up, marks, old))
    go false e told rest =
        let before = rest told in
        let here = one-up w (raise_all ws safe) before.0 in
        (before.0, omega (arith, before.1, here))

none-raised : (ws : List Waiting) (safe : ℕ → ℕ) (l : ℕ) → some_raises ws safe ≡ false → raise_all ws safe l ≡ safe l
none-raised [] safe l told = refl
none-raised (w ∷ ws) safe l told = go (nat_lt (raise_all ws safe w.line) w.store) told (none-raised ws safe l)
  where
    go : (b : Bool) → (b || some_raises ws safe) ≡ false → (some_raises ws safe ≡ false → raise_all ws safe l ≡ safe l) → (if b then raised w.line w.store (raise_all ws safe) else raise_all ws safe) l ≡ safe l
    go true told rest = absurd (let never : true ≡ false = told in cc)
    go false told rest = rest told

-- ---- What waits marks stores

each-more : (P Q : Waiting → Type 0) → ((w : Waiting) → P w → Q w) → (ws : List Waiting) → AllByRecursion P ws → AllByRecursion Q ws
each-more P Q f [] each = each
each-more P Q f (w ∷ ws) each = (f w each.0, each-more P Q f ws each.1)

each-push : (P : Waiting → Type 0) (ws : List Waiting) (w : Waiting) → AllByRecursion P ws → P w → AllByRecursion P (ws ++ w ∷ [])
each-push P [] w each p = (p, each)
each-push P (v ∷ ws) w each p = (each.0, each-push P ws w each.1 p)

pub each-at : (P : Waiting → Type 0) (ws : List Waiting) (i : ℕ) (d : Waiting) → AllByRecursion P ws → i < length ws → P (get_or ws i d)
each-at P [] i d each within = absurd (omega (arith, within))
each-at P (w ∷ ws) zero d each within = each.0
each-at P (w ∷ ws) (suc i) d each within = each-at P ws i d each.1 (omega (arith, within))

-- what each flush has when it comes, and keeps from then on, all have that wait
waiting-each : (T : Recording) (t : ℕ) (P : ℕ → Waiting → Type 0) → ((n : ℕ) (w : Waiting) → P n w → P (suc n) w) →
    ((n u l : ℕ) → IsAct T (suc n) (Flushes u l) → P (suc n) (record { number = suc (length (history T n)); line = l; store = last_line_store l (history T n) })) → (n : ℕ) →
    AllByRecursion (P n) (waiting t (history T n))
waiting-each T t P later new zero = tt
waiting-each T t P later new (suc n) = elim (history-step T n) [
  | inl x ↦ subst (λ h. AllByRecursion (P (suc n)) (waiting t h)) (sym (history-act T n x.0 x.1)) (go x.0 x.1 (waiting-each T t P later new n))
  | inr x ↦ subst (λ h. AllByRecursion (P (suc n)) (waiting t h)) (sym x.1) (each-more (P n) (P (suc n)) (later n) (waiting t (history T n)) (waiting-each T t P later new n))
]
  where
    old : AllByRecursion (P n) (waiting t (history T n)) → AllByRecursion (P (suc n)) (waiting t (history T n))
    old each = each-more (P n) (P (suc n)) (later n) (waiting t (history T n)) each

    flush : (u l : ℕ) (b : Bool) → IsAct T (suc n) (Flushes u l) → AllByRecursion (P n) (waiting t (history T n)) →
        AllByRecursion (P (suc n)) (if b then waiting t (history T n) ++ record { number = suc (length (history T n)); line = l; store = last_line_store l (history T n) } ∷ [] else waiting t (history T n))
    flush u l true is each =
        each-push (P (suc n)) (waiting t (history T n)) (record { number = suc (length (history T n)); line = l; store = last_line_store l (history T n) }) (old each) (new n u l is)
    flush u l false is each = old each

    fence : (b : Bool) → AllByRecursion (P n) (waiting t (history T n)) → AllByRecursion (P (suc n)) (if b then [] else waiting t (history T n))
    fence true each = tt
    fence false each = old each

    go : (a : Act) → IsAct T (suc n) a → AllByRecursion (P n) (waiting t (history T n)) → AllByRecursion (P (suc n)) (waiting t (a ∷ history T n))
    go (Stores l w) is each = old each
    go (Flushes u l) is each = flush u l (u == t) is each
    go (Clflushes l) is each = old each
    go (Fences u) is each = fence (u == t) each
    go Asserts is each = old each

abbrev pub Marks : Recording → ℕ → Waiting → Type 0
Marks T n w = IsLineStore T w.line n w.store

later-marks : (T : Recording) (n : ℕ) (w : Waiting) → Marks T n w → Marks T (suc n) w
later-marks T n w (inl none) = inl none
later-marks T n w (inr x) = inr (x.0, x.1, omega (arith, x.2))

-- a store to its line, or none
pub waiting-marks : (T : Recording) (t n : ℕ) → AllByRecursion (Marks T n) (waiting t (history T n))
waiting-marks T t n =
    waiting-each T t (Marks T) (later-marks T) (λ m u l is. later-marks T m (record { number = suc (length (history T m)); line = l; store = last_line_store l (history T m) }) (last-is_store T l m)) n

-- the number of an event that has come
abbrev pub HasCome : ℕ → Waiting → Type 0
HasCome n w = (1 ≤ w.number) × (w.number ≤ n)

pub waiting-come : (T : Recording) (t n : ℕ) → AllByRecursion (HasCome n) (waiting t (history T n))
waiting-come T t n = waiting-each T t HasCome (λ m w come. (come.0, omega (arith, come.1))) (λ m u l is. let many = length-before T m (Flushes u l) is in (omega arith, omega (arith, many))) n

-- ---- The flushes that wait for a fence, as those that are open

-- an open flush as one that waits
abbrev as_waiting : Recording → Flushed → Waiting
as_waiting T f = record { number = f.number; line = f.line; store = store_of T f }

waits-open : (T : Recording) (t n : ℕ) → map (as_waiting T) (open_flushes t (history T n)) ≡ waiting t (history T n)
waits-open T t zero = refl
waits-open T t (suc n) = elim (history-step T n) [
  | inl x ↦ subst (λ h. map (as_waiting T) (open_flushes t h) ≡ waiting t h) (sym (history-act T n x.0 x.1)) (go x.0 x.1 (waits-open T t n))
  | inr x ↦ subst (λ h. map (as_waiting T) (open_flushes t h) ≡ waiting t h) (sym x.1) (waits-open T t n)
]
  where
    flush : (u l : ℕ) (b : Bool) → IsAct T (suc n) (Flushes u l) → map (as_waiting T) (open_flushes t (history T n)) ≡ waiting t (history T n) →
        map (as_waiting T) (if b then open_flushes t (history T n) ++ record { number = suc (length (history T n)); line = l; stores = count l (history T n) } ∷ [] else open_flushes t (history T n))
        ≡ (if b then waiting t (history T n) ++ record { number = suc (length (history T n)); line = l; store = last_line_store l (history T n) } ∷ [] else waiting t (history T n))
    flush u l true is old =
        let many = length-before T n (Flushes u l) is in
        let marks : last_line_store_at T l (suc (length (history T n))) ≡ last_line_store l (history T n) = ap (λ m. last_line_store_at T l (suc m)) many ∙ ap (last_line_store l) (history-act T n (Flushes u l) is) in
        map-append (as_waiting T) (open_flushes t (history T n)) (record { number = suc (length (history T n)); line = l; stores = count l (history T n) } ∷ [])
        ∙ ap (λ ws. ws ++ record { number = suc (length (history T n)); line = l; store = last_line_store_at T l (suc (length (history T n))) } ∷ []) old
        ∙ ap (λ s. waiting t (history T n) ++ record { number = suc (length (history T n)); line = l; store = s } ∷ []) marks
    flush u l false is old = old

    fence : (b : Bool) → map (as_waiting T) (open_flushes t (history T n)) ≡ waiting t (history T n) → map (as_waiting T) (if b then [] else open_flushes t (history T n)) ≡ (if b then [] else waiting t (history T n))
    fence true old = refl
    fence false old = old

    go : (a : Act) → IsAct T (suc n) a → map (as_waiting T) (open_flushes t (history T n)) ≡ waiting t (history T n) → map (as_waiting T) (open_flushes t (a ∷ history T n)) ≡ waiting t (a ∷ history T n)
    go (Stores l w) is old = old
    go (Flushes u l) is old = flush u l (u == t) is old
    go (Clflushes l) is old = old
    go (Fences u) is old = fence (u == t) old
    go Asserts is old = old

same-numbers : (T : Recording) (flushes : List Flushed) → map (λ (w : Waiting). w.number) (map (as_waiting T) flushes) ≡ map (λ (f : Flushed). f.number) flushes
same-numbers T [] = refl
same-numbers T (f ∷ flushes) = ap (λ ks. f.number ∷ ks) (same-numbers T flushes)

pub open-numbers : (T : Recording) (t n : ℕ) → map (λ (w : Waiting). w.number) (waiting t (history T n)) ≡ map (λ (f : Flushed). f.number) (open_flushes t (history T n))
open-numbers T t n = ap (map (λ (w : Waiting). w.number)) (sym (waits-open T t n)) ∙ same-numbers T (open_flushes t (history T n))

-- raising by flushes, in numbers
one-max : (w : Waiting) (safe : ℕ → ℕ) (l : ℕ) → raise_one w safe l ≡ (if w.line == l then max w.store (safe l) else safe l)
one-max w safe l = raise-max w safe l ∙ go (w.line == l) refl
  where
    go : (b : Bool) → (w.line == l) ≡ b → (if b then max (safe w.line) w.store else safe l) ≡ (if b then max w.store (safe l) else safe l)
    go true own = let same : safe w.line ≡ safe l = ap safe (eqb-true w.line l own) in omega (arith, same)
    go false other = refl

all-max : (T : Recording) (flushes : List Flushed) (safe : ℕ → ℕ) (l : ℕ) → raise_all (map (as_waiting T) flushes) safe l ≡ max (safe l) (last_marked T l flushes)
all-max T [] safe l = omega arith
all-max T (f ∷ flushes) safe l = one-max (as_waiting T f) (raise_all (map (as_waiting T) flushes) safe) l ∙ go (f.line == l) (all-max T flushes safe l)
  where
    go : (b : Bool) → raise_all (map (as_waiting T) flushes) safe l ≡ max (safe l) (last_marked T l flushes) →
        (if b then max (store_of T f) (raise_all (map (as_waiting T) flushes) safe l) else raise_all (map (as_waiting T) flushes) safe l) ≡ max (safe l) (if b then max (store_of T f) (last_marked T l flushes) else last_marked T l flushes)
    go true rest = omega (arith, rest)
    go false rest = rest

-- what is before and after a flush that waits
record SplitAt (T : Recording) (flushes : List Flushed) (w : Waiting) (newer : List Waiting) : Type 0 where
  pub before : List Flushed
  pub own : Flushed
  pub after : List Flushed
  pub split : flushes ≡ before ++ own ∷ after
  pub is_own : as_waiting T own ≡ w
  pub is_after : map (as_waiting T) after ≡ newer

split-at : (T : Recording) (flushes : List Flushed) (older newer : List Waiting) (w : Waiting) → map (as_waiting T) flushes ≡ older ++ w ∷ newer → SplitAt T flushes w newer
split-at T [] [] newer w e = absurd (cc)
split-at T [] (v ∷ older) newer w e = absurd (cc)
split-at T (f ∷ flushes) [] newer w e = record { before = []; own = f; after = flushes; split = refl; is_own = cc; is_after = cc }
split-at T (f ∷ flushes) (v ∷ older) newer w e =
    let rest : map (as_waiting T) flushes ≡ older ++ w ∷ newer = cc in
    let found = split-at T flushes older newer w rest in
    record { before = f ∷ found.before; own = found.own; after = found.after; split = ap (λ fs. f ∷ fs) found.split; is_own = found.is_own; is_after = found.is_after }

pub kept_by_raise : KeptByRaise
kept_by_raise T t n older newer w fence split =
    let found = split-at T (open_flushes t (history T n)) older newer w (waits-open T t n ∙ split) in
    let law = fence_keeps T t n found.before found.after found.own fence found.split in
    let number : found.own.number ≡ w.number = ap (λ (v : Waiting). v.number) found.is_own in
    let line : found.own.line ≡ w.line = ap (λ (v : Waiting). v.line) found.is_own in
    let store : store_of T found.own ≡ w.store = ap (λ (v : Waiting). v.store) found.is_own in
    let top : raise_all newer (λ l. safe_store_at T l n) w.line ≡ max (safe_store_at T found.own.line n) (last_marked T found.own.line found.after) =
    ap (λ ws. raise_all ws (λ l. safe_store_at T l n) w.line) (sym found.is_after) ∙ ap (raise_all (map (as_waiting T) found.after) (λ l. safe_store_at T l n)) (sym line) ∙ all-max T found.after (λ l. safe_store_at T l n) found.own.line in (
      λ kept. let later = law.0 (subst (IsKept T) (sym number) kept) in omega (arith, later, top, store),
      λ later. subst (IsKept T) number (law.1 (omega (arith, later, top, store))),
    )

-- ---- What is kept

-- a fence is kept exactly where a flush that waits for it raises its line
pub fence_kept_by_raise : FenceKeptByRaise
fence_kept_by_raise T t n fence = (there, back)
  where
    there : some_raises (waiting t (history T n)) (λ m. safe_store_at T m n) ≡ true → IsKept T (suc n)
    there so =
        let one = some-raised (waiting t (history T n)) (λ m. safe_store_at T m n) so in
        let after : raise_all (waiting t (history T n)) (λ m. safe_store_at T m n) one.0 ≡ max (safe_store_at T one.0 n) (marked_store_at T t one.0 n) = fence-raises t one.0 (history T n) in
        (kept_fence_by_stores T t n fence).1 (one.0, omega (arith, one.1, after))

    back : IsKept T (suc n) → some_raises (waiting t (history T n)) (λ m. safe_store_at T m n) ≡ true
    back kept = go (some_raises (waiting t (history T n)) (λ m. safe_store_at T m n)) refl
      where
        go : (b : Bool) → some_raises (waiting t (history T n)) (λ m. safe_store_at T m n) ≡ b → b ≡ true
        go true same = refl
        go false same =
            let one = (kept_fence_by_stores T t n fence).0 kept in
            let after : raise_all (waiting t (history T n)) (λ m. safe_store_at T m n) one.0 ≡ max (safe_store_at T one.0 n) (marked_store_at T t one.0 n) = fence-raises t one.0 (history T n) in
            let stays = none-raised (waiting t (history T n)) (λ m. safe_store_at T m n) one.0 same in
            absurd (omega (arith, one.1, after, stays))

-- ---- The rows by numbers after a fence

pub fenced-known : (lines : List ℕ) (t : ℕ) (h : List Act) (r : Rows) → IsKnownWith lines h (raise_all (waiting t h) (λ l. safe_store l h)) r → IsKnownWith lines (Fences t ∷ h) (λ l. safe_store l (Fences t ∷ h)) r
fenced-known lines t h r is = kept-same lines (Fences t ∷ h) (raise_all (waiting t h) (λ l. safe_store l h)) (λ l. safe_store l (Fences t ∷ h)) r (λ l. sym (fence-raises t l h)) is
