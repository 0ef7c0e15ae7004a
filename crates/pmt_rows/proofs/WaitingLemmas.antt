-- What a fence makes of the flushes that wait for it.
use Rattle.std.proofs.Common.{◌≡◌, ◌≢◌, ℕ, suc, ◌≤◌, Bool, true, false, List, [], ◌∷◌, ◌++◌, length, max, refl, ap, ◌∙◌, arith}
use Rattle.std.specs.Prelude.{◌==◌, ◌&&◌, ◌||◌, ◌↔◌, not, nat_lt, if◌then◌else◌}
use Rattle.std.proofs.lemmas.Bool.{eq-eqb, eqb-true, ltb-true}
use Rattle.pmt_model.specs.Machine.{Act, Stores, Flushes, Clflushes, Fences, Asserts}
use Rattle.pmt_safety.specs.Safety.{last_line_store, marked_store, safe_store, has_open_flush}
use Rattle.pmt_rows.specs.Known.{raised}
use Rattle.pmt_rows.specs.Waiting.{Waiting, waiting, raise_one, raise_all, FenceRaises, OpenTells}

-- thread t has flushed line l since its last fence
abbrev open_on : ℕ → ℕ → List Act → Bool
open_on t l [] = false
open_on t l (Stores k w ∷ h) = open_on t l h
open_on t l (Flushes u k ∷ h) = ((u == t) && (k == l)) || open_on t l h
open_on t l (Clflushes k ∷ h) = open_on t l h
open_on t l (Fences u ∷ h) = not (u == t) && open_on t l h
open_on t l (Asserts ∷ h) = open_on t l h

last-within : (l : ℕ) (h : List Act) → last_line_store l h ≤ length h
last-within l [] = omega arith
last-within l (Stores k w ∷ h) = go (k == l) (last-within l h)
  where
    go : (b : Bool) → last_line_store l h ≤ length h → (if b then suc (length h) else last_line_store l h) ≤ suc (length h)
    go true ih = omega arith
    go false ih = omega arith
last-within l (Flushes t k ∷ h) = omega (arith, last-within l h)
last-within l (Clflushes k ∷ h) = omega (arith, last-within l h)
last-within l (Fences t ∷ h) = omega (arith, last-within l h)
last-within l (Asserts ∷ h) = omega (arith, last-within l h)

marked-le_last : (t l : ℕ) (h : List Act) → marked_store t l h ≤ last_line_store l h
marked-le_last t l [] = omega arith
marked-le_last t l (Stores k w ∷ h) = go (k == l) (marked-le_last t l h) (last-within l h)
  where
    go : (b : Bool) → marked_store t l h ≤ last_line_store l h → last_line_store l h ≤ length h → marked_store t l h ≤ (if b then suc (length h) else last_line_store l h)
    go true ih within = omega arith
    go false ih within = ih
marked-le_last t l (Flushes u k ∷ h) = go ((u == t) && (k == l)) (marked-le_last t l h)
  where
    go : (b : Bool) → marked_store t l h ≤ last_line_store l h → (if b then last_line_store l h else marked_store t l h) ≤ last_line_store l h
    go true ih = omega arith
    go false ih = ih
marked-le_last t l (Clflushes k ∷ h) = marked-le_last t l h
marked-le_last t l (Fences u ∷ h) = marked-le_last t l h
marked-le_last t l (Asserts ∷ h) = marked-le_last t l h

safe-le_last : (l : ℕ) (h : List Act) → safe_store l h ≤ last_line_store l h
safe-le_last l [] = omega arith
safe-le_last l (Stores k w ∷ h) = go (k == l) (safe-le_last l h) (last-within l h)
  where
    go : (b : Bool) → safe_store l h ≤ last_line_store l h → last_line_store l h ≤ length h → safe_store l h ≤ (if b then suc (length h) else last_line_store l h)
    go true ih within = omega arith
    go false ih within = ih
safe-le_last l (Flushes u k ∷ h) = safe-le_last l h
safe-le_last l (Clflushes k ∷ h) = go (k == l) (safe-le_last l h)
  where
    go : (b : Bool) → safe_store l h ≤ last_line_store l h → (if b then last_line_store l h else safe_store l h) ≤ last_line_store l h
    go true ih = omega arith
    go false ih = ih
safe-le_last l (Fences u ∷ h) = omega (arith, safe-le_last l h, marked-le_last u l h)
safe-le_last l (Asserts ∷ h) = safe-le_last l h

-- what a thread marked before its last fence is safe
fenced-safe : (t l : ℕ) (h : List Act) → open_on t l h ≡ false → marked_store t l h ≤ safe_store l h
fenced-safe t l [] none = omega arith
fenced-safe t l (Stores k w ∷ h) none = fenced-safe t l h none
fenced-safe t l (Flushes u k ∷ h) none = go ((u == t) && (k == l)) none (fenced-safe t l h)
  where
    go : (b : Bool) → (b || open_on t l h) ≡ false → (open_on t l h ≡ false → marked_store t l h ≤ safe_store l h) → (if b then last_line_store l h else marked_store t l h) ≤ safe_store l h
    go true none ih = let never : true ≡ false = none in absurd (cc)
    go false none ih = ih none
fenced-safe t l (Clflushes k ∷ h) none = go (k == l) (fenced-safe t l h none) (safe-le_last l h)
  where
    go : (b : Bool) → marked_store t l h ≤ safe_store l h → safe_store l h ≤ last_line_store l h → marked_store t l h ≤ (if b then last_line_store l h else safe_store l h)
    go true ih le = omega arith
    go false ih le = ih
fenced-safe t l (Fences u ∷ h) none = go (u == t) refl none (fenced-safe t l h)
  where
    go : (b : Bool) → (u == t) ≡ b → (not b && open_on t l h) ≡ false → (open_on t l h ≡ false → marked_store t l h ≤ safe_store l h) → marked_store t l h ≤ max (safe_store l h) (marked_store u l h)
    go true same none ih = let e : marked_store u l h ≡ marked_store t l h = ap (λ v. marked_store v l h) (eqb-true u t same) in omega (arith, e)
    go false other none ih = omega (arith, ih none)
fenced-safe t l (Asserts ∷ h) none = fenced-safe t l h none

-- ---- One flush

-- the last safe store of its line is the greater one then
pub raise-max : (w : Waiting) (safe : ℕ → ℕ) (l : ℕ) → raise_one w safe l ≡ raised w.line (max (safe w.line) w.store) safe l
raise-max w safe l = go (nat_lt (safe w.line) w.store) refl (w.line == l) refl
  where
    go : (b : Bool) → nat_lt (safe w.line) w.store ≡ b → (c : Bool) → (w.line == l) ≡ c → (if b then raised w.line w.store safe else safe) l ≡ (if w.line == l then max (safe w.line) w.store else safe l)
    go true up true own = let less = ltb-true (safe w.line) w.store up in let most : w.store ≡ max (safe w.line) w.store = omega (arith, less) in rw own most
    go true up false own = rw own refl
    go false low true own =
        let le : w.store ≤ safe w.line = grind (arith, low) in
        let same : safe w.line ≡ safe l = ap safe (eqb-true w.line l own) in
        let most : safe l ≡ max (safe w.line) w.store = omega (arith, le, same) in
        rw own most
    go false low false own = rw own refl

raise-own : (n k l s : ℕ) (safe : ℕ → ℕ) → k ≡ l → raise_one (record { number = n; line = k; store = s }) safe l ≡ max (safe l) s
raise-own n k l s safe same = raise-max (record { number = n; line = k; store = s }) safe l ∙ (let e : (k == l) ≡ true = eq-eqb k l same in rw e (ap (λ j. max (safe j) s) same))

raise-other : (n k l s : ℕ) (safe : ℕ → ℕ) → (k == l) ≡ false → raise_one (record { number = n; line = k; store = s }) safe l ≡ safe l
raise-other n k l s safe other = raise-max (record { number = n; line = k; store = s }) safe l ∙ rw other refl

raise-append : (ws : List Waiting) (w : Waiting) (safe : ℕ → ℕ) → raise_all (ws ++ w ∷ []) safe ≡ raise_all ws (raise_one w safe)
raise-append [] w safe = refl
raise-append (v ∷ ws) w safe = ap (raise_one v) (raise-append ws w safe)

-- ---- All of them

abbrev RaisesTo : ℕ → ℕ → List Act → (ℕ → ℕ) → Type 0
RaisesTo t l h safe = raise_all (waiting t h) safe l ≡ (if open_on t l h then max (safe l) (marked_store t l h) else safe l)

raised-flush : (t l u k : ℕ) (h : List Act) (safe : ℕ → ℕ) → ((s : ℕ → ℕ) → RaisesTo t l h s) → RaisesTo t l (Flushes u k ∷ h) safe
raised-flush t l u k h safe ih = go (u == t) (k == l) refl
  where
    w : Waiting
    w = record { number = suc (length h); line = k; store = last_line_store k h }

    next : raise_all (waiting t h ++ w ∷ []) safe l ≡ raise_all (waiting t h) (raise_one w safe) l
    next = ap (λ (f : ℕ → ℕ). f l) (raise-append (waiting t h) w safe)

    own : k ≡ l → (b : Bool) → (if b then max (raise_one w safe l) (marked_store t l h) else raise_one w safe l) ≡ max (safe l) (last_line_store l h)
    own same true =
        let here : raise_one w safe l ≡ max (safe l) (last_line_store k h) = raise-own (suc (length h)) k l (last_line_store k h) safe same in
        omega (arith, here, ap (λ j. last_line_store j h) same, marked-le_last t l h)
    own same false = raise-own (suc (length h)) k l (last_line_store k h) safe same ∙ ap (λ j. max (safe l) (last_line_store j h)) same

    go : (a b : Bool) → (k == l) ≡ b → (let ws : List Waiting = if a then waiting t h ++ w ∷ [] else waiting t h in raise_all ws safe l) ≡
        (if (a && b) || open_on t l h then max (safe l) (if a && b then last_line_store l h else marked_store t l h) else safe l)
    go false b e = ih safe
    go true true e = next ∙ ih (raise_one w safe) ∙ own (eqb-true k l e) (open_on t l h)
    go true false e = next ∙ ih (raise_one w safe) ∙ ap (λ s. if open_on t l h then max s (marked_store t l h) else s) (raise-other (suc (length h)) k l (last_line_store k h) safe e)

raised-all : (t l : ℕ) (h : List Act) (safe : ℕ → ℕ) → RaisesTo t l h safe
raised-all t l [] safe = refl
raised-all t l (Stores k w ∷ h) safe = raised-all t l h safe
raised-all t l (Flushes u k ∷ h) safe = raised-flush t l u k h safe (raised-all t l h)
raised-all t l (Clflushes k ∷ h) safe = raised-all t l h safe
raised-all t l (Fences u ∷ h) safe = go (u == t) (raised-all t l h safe)
  where
    go : (b : Bool) → RaisesTo t l h safe → (let ws : List Waiting = if b then [] else waiting t h in raise_all ws safe l) ≡ (if not b && open_on t l h then max (safe l) (marked_store t l h) else safe l)
    go true ih = refl
    go false ih = ih
raised-all t l (Asserts ∷ h) safe = raised-all t l h safe

pub fence-raises : FenceRaises
fence-raises t l h = raised-all t l h (λ k. safe_store k h) ∙ go (open_on t l h) refl
  where
    go : (b : Bool) → open_on t l h ≡ b → (if b then max (safe_store l h) (marked_store t l h) else safe_store l h) ≡ max (safe_store l h) (marked_store t l h)
    go true on = refl
    go false none = omega (arith, fenced-safe t l h none)

-- ---- Whether there is one

never-empty : (ws : List Waiting) (w : Waiting) → ws ++ w ∷ [] ≡ [] → ⊥
never-empty [] w e = absurd (cc)
never-empty (v ∷ ws) w e = absurd (cc)

pub open-tells : OpenTells
open-tells t [] = (λ e. absurd (cc), λ some. absurd (some refl))
open-tells t (Stores k w ∷ h) = open-tells t h
open-tells t (Flushes u k ∷ h) = go (u == t) (open-tells t h)
  where
    w : Waiting
    w = record { number = suc (length h); line = k; store = last_line_store k h }

    go : (b : Bool) → (has_open_flush t h ≡ true) ↔ (waiting t h ≢ []) → ((b || has_open_flush t h) ≡ true) ↔ ((let ws : List Waiting = if b then waiting t h ++ w ∷ [] else waiting t h in ws) ≢ [])
    go true ih = (λ on. never-empty (waiting t h) w, λ some. refl)
    go false ih = ih
open-tells t (Clflushes k ∷ h) = open-tells t h
open-tells t (Fences u ∷ h) = go (u == t) (open-tells t h)
  where
    go : (b : Bool) → (has_open_flush t h ≡ true) ↔ (waiting t h ≢ []) → ((not b && has_open_flush t h) ≡ true) ↔ ((let ws : List Waiting = if b then [] else waiting t h in ws) ≢ [])
    go true ih = (λ e. let never : false ≡ true = e in absurd (cc), λ some. absurd (some refl))
    go false ih = ih
open-tells t (Asserts ∷ h) = open-tells t h
