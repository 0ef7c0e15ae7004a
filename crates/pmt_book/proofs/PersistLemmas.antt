-- An isPersist passes exactly if, on each line of its range, no store past the front writes a byte of it.
use Rattle.std.proofs.Common.{◌≡◌, ◌≢◌, ℕ, zero, suc, ◌+◌, ◌-◌, ◌<◌, ◌≤◌, ◌⊎◌, inl, inr, Bool, true, false, List, [], ◌∷◌, ◌++◌, length, map, reverse, Option, Some, None, IfSome, max, refl, sym, ap, subst, ◌∙◌, arith, le_trans}
use Rattle.std.specs.Prelude.{◌==◌, ◌&&◌, not, nat_lt, if◌then◌else◌}
use Rattle.std.proofs.lemmas.List.{reverse-append}
use Rattle.std.proofs.lemmas.Bool.{eq-eqb, ne_eqb, cases_lt, cases_eq, true≢false, ltb-true}
use Rattle.pmt_laws.specs.Prelude.{Event, Op, Store, Written, Span, Layout, line_of, IsRange, Act, Stores, count, writes, front, Recording, IsTrace, IsEventIn, IsOp, act, act_of, Placed, last_store, InSpan, AllByRecursion}
use Rattle.pmt_laws.proofs.AssertLemmas.{persist_by_fronts}
use Rattle.pmt_book.specs.Live.{whole_history, last_front, last_count, PassesNow, touches, store_on, none_touches_next, none_touches}
use Rattle.pmt_book.proofs.HistoryLemmas.{whole_history-acts}
use Rattle.pmt_book.proofs.StoreBytes.{IsStoreOf, IsSize, size-of_format, byte-line, byte-from_writes, writes-from_byte, line-le}

-- Each store of the history is within its limits, and of its line.
abbrev pub IsPlaced : Layout → List Act → Type 0
IsPlaced f [] = Unit {0}
IsPlaced f (Stores k w ∷ h) = IsStoreOf f k w × IsPlaced f h
IsPlaced f (a ∷ h) = IsPlaced f h

placed-append : (f : Layout) (g h : List Act) → IsPlaced f g → IsPlaced f h → IsPlaced f (g ++ h)
placed-append f [] h p q = q
placed-append f (Stores k w ∷ g) h p q = (p.0, placed-append f g h p.1 q)
placed-append f (a ∷ g) h p q = placed-append f g h p q

placed-op : (f : Layout) (t : ℕ) (op : Op) → IsOp op → IsPlaced f (act_of f t op ∷ [])
placed-op f t (Store w) is = (record { store = is; line = refl }, tt)
placed-op f t b is = tt

placed-acts : (f : Layout) (es : List Event) → AllByRecursion (IsEventIn f) es → IsPlaced f (reverse (map (act f) es))
placed-acts f [] all = tt
placed-acts f (e ∷ es) all =
    let P : List Act → Type 0 = λ h. IsPlaced f h in
    subst P (sym (reverse-append (act f e ∷ []) (map (act f) es)))
    (placed-append f (reverse (map (act f) es)) (act f e ∷ []) (placed-acts f es all.1) (placed-op f e.thread e.op all.0.event.op))

-- so are those of a trace
pub placed-trace : (T : Recording) → IsTrace T → IsPlaced T.format (whole_history T)
placed-trace T is = let P : List Act → Type 0 = λ h. IsPlaced T.format h in subst P (sym (whole_history-acts T)) (placed-acts T.format T.events is.each)

-- the last store to a byte is of the byte's line, and counted there
pub last_store-placed : (f : Layout) (h : List Act) (a : ℕ) → IsSize f.line_size → IsPlaced f h → IfSome (last_store a h) (λ x. (line_of f a ≡ x.line) × (x.rank ≤ count x.line h))
last_store-placed f [] a size p = tt
last_store-placed f (Stores k w ∷ h) a size p = go (writes w a) refl (last_store-placed f h a size p.1)
  where
    own : count k (Stores k w ∷ h) ≡ suc (count k h)
    own = rw (eq-eqb k k refl) refl

    grows : (l : ℕ) → count l h ≤ count l (Stores k w ∷ h)
    grows l = more (k == l)
      where
        more : (b : Bool) → count l h ≤ (if b then suc (count l h) else count l h)
        more true = omega arith
        more false = omega arith

    older : (o : Option Placed) → IfSome o (λ x. (line_of f a ≡ x.line) × (x.rank ≤ count x.line h)) → IfSome o (λ x. (line_of f a ≡ x.line) × (x.rank ≤ count x.line (Stores k w ∷ h)))
    older None q = tt
    older (Some x) q = (q.0, le_trans q.1 (grows x.line))

    go : (b : Bool) → writes w a ≡ b → IfSome (last_store a h) (λ x. (line_of f a ≡ x.line) × (x.rank ≤ count x.line h)) →
        IfSome (if b then Some (record { line = k; rank = suc (count k h) }) else last_store a h) (λ x. (line_of f a ≡ x.line) × (x.rank ≤ count x.line (Stores k w ∷ h)))
    go true e q = (byte-line f k a w size p.0 e, omega (arith, own))
    go false e q = older (last_store a h) q
last_store-placed f (b ∷ h) a size p = last_store-placed f h a size p

-- The last store to each byte of the range that lies on line l is among the first m of the line.
abbrev pub IsCovered : Layout → ℕ → ℕ → Span → List Act → Type 0
IsCovered f l m A h = (a : ℕ) → InSpan A a → line_of f a ≡ l → IfSome (last_store a h) (λ x. x.rank ≤ m)

-- so it is where the line has no more stores
covered-few : (f : Layout) (l m : ℕ) (A : Span) (h : List Act) → IsSize f.line_size → IsPlaced f h → count l h ≤ m → IsCovered f l m A h
covered-few f l m A h size p few a i at = go (last_store a h) (last_store-placed f h a size p)
  where
    go : (o : Option Placed) → IfSome o (λ x. (line_of f a ≡ x.line) × (x.rank ≤ count x.line h)) → IfSome o (λ x. x.rank ≤ m)
    go None q = tt
    go (Some x) q = let same : count x.line h ≡ count l h = ap (λ (k : ℕ). count k h) (sym q.0 ∙ at) in omega (arith, q.1, same, few)

-- a byte of a store that lies in the range is a byte that both have
touches-from_byte : (w : Written) (A : Span) (a : ℕ) → writes w a ≡ true → InSpan A a → touches w A ≡ true
touches-from_byte w A a e i = let b = byte-from_writes w a e in grind (arith, i.0, i.1, b.0, b.1)

-- a store that touches the range writes a byte of it
byte-from_touches : (w : Written) (A : Span) → 1 ≤ length w.bytes → 1 ≤ A.len → touches w A ≡ true → (a : ℕ) × InSpan A a × (writes w a ≡ true)
byte-from_touches w A some wide e = go (nat_lt w.addr (A.addr + A.len)) (nat_lt A.addr (w.addr + length w.bytes)) refl refl e
  where
    go : (x y : Bool) → nat_lt w.addr (A.addr + A.len) ≡ x → nat_lt A.addr (w.addr + length w.bytes) ≡ y → (x && y) ≡ true → (a : ℕ) × InSpan A a × (writes w a ≡ true)
    go true true p q f =
        let from = ltb-true w.addr (A.addr + A.len) p in
        let to = ltb-true A.addr (w.addr + length w.bytes) q in
        (max w.addr A.addr, (omega arith, omega (arith, from, wide)), writes-from_byte w (max w.addr A.addr) (omega arith, omega (arith, to, some)))
    go true false p q f = absurd (true≢false (sym f))
    go false y p q f = absurd (true≢false (sym f))

-- an act that is no store to the line changes nothing
none_touches-other : (n l : ℕ) (A : Span) (a : Act) (h : List Act) → store_on l a ≡ None → none_touches n l A (a ∷ h) ≡ none_touches n l A h
none_touches-other (suc n) l A a h e = ap (λ (o : Option Written). none_touches_next o A (none_touches n l A h) (none_touches (suc n) l A h)) e
none_touches-other zero l A a c e = refl

-- a store to another line writes no byte of this one
other-line : (f : Layout) (l k a : ℕ) (w : Written) → IsSize f.line_size → IsStoreOf f k w → k ≢ l → line_of f a ≡ l → writes w a ≡ false
other-line f l k a w size store other at = go (writes w a) refl
  where
    go : (b : Bool) → writes w a ≡ b → b ≡ false
    go true e = absurd (other (sym (byte-line f k a w size store e) ∙ at))
    go false e = refl

-- the last store to a byte that the newest store does not write
older_store : (k a : ℕ) (w : Written) (h : List Act) → writes w a ≡ false → last_store a (Stores k w ∷ h) ≡ last_store a h
older_store k a w h e = rw e refl

-- and to one that it writes
newest_store : (k a : ℕ) (w : Written) (h : List Act) → writes w a ≡ true → last_store a (Stores k w ∷ h) ≡ Some (record { line = k; rank = suc (count k h) })
newest_store k a w h e = rw e refl

-- what is said of the last store goes along
along : (m : ℕ) (o p : Option Placed) → o ≡ p → IfSome p (λ x. x.rank ≤ m) → IfSome o (λ x. x.rank ≤ m)
along m o p e q = let P : Option Placed → Type 0 = λ r. IfSome r (λ x. x.rank ≤ m) in subst P (sym e) q

-- a store to the line counts
count-own : (l k : ℕ) (w : Written) (h : List Act) → k ≡ l → count l (Stores k w ∷ h) ≡ suc (count l h)
count-own l k w h e = rw (eq-eqb k l e) refl

count-other : (l k : ℕ) (w : Written) (h : List Act) → k ≢ l → count l (Stores k w ∷ h) ≡ count l h
count-other l k w h e = rw (ne_eqb k l e) refl

-- the newest store past the first m is one of the line
none_touches-own : (l k m : ℕ) (A : Span) (w : Written) (h : List Act) → k ≡ l → m ≤ count l h →
    none_touches (count l (Stores k w ∷ h) - m) l A (Stores k w ∷ h) ≡ (not (touches w A) && none_touches (count l h - m) l A h)
none_touches-own l k m A w h e few =
    let n : count l (Stores k w ∷ h) - m ≡ suc (count l h - m) = omega (arith, count-own l k w h e) in
    let own : store_on l (Stores k w) ≡ Some w = rw (eq-eqb k l e) refl in
    ap (λ (j : ℕ). none_touches j l A (Stores k w ∷ h)) n
    ∙ ap (λ (o : Option Written). none_touches_next o A (none_touches (count l h - m) l A h) (none_touches (suc (count l h - m)) l A h)) own

-- no store of the line is past the first m where there are no more
none_touches-few : (n l : ℕ) (A : Span) (h : List Act) → n ≡ 0 → none_touches n l A h ≡ true
none_touches-few n l A h e = ap (λ (j : ℕ). none_touches j l A h) e

-- stores to other lines and other acts change nothing
none_touches-skip : (l k m : ℕ) (A : Span) (w : Written) (h : List Act) → k ≢ l → none_touches (count l (Stores k w ∷ h) - m) l A (Stores k w ∷ h) ≡ none_touches (count l h - m) l A h
none_touches-skip l k m A w h other =
    ap (λ (c : ℕ). none_touches (c - m) l A (Stores k w ∷ h)) (count-other l k w h other)
    ∙ none_touches-other (count l h - m) l A (Stores k w) h (rw (ne_eqb k l other) refl)

-- where the newest stores of the line spare the range, the last store to each of its bytes there is among the first m
pub covered-from_spares :
    (f : Layout) (l m : ℕ) (A : Span) (h : List Act) → IsSize f.line_size → IsPlaced f h → none_touches (count l h - m) l A h ≡ true → IsCovered f l m A h
covered-from_spares f l m A [] size p e = λ a i at. tt
covered-from_spares f l m A (Stores k w ∷ h) size p e = go (cases_eq k l) (cases_lt (count l h) m) (covered-from_spares f l m A h size p.1)
  where
    split : (x y : Bool) → (not x && y) ≡ true → (x ≡ false) × (y ≡ true)
    split true y q = absurd (true≢false (sym q))
    split false y q = (refl, q)

    newest : (a : ℕ) → InSpan A a → touches w A ≡ false → writes w a ≡ false
    newest a i t = by (writes w a) refl
      where
        by : (b : Bool) → writes w a ≡ b → b ≡ false
        by true q = absurd (true≢false (sym (touches-from_byte w A a q i) ∙ t))
        by false q = refl

    go : (k ≡ l) ⊎ (k ≡ l → ⊥) → (count l h < m) ⊎ (m ≤ count l h) → (none_touches (count l h - m) l A h ≡ true → IsCovered f l m A h) → IsCovered f l m A (Stores k w ∷ h)
    go (inl same) (inl few) older = covered-few f l m A (Stores k w ∷ h) size p (omega (arith, count-own l k w h same, few))
    go (inl same) (inr more) older = λ a i at.
        let both = split (touches w A) (none_touches (count l h - m) l A h) (sym (none_touches-own l k m A w h same more) ∙ e) in
        along m (last_store a (Stores k w ∷ h)) (last_store a h) (older_store k a w h (newest a i both.0)) (older both.1 a i at)
    go (inr other) few older = λ a i at.
        along m (last_store a (Stores k w ∷ h)) (last_store a h) (older_store k a w h (other-line f l k a w size p.0 other at))
        (older (sym (none_touches-skip l k m A w h other) ∙ e) a i at)
covered-from_spares f l m A (b ∷ h) size p e = covered-from_spares f l m A h size p (sym (none_touches-other (count l h - m) l A b h refl) ∙ e)

-- and the other way round
pub none_touches-from_covered :
    (f : Layout) (l m : ℕ) (A : Span) (h : List Act) → IsSize f.line_size → IsPlaced f h → 1 ≤ A.len → IsCovered f l m A h → none_touches (count l h - m) l A h ≡ true
none_touches-from_covered f l m A [] size p wide c = none (count l [] - m)
  where
    none : (n : ℕ) → none_touches n l A [] ≡ true
    none zero = refl
    none (suc n) = refl
none_touches-from_covered f l m A (Stores k w ∷ h) size p wide c = go (cases_eq k l) (cases_lt (count l h) m) (none_touches-from_covered f l m A h size p.1 wide)
  where
    above : (n : ℕ) (o : Option Placed) (x : Placed) → o ≡ Some x → IfSome o (λ y. y.rank ≤ n) → x.rank ≤ n
    above n o x q r = let P : Option Placed → Type 0 = λ s. IfSome s (λ y. y.rank ≤ n) in subst P q r

    untouched : k ≡ l → m ≤ count l h → touches w A ≡ false
    untouched same more = by (touches w A) refl
      where
        by : (b : Bool) → touches w A ≡ b → b ≡ false
        by true q =
            let byte = byte-from_touches w A p.0.store.some wide q in
            let low : suc (count k h) ≤ m =
            above m (last_store byte.0 (Stores k w ∷ h)) (record { line = k; rank = suc (count k h) }) (newest_store k byte.0 w h byte.2)
            (c byte.0 byte.1 (byte-line f k byte.0 w size p.0 byte.2 ∙ same)) in
            let counts : count k h ≡ count l h = ap (λ (j : ℕ). count j h) same in
            absurd (omega (arith, low, counts, more))
        by false q = refl

    older : (a : ℕ) → InSpan A a → line_of f a ≡ l → writes w a ≡ false → IfSome (last_store a h) (λ x. x.rank ≤ m)
    older a i at q = along m (last_store a h) (last_store a (Stores k w ∷ h)) (sym (older_store k a w h q)) (c a i at)

    unwritten : (a : ℕ) → InSpan A a → touches w A ≡ false → writes w a ≡ false
    unwritten a i t = by (writes w a) refl
      where
        by : (b : Bool) → writes w a ≡ b → b ≡ false
        by true q = absurd (true≢false (sym (touches-from_byte w A a q i) ∙ t))
        by false q = refl

    both : (x y : Bool) → x ≡ false → y ≡ true → (not x && y) ≡ true
    both x y q r = rw (q, r) refl

    go : (k ≡ l) ⊎ (k ≡ l → ⊥) → (count l h < m) ⊎ (m ≤ count l h) → (IsCovered f l m A h → none_touches (count l h - m) l A h ≡ true) →
        none_touches (count l (Stores k w ∷ h) - m) l A (Stores k w ∷ h) ≡ true
    go (inl same) (inl few) next = none_touches-few (count l (Stores k w ∷ h) - m) l A (Stores k w ∷ h) (omega (arith, count-own l k w h same, few))
    go (inl same) (inr more) next =
        none_touches-own l k m A w h same more
        ∙ both (touches w A) (none_touches (count l h - m) l A h) (untouched same more) (next (λ a i at. older a i at (unwritten a i (untouched same more))))
    go (inr other) few next = none_touches-skip l k m A w h other ∙ next (λ a i at. older a i at (other-line f l k a w size p.0 other at))
none_touches-from_covered f l m A (a ∷ h) size p wide c = none_touches-other (count l h - m) l A a h refl ∙ none_touches-from_covered f l m A h size p wide c

-- how many stores to line l may still be lost spare the range
abbrev pub IsSpared : Recording → Span → ℕ → Type 0
IsSpared T A l = none_touches (last_count T l - last_front T l) l A (whole_history T) ≡ true

-- a verdict that passes
pub spared-from_passes : (T : Recording) (A : Span) (l : ℕ) → IsTrace T → IsRange A → PassesNow T A → IsSpared T A l
spared-from_passes T A l is range passes =
    let h = whole_history T in
    let size = size-of_format T.format is.format in
    let placed = placed-trace T is in
    let covered = (persist_by_fronts h A).0 passes in
    none_touches-from_covered T.format l (front l h) A h size placed range.some
    (λ a i at. here a (last_store a h) at (last_store-placed T.format h a size placed) (covered a i))
  where
    here : (a : ℕ) (o : Option Placed) → line_of T.format a ≡ l → IfSome o (λ x. (line_of T.format a ≡ x.line) × (x.rank ≤ count x.line (whole_history T))) →
        IfSome o (λ x. x.rank ≤ front x.line (whole_history T)) → IfSome o (λ x. x.rank ≤ front l (whole_history T))
    here a None at p q = tt
    here a (Some x) at p q = let same : front x.line (whole_history T) ≡ front l (whole_history T) = ap (λ (k : ℕ). front k (whole_history T)) (sym p.0 ∙ at) in omega (arith, same, q)

-- passes where each line of the range is spared
pub passes-from_spared :
    (T : Recording) (A : Span) (first last : ℕ) → IsTrace T → IsRange A → first ≡ line_of T.format A.addr → last ≡ line_of T.format (A.addr + (A.len - 1)) →
    ((l : ℕ) → first ≤ l → l < last + 1 → IsSpared T A l) → PassesNow T A
passes-from_spared T A first last is range from to spared =
    (persist_by_fronts (whole_history T) A).1 (λ a i.
    let size = size-of_format T.format is.format in
    let placed = placed-trace T is in
    let l = line_of T.format a in
    let low = line-le T.format A.addr a size i.0 in
    let high = line-le T.format a (A.addr + (A.len - 1)) size (omega (arith, i.1, range.some)) in
    here a (last_store a (whole_history T)) (last_store-placed T.format (whole_history T) a size placed)
    (covered-from_spares T.format l (front l (whole_history T)) A (whole_history T) size placed
    (spared l (omega (arith, low, from)) (omega (arith, high, to))) a i refl))
  where
    here : (a : ℕ) (o : Option Placed) → IfSome o (λ x. (line_of T.format a ≡ x.line) × (x.rank ≤ count x.line (whole_history T))) →
        IfSome o (λ x. x.rank ≤ front (line_of T.format a) (whole_history T)) → IfSome o (λ x. x.rank ≤ front x.line (whole_history T))
    here a None p q = tt
    here a (Some x) p q = let same : front x.line (whole_history T) ≡ front (line_of T.format a) (whole_history T) = ap (λ (k : ℕ). front k (whole_history T)) (sym p.0) in omega (arith, same, q)

-- what the book counts is what its events say
pub counted-none_touches :
    (T : Recording) (l : ℕ) (A : Span) (f : Layout) (es : List Event) (n : ℕ) → f ≡ T.format → es ≡ T.events → n ≡ last_count T l - last_front T l →
    none_touches n l A (reverse (map (act f) es)) ≡ none_touches (last_count T l - last_front T l) l A (whole_history T)
counted-none_touches T l A f es n e g few =
    ap (λ (j : ℕ). none_touches j l A (reverse (map (act f) es))) few
    ∙ ap (λ (h : Layout). none_touches (last_count T l - last_front T l) l A (reverse (map (act h) es))) e
    ∙ ap (λ (x : List Event). none_touches (last_count T l - last_front T l) l A (reverse (map (act T.format) x))) g
    ∙ ap (none_touches (last_count T l - last_front T l) l A) (sym (whole_history-acts T))
