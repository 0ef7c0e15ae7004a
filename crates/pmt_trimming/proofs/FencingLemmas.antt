-- What a pass does at a fence.
use Rattle.std.proofs.Common.{◌≡◌, ◌≢◌, ℕ, zero, suc, ◌+◌, ◌-◌, ◌<◌, ◌≤◌, ◌⊎◌, inl, inr, Bool, false, List, [], ◌∷◌, ◌++◌, length, max, get_or, set, map, take, drop, Some, refl, sym, ap, subst, ◌∙◌, arith}
use Rattle.std.specs.Prelude.{◌↔◌, ◌||◌, nat_lt, slice_get, All}
use Rattle.std.proofs.lemmas.Bool.{cases_eq, cases_lt, lt-ltb, ltb-true}
use Rattle.std.proofs.lemmas.List.{get_or-map, length-map, map-append, drop_all, take_all, take-append-drop}
use Rattle.std.proofs.lemmas.Option.{same_Some}
use Rattle.std.proofs.Math.Seq.{take-suc}
use Rattle.pmt_laws.specs.Prelude.{Event, Flushes, Fences, last_flush, Recording, act, IsAct, history, lines_of, with_event, Has, IsKept, AllByRecursion}
use Rattle.pmt_laws.specs.Passing.{IsOpenFlush, IsDecided, Flushed, open_flushes}
use Rattle.pmt_laws.proofs.Histories.{act-within, act-unique}
use Rattle.pmt_laws.proofs.PassLemmas as laws
use Rattle.pmt_laws.proofs.PassLemmas.{IsOpenOf, are_open}
use Rattle.pmt_safety.specs.Safety.{last_line_store, safe_store, safe_store_at}
use Rattle.pmt_rows.specs.declared.rows.Rows.{Rows}
use Rattle.pmt_rows.specs.declared.open.OpenFlush.{OpenFlush}
use Rattle.pmt_rows.specs.Known.{raised, IsKnownWith}
use Rattle.pmt_rows.specs.Waiting.{Waiting, list_at, waiting, waits, raise_all, some_raises, waits_all}
use Rattle.pmt_rows.proofs.FencingLemmas.{line_in, from-before, raising-next}
use Rattle.pmt_rows.proofs.KeepingLemmas.{open-numbers, kept_by_raise, fence_kept_by_raise, fenced-known}
use Rattle.pmt_rows.proofs.OpenLemmas.{waits-on}
use Rattle.pmt_trimming.specs.declared.pass.Mark.{Mark}
use Rattle.pmt_trimming.specs.declared.pass.Mark.TheVariants as marks
use Rattle.pmt_trimming.specs.declared.pass.Pass.{Pass}
use Rattle.pmt_trimming.specs.Passing.{AreLines, TellsMark, mark_from, IsPassOf, number_of, AreMarksBut, AreAtFence, ArePastFence}
use Rattle.pmt_trimming.proofs.PassingLemmas.{last-act, length-last, history-same, tells-more, tells-from}

-- ---- The flushes of a pass are open

numbers-same : (lines : List ℕ) (flushes : List OpenFlush) → map (λ (w : Waiting). w.number) (map (waits lines) flushes) ≡ map number_of flushes
numbers-same lines [] = refl
numbers-same lines (f ∷ flushes) = ap (λ ks. f.number ∷ ks) (numbers-same lines flushes)

-- what holds of each open flush, by its number
each-number : (T : Recording) (t n : ℕ) (P : ℕ → Type 0) (flushes : List Flushed) → ((f : Flushed) → IsOpenOf T t n f → P f.number) → AllByRecursion (IsOpenOf T t n) flushes → All P (map laws.number_of flushes)
each-number T t n P [] from each = λ k d h. absurd (omega arith)
each-number T t n P (f ∷ flushes) from each = all (each-number T t n P flushes from each.1)
  where
    all : All P (map laws.number_of flushes) → All P (map laws.number_of (f ∷ flushes))
    all rest zero d h = from f each.0
    all rest (suc k) d h = rest k d (omega arith)

module _ (T : Recording) (e : Event) (t : ℕ) (is : act T.format e ≡ Fences t) (p : Pass) (before : IsPassOf T p) where
  numbers : map laws.number_of (open_flushes t (history T (length T.events))) ≡ map number_of (list_at t p.waiting)
  numbers =
      sym (open-numbers T t (length T.events)) ∙ ap (map (λ (w : Waiting). w.number)) (sym (before.lines.waiting.each t))
      ∙ numbers-same (lines_of (history T (length T.events))) (list_at t p.waiting)

  -- each has a mark
  have-marks : All (λ k. (p.settled < k) × (k ≤ p.settled + length p.marks.items)) (map number_of (list_at t p.waiting))
  have-marks = subst (All (λ k. (p.settled < k) × (k ≤ p.settled + length p.marks.items))) numbers
      (each-number T t (length T.events) (λ k. (p.settled < k) × (k ≤ p.settled + length p.marks.items)) (open_flushes t (history T (length T.events))) range (are_open T t (length T.events)).each)
    where
      range : (f : Flushed) → IsOpenOf T t (length T.events) f → (p.settled < f.number) × (f.number ≤ p.settled + length p.marks.items)
      range f one = (go (cases_lt p.settled f.number), omega (arith, one.by_now, before.all))
        where
          go : (p.settled < f.number) ⊎ (f.number ≤ p.settled) → p.settled < f.number
          go (inl less) = less
          go (inr early) =
              let fence = (before.before f.number early).fenced t f.line one.is_flush in
              absurd (one.unfenced fence.0 fence.1 (act-within T fence.0 (Fences t) fence.2).1 fence.2)

  -- and is decided by the fence
  are-decided : All (λ k. IsDecided (with_event T e) k) (map number_of (list_at t p.waiting))
  are-decided = subst (All (λ k. IsDecided (with_event T e) k)) (ap (λ h. map laws.number_of (open_flushes t h)) (history-same T e) ∙ numbers)
      (each-number (with_event T e) t (length T.events) (λ k. IsDecided (with_event T e) k) (open_flushes t (history (with_event T e) (length T.events))) decided (are_open (with_event T e) t (length T.events)).each)
    where
      decided : (f : Flushed) → IsOpenOf (with_event T e) t (length T.events) f → IsDecided (with_event T e) f.number
      decided f one = record {
        by_now = omega (arith, one.by_now, length-last T e);
        fenced = λ u l flush.
            let equal = act-unique (with_event T e) f.number (Flushes t f.line) (Flushes u l) one.is_flush flush in
            let thread : t ≡ u = cc in
            (suc (length T.events), omega (arith, one.by_now), subst (λ v. IsAct (with_event T e) (suc (length T.events)) (Fences v)) thread (last-act T e (Fences t) is));
      }

  fence-marks : (k : ℕ) (m : Mark) → TellsMark T k m → TellsMark (with_event T e) k m ⊎ Has (map number_of (list_at t p.waiting)) k
  fence-marks k marks.Kept told = inl (tells-more T e k marks.Kept (λ o no_open fence. cc) told)
  fence-marks k marks.Dropped told = inl (tells-more T e k marks.Dropped (λ o no_open fence. cc) told)
  fence-marks k marks.Open o = go (cases_eq o.thread t)
    where
      go : (o.thread ≡ t) ⊎ (o.thread ≡ t → ⊥) → TellsMark (with_event T e) k marks.Open ⊎ Has (map number_of (list_at t p.waiting)) k
      go (inl own) =
          inr (subst (λ ks. Has ks k) numbers
          ((are_open T t (length T.events)).all k o.line (subst (λ u. IsAct T k (Flushes u o.line)) own o.is_flush) (act-within T k (Flushes o.thread o.line) o.is_flush).1
          (λ j after by_now fence. o.unfenced j after (subst (λ u. IsAct T j (Fences u)) (sym own) fence))))
      go (inr other) = inl (tells-more T e k marks.Open (λ x yes_open fence. at x (sym is ∙ fence)) o)
        where
          at : (x : IsOpenFlush T k) → Fences t ≡ Fences x.thread → ⊥
          at x e = let flush = act-unique T k (Flushes x.thread x.line) (Flushes o.thread o.line) x.is_flush o.is_flush in other (cc)

  -- they wait for the fence
  pub at-fence : (flushes : List OpenFlush) → flushes ≡ list_at t p.waiting → AreAtFence (with_event T e) (length T.events) (lines_of (history T (length T.events))) p.settled p.rows p.marks.items flushes
  at-fence flushes same = rw same (record {
    thread = t;
    fence = last-act T e (Fences t) is;
    known = rw (history-same T e) before.lines.rows;
    waiting = rw (history-same T e) (before.lines.waiting.each t);
    within = before.lines.waiting.within t;
    marked = have-marks;
    decided = are-decided;
    marks = λ i m at. fence-marks (suc (p.settled + i)) m (before.marks i m at);
  })

  -- what is known of the lines after it
  pub lines-past : (flushes : List OpenFlush) (rows : Rows) (list : List Mark) (rises : Bool) (new : List (List OpenFlush)) → flushes ≡ list_at t p.waiting →
      ArePastFence (with_event T e) (length T.events) (lines_of (history T (length T.events))) p.settled flushes rows list rises →
      list_at t new ≡ [] → ((u : ℕ) → u ≢ t → list_at u new ≡ list_at u p.waiting) → AreLines (lines_of (history T (length T.events))) (Fences t ∷ history T (length T.events)) rows new
  lines-past flushes rows list rises new same past own others =
      let h = history T (length T.events) in
      let now : IsKnownWith (lines_of h) h (raise_all (waits_all (lines_of h) flushes) (λ l. safe_store l h)) rows =
      subst (λ (x : List Rattle.pmt_model.specs.Machine.Act). IsKnownWith (lines_of h) x (raise_all (waits_all (lines_of h) flushes) (λ l. safe_store l x)) rows) (history-same T e) past.known in
      let waited : waits_all (lines_of h) flushes ≡ waiting t h = ap (waits_all (lines_of h)) same ∙ before.lines.waiting.each t in
      record {
        rows = fenced-known (lines_of h) t h rows (subst (λ ws. IsKnownWith (lines_of h) h (raise_all ws (λ l. safe_store l h)) rows) waited now);
        waiting = (waits-on last_line_store).fence (lines_of h) t h p.waiting new own others before.lines.waiting;
      }

-- ---- Flush by flush

set-same : (list : List Mark) (p : ℕ) (y m : Mark) → slice_get (set list p y) p ≡ Some m → y ≡ m
set-same [] p y m is = absurd (cc)
set-same (x ∷ list) zero y m is = same_Some y m is
set-same (x ∷ list) (suc p) y m is = set-same list p y m is

set-other : (list : List Mark) (p q : ℕ) (y : Mark) → q ≢ p → slice_get (set list p y) q ≡ slice_get list q
set-other [] p q y other = refl
set-other (x ∷ list) zero zero y other = absurd (other refl)
set-other (x ∷ list) zero (suc q) y other = refl
set-other (x ∷ list) (suc p) zero y other = refl
set-other (x ∷ list) (suc p) (suc q) y other = set-other list p q y (λ e. other (ap suc e))

-- a flush that is no other one of them is one of the older ones
has-older : (older : List OpenFlush) (f : OpenFlush) (k : ℕ) → Has (map number_of (older ++ f ∷ [])) k → (f.number ≡ k → ⊥) → Has (map number_of older) k
has-older [] f k (inl own) other = absurd (other own)
has-older [] f k (inr none) other = absurd none
has-older (g ∷ older) f k (inl here) other = inl here
has-older (g ∷ older) f k (inr has) other = inr (has-older older f k has other)

-- one flush more is marked
mark-one : (T : Recording) (settled : ℕ) (older : List OpenFlush) (f : OpenFlush) (list : List Mark) (mark : Mark) → settled < f.number → TellsMark T f.number mark → AreMarksBut T settled list (older ++ f ∷ []) →
    AreMarksBut T settled (set list (f.number - settled - 1) mark) older
mark-one T settled older f list mark marked one all x m is = elim (cases_eq x (f.number - settled - 1)) [
  | inl e ↦
      let here = set-same list (f.number - settled - 1) mark m (subst (λ y. slice_get (set list (f.number - settled - 1) mark) y ≡ Some m) e is) in
      let number : f.number ≡ suc (settled + x) = omega arith in
      inl (subst (λ k. TellsMark T k m) number (subst (λ y. TellsMark T f.number y) here one))
  | inr other ↦ elim (all x m (sym (set-other list (f.number - settled - 1) x mark other) ∙ is)) [
    | inl known ↦ inl known
    | inr has ↦ inr (has-older older f (suc (settled + x)) has (λ e. other (omega arith)))
  ]
]

-- the flushes from place i on have been decided
pub record IsDeciding (T : Recording) (n : ℕ) (lines : List ℕ) (settled : ℕ) (flushes : List OpenFlush) (rows : Rows) (list : List Mark) (i : ℕ) (rises : Bool) : Type 0 where
  pub known : IsKnownWith lines (history T n) (raise_all (waits_all lines (drop i flushes)) (λ l. safe_store_at T l n)) rows
  pub tells : rises ≡ some_raises (waits_all lines (drop i flushes)) (λ l. safe_store_at T l n)
  pub marks : AreMarksBut T settled list (take i flushes)

module _ (T : Recording) (n : ℕ) (lines : List ℕ) (settled : ℕ) (flushes : List OpenFlush) (first : Rows) (before : List Mark) (at : AreAtFence T n lines settled first before flushes) where
  safe-then : ℕ → ℕ
  safe-then l = safe_store_at T l n

  -- a flush has a mark
  pub has-mark : (j : ℕ) (d : OpenFlush) → j < length flushes → (settled < (get_or flushes j d).number) × ((get_or flushes j d).number ≤ settled + length before)
  has-mark j d within = subst (λ k. (settled < k) × (k ≤ settled + length before)) (get_or-map number_of flushes j d 0 within) (at.marked j 0 (omega (arith, length-map flushes number_of)))

  pub deciding-none : (i : ℕ) → i ≡ length flushes → IsDeciding T n lines settled flushes first before i false
  deciding-none i e =
      let none : drop i flushes ≡ [] = drop_all i flushes (omega (arith, e)) in
      let all : take i flushes ≡ flushes = take_all i flushes (omega (arith, e)) in
      record {
        known = subst (λ fs. IsKnownWith lines (history T n) (raise_all (waits_all lines fs) (λ l. safe_store_at T l n)) first) (sym none) at.known;
        tells = ap (λ fs. some_raises (waits_all lines fs) (λ l. safe_store_at T l n)) (sym none);
        marks = subst (AreMarksBut T settled before) (sym all) at.marks;
      }

  module _ (i : ℕ) (x : OpenFlush) (some : 0 < i) (within : i ≤ length flushes) (read : x ≡ get_or flushes (i - 1) x) where
    older-split : take i flushes ≡ take (i - 1) flushes ++ x ∷ []
    older-split =
        let e : suc (i - 1) ≡ i = omega arith in
        ap (λ k. take k flushes) (sym e) ∙ take-suc flushes (i - 1) x (omega arith) ∙ ap (λ y. take (i - 1) flushes ++ y ∷ []) (sym read)

    -- the flush is kept exactly where it raises its line
    flush-kept : IsKept T x.number ↔ (raise_all (waits_all lines (drop i flushes)) (λ l. safe_store_at T l n) (line_in lines x) < x.store)
    flush-kept =
        let parts : flushes ≡ take (i - 1) flushes ++ x ∷ drop i flushes = sym (take-append-drop (i - 1) flushes) ∙ ap (λ fs. take (i - 1) flushes ++ fs) (from-before flushes i x some within read) in
        let split : waiting at.thread (history T n) ≡ waits_all lines (take (i - 1) flushes) ++ waits lines x ∷ waits_all lines (drop i flushes) =
        sym at.waiting ∙ ap (waits_all lines) parts ∙ map-append (waits lines) (take (i - 1) flushes) (x ∷ drop i flushes) in
        kept_by_raise T at.thread n (waits_all lines (take (i - 1) flushes)) (waits_all lines (drop i flushes)) (waits lines x) at.fence split

    flush-told : (raises : Bool) → raises ≡ nat_lt (raise_all (waits_all lines (drop i flushes)) (λ l. safe_store_at T l n) (line_in lines x)) x.store → TellsMark T x.number (mark_from raises)
    flush-told raises told =
        let safe = raise_all (waits_all lines (drop i flushes)) (λ l. safe_store_at T l n) (line_in lines x) in
        let decided : IsDecided T (get_or flushes (i - 1) x).number = subst (IsDecided T) (get_or-map number_of flushes (i - 1) x 0 (omega arith)) (at.decided (i - 1) 0 (omega (arith, length-map flushes number_of))) in
        tells-from T x.number raises (subst (λ (y : OpenFlush). IsDecided T y.number) (sym read) decided)
        (λ yes_. flush-kept.1 (ltb-true safe x.store (sym told ∙ yes_)), λ kept. told ∙ lt-ltb safe x.store (flush-kept.0 kept))

    pub deciding-next : (rows new : Rows) (list : List Mark) (rises raises now : Bool) (safe : ℕ) → IsDeciding T n lines settled flushes rows list i rises →
        safe ≡ raise_all (waits_all lines (drop i flushes)) (λ l. safe_store_at T l n) (line_in lines x) → raises ≡ nat_lt safe x.store → now ≡ (raises || rises) →
        IsKnownWith lines (history T n) (raised (line_in lines x) (max (raise_all (waits_all lines (drop i flushes)) (λ l. safe_store_at T l n) (line_in lines x)) x.store) (raise_all (waits_all lines (drop i flushes)) (λ l. safe_store_at T l n))) new →
        IsDeciding T n lines settled flushes new (set list (x.number - settled - 1) (mark_from raises)) (i - 1) now
    deciding-next rows new list rises raises now safe is was told is_now known =
        let says : raises ≡ nat_lt (raise_all (waits_all lines (drop i flushes)) (λ l. safe_store_at T l n) (line_in lines x)) x.store = told ∙ ap (λ s. nat_lt s x.store) was in
        let has : settled < x.number = subst (λ (y : OpenFlush). settled < y.number) (sym read) (has-mark (i - 1) x (omega arith)).0 in
        record {
          known = raising-next lines (λ l. last_line_store l (history T n)) (λ l. safe_store_at T l n) (λ l. last_flush l (history T n)) new flushes i x some within read known;
          tells = is_now ∙ ap (λ b. b || rises) says ∙ ap (λ b. nat_lt (raise_all (waits_all lines (drop i flushes)) (λ l. safe_store_at T l n) (line_in lines x)) x.store || b) is.tells
              ∙ ap (λ fs. some_raises (waits_all lines fs) (λ l. safe_store_at T l n)) (sym (from-before flushes i x some within read));
          marks = mark-one T settled (take (i - 1) flushes) x list (mark_from raises) has (flush-told raises says) (subst (AreMarksBut T settled list) older-split is.marks);
        }

  pub deciding-all : (rows : Rows) (list : List Mark) (i : ℕ) (rises : Bool) → i ≡ 0 → IsDeciding T n lines settled flushes rows list i rises → ArePastFence T n lines settled flushes rows list rises
  deciding-all rows list i rises e is =
      let end = subst (λ k. IsDeciding T n lines settled flushes rows list k rises) e is in
      record {
        known = end.known;
        marks = λ k m there. elim (end.marks k m there) [ inl told ↦ told | inr has ↦ absurd has ];
        fence = rw (end.tells ∙ ap (λ ws. some_raises ws (λ l. safe_store_at T l n)) at.waiting) (fence_kept_by_raise T at.thread n at.fence);
      }
