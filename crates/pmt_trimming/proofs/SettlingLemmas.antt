-- What a pass gives out, and its flags at the end.
use Rattle.std.proofs.Common.{◌≡◌, ℕ, zero, suc, ◌+◌, ◌<◌, ◌≤◌, ◌⊎◌, inl, inr, Bool, true, false, List, [], ◌∷◌, length, get_or, map, drop, Option, Some, None, refl, sym, ap, subst, ◌∙◌, arith}
use Rattle.std.specs.Prelude.{◌↔◌, slice_get}
use Rattle.std.proofs.lemmas.Bool.{cases_lt, true≢false}
use Rattle.std.proofs.lemmas.List.{length-map, length-drop}
use Rattle.std.proofs.lemmas.Option.{same_Some, none-some}
use Rattle.pmt_laws.specs.Prelude.{Flushes, Clflushes, Fences, Recording}
use Rattle.pmt_model.specs.Keeping.{IsKept, Stays, ByFence, ByFlush, ByClflush}
use Rattle.pmt_laws.specs.Passing.{IsDecided, IsOpenFlush}
use Rattle.pmt_laws.proofs.Histories.{act-within}
use Rattle.pmt_laws.proofs.DecidedLemmas.{open_is_dropped}
use Rattle.pmt_trimming.specs.declared.pass.Mark.{Mark}
use Rattle.pmt_trimming.specs.declared.pass.Mark.TheVariants as marks
use Rattle.pmt_trimming.specs.declared.pass.Pass.{Pass}
use Rattle.pmt_trimming.specs.Passing.{AreDecidedFrom, TellsMark, AreMarks, decision_by, flag_by, HasJudged, IsPassOf, Settles, AreFlags}

-- the first mark, if there is one
pub first-is : (list : List Mark) (m : Mark) → Some m ≡ slice_get list 0 → (0 < length list) × (m ≡ get_or list 0 m)
first-is [] m is = absurd (none-some m (sym is))
first-is (x ∷ list) m is = (omega arith, same_Some m x is)

-- the mark of the oldest event
first-told : (T : Recording) (settled : ℕ) (list : List Mark) (m : Mark) → 0 < length list → m ≡ get_or list 0 m → AreMarks T settled list → TellsMark T (suc settled) m
first-told T settled [] m some read told = absurd (omega arith)
first-told T settled (x ∷ list) m some read told =
    let e : settled + 0 ≡ settled = omega arith in
    subst (λ k. TellsMark T (suc k) m) e (subst (λ y. TellsMark T (suc (settled + 0)) y) (sym read) (told 0 x refl))

-- an open flush is not given out
pub settles-none : (T : Recording) (p : Pass) (m : Mark) → 0 < length p.marks.items → m ≡ get_or p.marks.items 0 m → decision_by m ≡ None → IsPassOf T p → Settles T p.settled None p.settled
settles-none T p m some read none before = go m none (first-told T p.settled p.marks.items m some read before.marks)
  where
    go : (x : Mark) → decision_by x ≡ None → TellsMark T (suc p.settled) x → Settles T p.settled None p.settled
    go marks.Open e o = (refl, inr o)
    go marks.Kept e o = absurd (cc)
    go marks.Dropped e o = absurd (cc)

pub decided-first : (T : Recording) (k : ℕ) (m : Mark) (kept : Bool) → decision_by m ≡ Some kept → TellsMark T k m → IsDecided T k × ((kept ≡ true) ↔ IsKept T k)
decided-first T k marks.Open kept e told = absurd (cc)
decided-first T k marks.Kept kept e told = (told.0, ((λ same. told.1), (λ is. sym (same_Some true kept e))))
decided-first T k marks.Dropped kept e told = (told.0, ((λ same. absurd (true≢false (sym same ∙ sym (same_Some false kept e)))), (λ is. absurd (told.1 is))))

-- a decided event is
pub settles-some : (T : Recording) (p : Pass) (m : Mark) (kept : Bool) → 0 < length p.marks.items → m ≡ get_or p.marks.items 0 m → decision_by m ≡ Some kept → IsPassOf T p →
    Settles T p.settled (Some kept) (p.settled + 1)
settles-some T p m kept some read is before =
    let first = decided-first T (suc p.settled) m kept is (first-told T p.settled p.marks.items m some read before.marks) in
    (omega arith, omega (arith, before.all), first.0, first.1)

get-drop : (list : List Mark) (i : ℕ) → slice_get (drop 1 list) i ≡ slice_get list (suc i)
get-drop [] zero = refl
get-drop [] (suc i) = refl
get-drop (x ∷ list) i = refl

pub passing-less : (T : Recording) (p q : Pass) (m : Mark) (kept : Bool) → 0 < length p.marks.items → m ≡ get_or p.marks.items 0 m → decision_by m ≡ Some kept → IsPassOf T p →
    q.format ≡ p.format → q.rows ≡ p.rows → q.waiting ≡ p.waiting → q.marks.items ≡ drop 1 p.marks.items → q.settled ≡ p.settled + 1 → IsPassOf T q
passing-less T p q m kept some read is before format rows waiting dropped settled = record {
  format = format ∙ before.format;
  lines = rw (rows, waiting) before.lines;
  all = omega (arith, ap length dropped, length-drop 1 p.marks.items, settled, before.all);
  marks = λ i x at.
      let e : p.settled + suc i ≡ q.settled + i = omega (arith, settled) in
      subst (λ k. TellsMark T (suc k) x) e (before.marks (suc i) x (sym (get-drop p.marks.items i) ∙ ap (λ list. slice_get list i) (sym dropped) ∙ at));
  before = λ k h. early k h (cases_lt p.settled k);
}
  where
    early : (k : ℕ) → k ≤ q.settled → (p.settled < k) ⊎ (k ≤ p.settled) → IsDecided T k
    early k h (inr low) = before.before k low
    early k h (inl late) =
        let e : suc p.settled ≡ k = omega (arith, settled) in
        subst (IsDecided T) e (decided-first T (suc p.settled) m kept is (first-told T p.settled p.marks.items m some read before.marks)).0

-- ---- Many events are given out

get-drop-many : (n : ℕ) (list : List Mark) (i : ℕ) → slice_get (drop n list) i ≡ slice_get list (n + i)
get-drop-many zero list i = let e : i ≡ 0 + i = omega arith in ap (λ (k : ℕ). slice_get list k) e
get-drop-many (suc n) [] zero = let e : suc (n + 0) ≡ suc n + 0 = omega arith in ap (λ (k : ℕ). slice_get {X = Mark} [] k) e
get-drop-many (suc n) [] (suc i) = let e : suc (n + suc i) ≡ suc n + suc i = omega arith in ap (λ (k : ℕ). slice_get {X = Mark} [] k) e
get-drop-many (suc n) (x ∷ list) i = let e : suc (n + i) ≡ suc n + i = omega arith in get-drop-many n list i ∙ ap (λ (k : ℕ). slice_get (x ∷ list) k) e

pub marks-left : (T : Recording) (settled count : ℕ) (list rest : List Mark) → rest ≡ drop count list → AreMarks T settled list → AreMarks T (settled + count) rest
marks-left T settled count list rest is are i m at =
    let e : suc (settled + (count + i)) ≡ suc (settled + count + i) = omega arith in
    subst (λ k. TellsMark T k m) e (are (count + i) m (sym (get-drop-many count list i) ∙ ap (λ ms. slice_get ms i) (sym is) ∙ at))

pub given-out : (T : Recording) (settled last : ℕ) → ((k : ℕ) → k ≤ settled → IsDecided T k) → AreDecidedFrom T settled last → (k : ℕ) → k ≤ last → IsDecided T k
given-out T settled last before decided k h = elim (cases_lt settled k) [ inl late ↦ decided k late h | inr low ↦ before k low ]

-- ---- An event that comes while none waits

no-marks : (list : List Mark) → length list ≡ 0 → list ≡ []
no-marks [] none = refl
no-marks (x ∷ list) none = absurd (omega arith)

none-at : (i : ℕ) (m : Mark) → slice_get {X = Mark} [] i ≡ Some m → ⊥
none-at i m at = cc

-- it is given out
pub alone-passed : (T : Recording) (p q : Pass) (m : Mark) (kept : Bool) → HasJudged T p m → length p.marks.items ≡ 0 → decision_by m ≡ Some kept →
    q.format ≡ p.format → q.rows ≡ p.rows → q.waiting ≡ p.waiting → q.marks.items ≡ p.marks.items → q.settled ≡ p.settled + 1 → IsPassOf T q
alone-passed T p q m kept judged none is format rows waiting same settled = record {
  format = format ∙ judged.format;
  lines = rw (rows, waiting) judged.lines;
  all = omega (arith, ap length same, none, settled, judged.all);
  marks = rw (same, no-marks p.marks.items none) (λ i x at. absurd (none-at i x at));
  before = λ k h. early k h (cases_lt p.settled k);
}
  where
    early : (k : ℕ) → k ≤ q.settled → (p.settled < k) ⊎ (k ≤ p.settled) → IsDecided T k
    early k h (inr low) = judged.before k low
    early k h (inl late) =
        let e : length T.events ≡ k = omega (arith, settled, none, judged.all) in
        subst (IsDecided T) e (decided-first T (length T.events) m kept is judged.last).0

pub alone-some : (T : Recording) (p : Pass) (m : Mark) (kept : Bool) (old : ℕ) → HasJudged T p m → length p.marks.items ≡ 0 → decision_by m ≡ Some kept → p.settled ≡ old → Settles T old (Some kept) (p.settled + 1)
alone-some T p m kept old judged none is same =
    let at : length T.events ≡ suc old = omega (arith, none, same, judged.all) in
    let first = subst (λ k. IsDecided T k × ((kept ≡ true) ↔ IsKept T k)) at (decided-first T (length T.events) m kept is judged.last) in
    (omega (arith, same), omega (arith, at), first.0, first.1)

-- or waits
pub alone-none : (T : Recording) (p : Pass) (m : Mark) (old : ℕ) → HasJudged T p m → length p.marks.items ≡ 0 → decision_by m ≡ None → p.settled ≡ old → Settles T old None p.settled
alone-none T p m old judged none is same = go m is judged.last
  where
    at : length T.events ≡ suc old
    at = omega (arith, none, same, judged.all)

    go : (x : Mark) → decision_by x ≡ None → TellsMark T (length T.events) x → Settles T old None p.settled
    go marks.Open e o = (same, inr (subst (IsOpenFlush T) at o))
    go marks.Kept e o = absurd (cc)
    go marks.Dropped e o = absurd (cc)

-- ---- At the end

-- what is kept has a number from 1 on
pub kept-some : (T : Recording) (i : ℕ) → IsKept T i → 1 ≤ i
kept-some T i (Stays a is stays) = (act-within T i a is).0
kept-some T i (ByFence u) = (act-within T i (Fences u.thread) u.is_fence).0
kept-some T i (ByFlush u) = (act-within T i (Flushes u.thread u.line) u.is_flush).0
kept-some T i (ByClflush u) = (act-within T i (Clflushes u.line) u.is_clflush).0

-- what is kept has come
kept-within : (T : Recording) (i : ℕ) → IsKept T i → i ≤ length T.events
kept-within T i (Stays a is stays) = (act-within T i a is).1
kept-within T i (ByFence u) = (act-within T i (Fences u.thread) u.is_fence).1
kept-within T i (ByFlush u) = (act-within T i (Flushes u.thread u.line) u.is_flush).1
kept-within T i (ByClflush u) = (act-within T i (Clflushes u.line) u.is_clflush).1

flag-tells : (T : Recording) (k : ℕ) (m : Mark) → TellsMark T k m → (Some (flag_by m) ≡ Some true) ↔ IsKept T k
flag-tells T k marks.Open o = ((λ e. cc), (λ kept. absurd (open_is_dropped T k o kept)))
flag-tells T k marks.Kept told = ((λ e. told.1), (λ kept. refl))
flag-tells T k marks.Dropped told = ((λ e. cc), (λ kept. absurd (told.1 kept)))

get-map : (list : List Mark) (i : ℕ) (m : Mark) → slice_get list i ≡ Some m → slice_get (map (λ x. flag_by x) list) i ≡ Some (flag_by m)
get-map [] i m is = absurd (cc)
get-map (x ∷ list) zero m is = ap (λ y. Some (flag_by y)) (same_Some x m is)
get-map (x ∷ list) (suc i) m is = get-map list i m is

get-none : (list : List Mark) (i : ℕ) → slice_get list i ≡ None → (slice_get (map (λ x. flag_by x) list) i ≡ None) × (length list ≤ i)
get-none [] i is = (refl, omega arith)
get-none (x ∷ list) zero is = absurd (cc)
get-none (x ∷ list) (suc i) is = let rest = get-none list i is in (rest.0, omega (arith, rest.1))

-- the flags of the events that were not given out
pub are-flags : (T : Recording) (p : Pass) (flags : List Bool) → flags ≡ map (λ m. flag_by m) p.marks.items → IsPassOf T p → AreFlags T p.settled flags
are-flags T p flags is before = rw is (omega (arith, length-map p.marks.items (λ m. flag_by m), before.all), λ i. go i (slice_get p.marks.items i) refl)
  where
    go : (i : ℕ) (o : Option Mark) → slice_get p.marks.items i ≡ o → (slice_get (map (λ m. flag_by m) p.marks.items) i ≡ Some true) ↔ IsKept T (suc (p.settled + i))
    go i (Some m) at = rw (get-map p.marks.items i m at) (flag-tells T (suc (p.settled + i)) m (before.marks i m at))
    go i None at =
        let past = get-none p.marks.items i at in (
          (λ e. absurd (none-some true (sym past.0 ∙ e))),
          (λ kept. absurd (omega (arith, past.1, before.all, kept-within T (suc (p.settled + i)) kept))),
        )
