-- A trace with one event more, and a pass that takes it.
use Rattle.std.proofs.Common.{◌≡◌, ℕ, zero, suc, ◌+◌, ◌<◌, ◌≤◌, ◌⊎◌, inl, inr, Bool, true, false, List, [], ◌∷◌, ◌++◌, length, Some, refl, sym, ap, subst, ◌∙◌, arith}
use Rattle.std.specs.Prelude.{◌↔◌, slice_get, nat_lt}
use Rattle.std.proofs.lemmas.Bool.{cases_lt, true≢false, lt-ltb, ltb-true}
use Rattle.std.proofs.lemmas.List.{length-append}
use Rattle.std.proofs.lemmas.Option.{same_Some}
use Rattle.pmt_laws.specs.Prelude.{Event, Act, Flushes, Clflushes, Fences, Asserts, Recording, act, IsAct, history, lines_of, with_event, always_stays, IsKept, Stays}
use Rattle.pmt_laws.specs.Passing.{IsOpenFlush, IsDecided}
use Rattle.pmt_laws.proofs.Histories.{act-within, act-unique, history-act}
use Rattle.pmt_laws.proofs.DecidedLemmas.{decided_stays, act-more, act-less, history-more}
use Rattle.pmt_safety.specs.Safety.{last_line_store, safe_store}
use Rattle.pmt_safety.proofs.KeptLemmas.{kept_clflush_by_stores}
use Rattle.pmt_rows.proofs.OpenLemmas.{waits-on}
use Rattle.pmt_trimming.specs.declared.pass.Mark.{Mark}
use Rattle.pmt_trimming.specs.declared.pass.Mark.TheVariants as marks
use Rattle.pmt_trimming.specs.declared.pass.Pass.{Pass}
use Rattle.pmt_trimming.specs.Passing.{TellsMark, mark_from, AreMarks, AreLinesOf, HasJudged, IsPassOf}

-- ---- The last event

get-last : (xs : List Event) (e : Event) → slice_get (xs ++ e ∷ []) (length xs) ≡ Some e
get-last [] e = refl
get-last (x ∷ xs) e = get-last xs e

pub last-act : (T : Recording) (e : Event) (a : Act) → act T.format e ≡ a → IsAct (with_event T e) (suc (length T.events)) a
last-act T e a is = (e, get-last T.events e, is)

pub length-last : (T : Recording) (e : Event) → length (with_event T e).events ≡ suc (length T.events)
length-last T e = omega (arith, length-append T.events (e ∷ []))

pub history-same : (T : Recording) (e : Event) → history (with_event T e) (length T.events) ≡ history T (length T.events)
history-same T e = history-more T (e ∷ []) (length T.events) (omega arith)

pub history-last : (T : Recording) (e : Event) (a : Act) → act T.format e ≡ a → history (with_event T e) (length (with_event T e).events) ≡ a ∷ history T (length T.events)
history-last T e a is =
    ap (history (with_event T e)) (length-last T e) ∙ history-act (with_event T e) (length T.events) a (last-act T e a is) ∙ ap (λ h. a ∷ h) (history-same T e)

-- ---- Marks

-- an open flush stays open where its thread doesn't fence
open-more : (T : Recording) (e : Event) (k : ℕ) (o : IsOpenFlush T k) → (act T.format e ≡ Fences o.thread → ⊥) → IsOpenFlush (with_event T e) k
open-more T e k o none = record {
  thread = o.thread;
  line = o.line;
  is_flush = act-more T (e ∷ []) k (Flushes o.thread o.line) o.is_flush;
  unfenced = λ j after is. go j after is (cases_lt (length T.events) j);
}
  where
    go : (j : ℕ) → k < j → IsAct (with_event T e) j (Fences o.thread) → (length T.events < j) ⊎ (j ≤ length T.events) → ⊥
    go j after is (inr early) = o.unfenced j after (act-less T (e ∷ []) j (Fences o.thread) early is)
    go j after is (inl late) =
        let same : j ≡ suc (length T.events) = omega (arith, (act-within (with_event T e) j (Fences o.thread) is).1, length-last T e) in
        none (act-unique (with_event T e) (suc (length T.events)) (act T.format e) (Fences o.thread) (last-act T e (act T.format e) refl) (subst (λ i. IsAct (with_event T e) i (Fences o.thread)) same is))

-- a mark stays, but that of an open flush at its thread's fence
pub tells-more : (T : Recording) (e : Event) (k : ℕ) (m : Mark) → ((o : IsOpenFlush T k) → (m ≡ marks.Open) → act T.format e ≡ Fences o.thread → ⊥) → TellsMark T k m → TellsMark (with_event T e) k m
tells-more T e k marks.Open none o = open-more T e k o (none o refl)
tells-more T e k marks.Kept none (d, kept) = let s = decided_stays T (e ∷ []) k d in (s.0, s.1.0 kept)
tells-more T e k marks.Dropped none (d, dropped) = let s = decided_stays T (e ∷ []) k d in (s.0, λ kept. dropped (s.1.1 kept))

get-push : (xs : List Mark) (y m : Mark) (i : ℕ) → slice_get (xs ++ y ∷ []) i ≡ Some m → (slice_get xs i ≡ Some m) ⊎ ((i ≡ length xs) × (y ≡ m))
get-push [] y m zero is = inr (refl, same_Some y m is)
get-push [] y m (suc i) is = absurd (cc)
get-push (x ∷ xs) y m zero is = inl is
get-push (x ∷ xs) y m (suc i) is = elim (get-push xs y m i is) [ inl e ↦ inl e | inr e ↦ inr (ap suc e.0, e.1) ]

-- one mark more
pub marks-push : (T : Recording) (settled : ℕ) (list : List Mark) (m : Mark) → suc (settled + length list) ≡ length T.events → AreMarks T settled list → TellsMark T (length T.events) m →
    AreMarks T settled (list ++ m ∷ [])
marks-push T settled list m all old last i x is = elim (get-push list m x i is) [
  | inl e ↦ old i x e
  | inr e ↦ let at : length T.events ≡ suc (settled + i) = omega (arith, e.0, all) in subst (λ k. TellsMark T k x) at (subst (λ y. TellsMark T (length T.events) y) e.1 last)
]

-- an event that is no flush is decided when it comes
pub decided-last : (T : Recording) (e : Event) (a : Act) → act T.format e ≡ a → ((t l : ℕ) → a ≡ Flushes t l → ⊥) → IsDecided (with_event T e) (suc (length T.events))
decided-last T e a is none = record {
  by_now = omega (arith, length-last T e);
  fenced = λ t l flush. absurd (none t l (act-unique (with_event T e) (suc (length T.events)) a (Flushes t l) (last-act T e a is) flush));
}

pub tells-from : (T : Recording) (k : ℕ) (b : Bool) → IsDecided T k → (b ≡ true) ↔ IsKept T k → TellsMark T k (mark_from b)
tells-from T k true d tells = (d, tells.0 refl)
tells-from T k false d tells = (d, λ kept. absurd (true≢false (sym (tells.1 kept))))

-- a store or an assertion is kept
pub tells-stays : (T : Recording) (e : Event) (a : Act) → act T.format e ≡ a → always_stays a ≡ true → TellsMark (with_event T e) (suc (length T.events)) marks.Kept
tells-stays T e a is stays = (decided-last T e a is (λ t l same. absurd (true≢false (sym stays ∙ ap always_stays same))), Stays a (last-act T e a is) stays)

-- a flush is open
pub tells-flush : (T : Recording) (e : Event) (t l : ℕ) → act T.format e ≡ Flushes t l → TellsMark (with_event T e) (suc (length T.events)) marks.Open
tells-flush T e t l is = record {
  thread = t;
  line = l;
  is_flush = last-act T e (Flushes t l) is;
  unfenced = λ j after fence. omega (arith, (act-within (with_event T e) j (Fences t) fence).1, length-last T e);
}

-- ---- The pass with one event more

module _ (T : Recording) (e : Event) (a : Act) (is : act T.format e ≡ a) (p : Pass) (before : IsPassOf T p) where
  -- what is the same whatever the event is, where these are the marks of the events so far
  pub judged-marks : (q : Pass) (m : Mark) → q.format ≡ p.format → q.settled ≡ p.settled → length q.marks.items ≡ length p.marks.items →
      AreLinesOf (a ∷ history T (length T.events)) q → AreMarks (with_event T e) p.settled q.marks.items → TellsMark (with_event T e) (suc (length T.events)) m → HasJudged (with_event T e) q m
  judged-marks q m format settled size lines told last = record {
    format = format ∙ before.format;
    lines = rw (history-last T e a is) lines;
    all = omega (arith, settled, size, before.all, length-last T e);
    marks = rw settled told;
    before = rw settled (λ k h. (decided_stays T (e ∷ []) k (before.before k h)).0);
    last = subst (λ k. TellsMark (with_event T e) k m) (sym (length-last T e)) last;
  }

  -- and where the event is no fence
  pub judged : (q : Pass) (m : Mark) → q.format ≡ p.format → q.settled ≡ p.settled → q.marks.items ≡ p.marks.items → AreLinesOf (a ∷ history T (length T.events)) q →
      ((o : (k : ℕ) × IsOpenFlush T k) → a ≡ Fences o.1.thread → ⊥) → TellsMark (with_event T e) (suc (length T.events)) m → HasJudged (with_event T e) q m
  judged q m format settled same lines none last =
      judged-marks q m format settled (ap length same) lines
      (rw same (λ i x at. tells-more T e (suc (p.settled + i)) x (λ o open_ fence. none (suc (p.settled + i), o) (sym is ∙ fence)) (before.marks i x at))) last

-- an assertion is kept, and changes nothing
pub judged-assert : (T : Recording) (e : Event) (p q : Pass) → act T.format e ≡ Asserts → q ≡ p → IsPassOf T p → HasJudged (with_event T e) q marks.Kept
judged-assert T e p q is same before =
    let h = history T (length T.events) in
    judged T e Asserts is p before q marks.Kept (ap (λ (x : Pass). x.format) same) (ap (λ (x : Pass). x.settled) same) (ap (λ (x : Pass). x.marks.items) same)
    (rw same (record { rows = before.lines.rows; waiting = (waits-on last_line_store).others (lines_of h) h p.waiting Asserts (λ t l e. cc) (λ t e. cc) before.lines.waiting })) (λ o fence. cc) (tells-stays T e Asserts is refl)

-- the mark comes after the others
pub passed : (T : Recording) (p q : Pass) (m : Mark) → HasJudged T p m → q.format ≡ p.format → q.rows ≡ p.rows → q.waiting ≡ p.waiting → q.settled ≡ p.settled → q.marks.items ≡ p.marks.items ++ m ∷ [] → IsPassOf T q
passed T p q m before format rows waiting settled pushed = record {
  format = format ∙ before.format;
  lines = rw (rows, waiting) before.lines;
  all = omega (arith, settled, ap length pushed, length-append p.marks.items (m ∷ []), before.all);
  marks = rw (settled, pushed) (marks-push T p.settled p.marks.items m before.all before.marks before.last);
  before = rw settled before.before;
}

-- a clflush is kept exactly where the last store to the line is not safe
pub tells-clflush : (T : Recording) (e : Event) (l safe last : ℕ) → act T.format e ≡ Clflushes l → safe ≡ safe_store l (history T (length T.events)) → last ≡ last_line_store l (history T (length T.events)) →
    TellsMark (with_event T e) (suc (length T.events)) (mark_from (nat_lt safe last))
tells-clflush T e l safe last is safe_is last_is =
    tells-from (with_event T e) (suc (length T.events)) (nat_lt safe last) (decided-last T e (Clflushes l) is (λ t k same. cc)) (there, back)
  where
    law : IsKept (with_event T e) (suc (length T.events)) ↔ (safe < last)
    law = rw (safe_is, last_is, sym (history-same T e)) (kept_clflush_by_stores (with_event T e) l (length T.events) (last-act T e (Clflushes l) is))

    there : nat_lt safe last ≡ true → IsKept (with_event T e) (suc (length T.events))
    there yes_ = law.1 (ltb-true safe last yes_)

    back : IsKept (with_event T e) (suc (length T.events)) → nat_lt safe last ≡ true
    back kept = lt-ltb safe last (law.0 kept)

-- a fence is decided when it comes
pub tells-fence : (T : Recording) (e : Event) (t : ℕ) (rises : Bool) → act T.format e ≡ Fences t → (rises ≡ true) ↔ IsKept (with_event T e) (suc (length T.events)) →
    TellsMark (with_event T e) (suc (length T.events)) (mark_from rises)
tells-fence T e t rises is tells = tells-from (with_event T e) (suc (length T.events)) rises (decided-last T e (Fences t) is (λ u k same. cc)) tells
