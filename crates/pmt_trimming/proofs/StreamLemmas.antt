-- What leaves a stream, event by event.
use Rattle.std.proofs.Common.{◌≡◌, ℕ, zero, suc, ◌+◌, ◌-◌, ◌<◌, ◌≤◌, ◌⊎◌, inl, inr, Bool, true, false, List, [], ◌∷◌, ◌++◌, length, drop, map, Option, Some, None, Ok, Bor, refl, sym, ap, ap₂, ◌∙◌, subst, arith, append_assoc, append-nil, filter_map, get_or, length-drop}
use Rattle.std.specs.Prelude.{◌↔◌, slice_get, IfSome}
use Rattle.std.proofs.lemmas.Bool.{cases_lt, cases_eq, false≢true}
use Rattle.std.proofs.lemmas.List.{drop-append-le, map-append}
use Rattle.std.proofs.lemmas.List.Elements.{filter_map-append}
use Rattle.std.proofs.lemmas.Grind.{flat_map-append}
use Rattle.pmt_laws.specs.Prelude.{Event, Layout, Flushes, Clflushes, Fences, Recording, event, empty, with_event, with_events, IsRising, Has, cut, flat_map}
use Rattle.pmt_model.specs.Keeping.{IsKept, Stays, ByFence, ByFlush, ByClflush, IsKeep}
use Rattle.pmt_text.specs.Spelling.{event_text, header, ended, spelling}
use Rattle.pmt_text.specs.Sources.{Lends}
use Rattle.pmt_laws.specs.Passing.{IsOpenFlush, IsDecided}
use Rattle.pmt_laws.proofs.DecidedLemmas.{event-more, decided_stays, decided_or_open, open-or_decided}
use Rattle.pmt_laws.proofs.Histories.{act-within}
use Rattle.pmt_laws.proofs.CutLemmas.{has-above}
use Rattle.pmt_trimming.specs.Passing.{AreFlags, Settles}
use Rattle.pmt_trimming.specs.Streaming.{IsBeforeOpen, IsOut, OutComesFirst, IsTextOfTrimmed, EndsWithKept, HaveLeft, IsStreamOf, kept_line, kept_lines}
use Rattle.pmt_trimming.specs.declared.pass.Mark.{Mark}
use Rattle.pmt_trimming.specs.declared.pass.Pass.{Pass}
use Rattle.pmt_trimming.specs.declared.stream.Stream.{Stream}
use Rattle.pmt_trimming.specs.LineQueues.{kept_text, kept_texts, Pops}
use Rattle.pmt_trimming.proofs.HeadlineLemmas.{keep-is-trimmed}
use Rattle.pmt_tables.specs.Flags.{marked_from}
use Rattle.pmt_tables.proofs.FlagLemmas.{marked-rise, has-marked}

-- ---- Events and their text

-- a kept event is one of the trace
pub kept-within : (T : Recording) (i : ℕ) → IsKept T i → (1 ≤ i) × (i ≤ length T.events)
kept-within T i (Stays a is stays) = act-within T i a is
kept-within T i (ByFence u) = act-within T i (Fences u.thread) u.is_fence
kept-within T i (ByFlush u) = act-within T i (Flushes u.thread u.line) u.is_flush
kept-within T i (ByClflush u) = act-within T i (Clflushes u.line) u.is_clflush

-- the text of these events
abbrev text_of : Recording → List ℕ → List ℕ
text_of T numbers = ended (header T.format) ++ flat_map event_text (filter_map (event T) numbers)

spelled : (T : Recording) (numbers : List ℕ) → spelling (cut T numbers) ≡ text_of T numbers
unfolding spelling
spelled T numbers = refl

text-append : (T : Recording) (D rest : List ℕ) → text_of T (D ++ rest) ≡ text_of T D ++ flat_map event_text (filter_map (event T) rest)
text-append T D rest =
    ap (λ (es : List Event). ended (header T.format) ++ flat_map event_text es) (filter_map-append (event T) D rest)
    ∙ ap (λ (bytes : List ℕ). ended (header T.format) ++ bytes) (flat_map-append event_text (filter_map (event T) D) (filter_map (event T) rest))
    ∙ sym (append_assoc (ended (header T.format)) (flat_map event_text (filter_map (event T) D)) (flat_map event_text (filter_map (event T) rest)))

events-same : (T : Recording) (more : List Event) (D : List ℕ) → ((i : ℕ) → Has D i → i ≤ length T.events) → filter_map (event (with_events T more)) D ≡ filter_map (event T) D
events-same T more [] within = refl
events-same T more (k ∷ ks) within =
    let e = event-more T more k (within k (inl refl)) in
    rw (e, events-same T more ks (λ i has. within i (inr has))) refl

-- later events leave it
text-continued : (T : Recording) (more : List Event) (D : List ℕ) → ((i : ℕ) → Has D i → i ≤ length T.events) → spelling (cut (with_events T more) D) ≡ spelling (cut T D)
text-continued T more D within =
    spelled (with_events T more) D
    ∙ ap (λ (es : List Event). ended (header T.format) ++ flat_map event_text es) (events-same T more D within)
    ∙ sym (spelled T D)

-- ---- What is out begins what comes

-- rising numbers that are the first of rising numbers
first-numbers : (low : ℕ) (D K : List ℕ) → IsRising low D → IsRising low K → ((i : ℕ) → Has D i → Has K i) → ((i j : ℕ) → Has D j → Has K i → i ≤ j → Has D i) →
    (rest : List ℕ) × (K ≡ D ++ rest)
first-numbers low [] K d k inside down = (K, refl)
first-numbers low (x ∷ D) [] d k inside down = absurd (inside x (inl refl))
first-numbers low (x ∷ D) (y ∷ K) d k inside down = go (first_of x (inside x (inl refl))) (λ same. first-numbers x D K d.1 (subst (λ (m : ℕ). IsRising m K) (sym same) k.1))
  where
    first_of : (i : ℕ) → Has (y ∷ K) i → (i ≡ y) ⊎ (y < i)
    first_of i (inl e) = inl (sym e)
    first_of i (inr h) = inr (has-above y K i k.1 h)

    in_tail : (i : ℕ) → x < i → Has (x ∷ D) i → Has D i
    in_tail i h (inl e) = absurd (omega arith)
    in_tail i h (inr has) = has

    up_tail : (i : ℕ) → y < i → Has (y ∷ K) i → Has K i
    up_tail i h (inl e) = absurd (omega arith)
    up_tail i h (inr has) = has

    not_first : Has (x ∷ D) y → x ≤ y
    not_first (inl e) = omega arith
    not_first (inr h) = let above = has-above x D y d.1 h in omega arith

    go : (x ≡ y) ⊎ (y < x) → ((x ≡ y) → ((i : ℕ) → Has D i → Has K i) → ((i j : ℕ) → Has D j → Has K i → i ≤ j → Has D i) → (rest : List ℕ) × (K ≡ D ++ rest)) →
        (rest : List ℕ) × (y ∷ K ≡ (x ∷ D) ++ rest)
    go (inr below) tails = let h = not_first (down y x (inl refl) (inl refl) (omega arith)) in absurd (omega arith)
    go (inl same) tails =
        let rest =
        tails same
        (λ i has. (let above = has-above x D i d.1 has in up_tail i (omega arith) (inside i (inr has))))
        (λ i j hasj hask le. (let above = has-above y K i k.1 hask in in_tail i (omega arith) (down i j (inr hasj) (inr hask) le))) in
        (rest.0, ap (λ (m : ℕ). m ∷ K) (sym same) ∙ ap (λ (ks : List ℕ). x ∷ ks) rest.1)

-- what stands before each open flush is decided
decided-before : (T : Recording) (i : ℕ) → i ≤ length T.events → IsBeforeOpen T i → IsDecided T i
decided-before T i h before = go (open-or_decided T i h)
  where
    go : IsOpenFlush T i ⊎ IsDecided T i → IsDecided T i
    go (inl o) = let never = before i o in absurd (omega arith)
    go (inr d) = d

pub out_comes_first : OutComesFirst
out_comes_first T more text kept out keep =
    let D = out.numbers in
    let within : (i : ℕ) → Has D i → i ≤ length T.events = λ i has. (kept-within T i ((out.out.just i).0 has).0).1 in
    let rest =
    first-numbers 0 D kept out.out.rising keep.rising
    (λ i has. (let told = (out.out.just i).0 has in (keep.just i).1 ((decided_stays T more i (decided-before T i (within i has) told.1)).1.0 told.0)))
    (λ i j hasj hask le.
    let before : IsBeforeOpen T i = λ o is. (let h = ((out.out.just j).0 hasj).1 o is in omega (arith, h)) in
    let inside = within j hasj in
    (out.out.just i).1 ((decided_stays T more i (decided-before T i (omega arith) before)).1.1 ((keep.just i).0 hask), before)) in (
      flat_map event_text (filter_map (event (with_events T more)) rest.0),
      spelled (with_events T more) kept ∙ ap (text_of (with_events T more)) rest.1 ∙ text-append (with_events T more) D rest.0
          ∙ ap (λ (bytes : List ℕ). bytes ++ flat_map event_text (filter_map (event (with_events T more)) rest.0)) (sym (spelled (with_events T more) D) ∙ text-continued T more D within ∙ sym out.spelled),
    )

-- ---- Lists

drop-step : (xs : List Event) (n : ℕ) (e : Event) (ws : List Event) → e ∷ ws ≡ drop n xs → (ws ≡ drop (suc n) xs) × (slice_get xs n ≡ Some e)
drop-step [] zero e ws h = cc
drop-step [] (suc n) e ws h = cc
drop-step (x ∷ xs) zero e ws h = (cc, cc)
drop-step (x ∷ xs) (suc n) e ws h = drop-step xs n e ws h

has-append : (ks js : List ℕ) (n : ℕ) → Has (ks ++ js) n ↔ (Has ks n ⊎ Has js n)
has-append [] js n = (λ h. inr h, λ x. elim x [ inl h ↦ absurd h | inr h ↦ h ])
has-append (k ∷ ks) js n = (there (has-append ks js n).0, back (has-append ks js n).1)
  where
    there : (Has (ks ++ js) n → Has ks n ⊎ Has js n) → (k ≡ n) ⊎ Has (ks ++ js) n → ((k ≡ n) ⊎ Has ks n) ⊎ Has js n
    there f (inl e) = inl (inl e)
    there f (inr h) = elim (f h) [ inl x ↦ inl (inr x) | inr x ↦ inr x ]

    back : (Has ks n ⊎ Has js n → Has (ks ++ js) n) → ((k ≡ n) ⊎ Has ks n) ⊎ Has js n → (k ≡ n) ⊎ Has (ks ++ js) n
    back f (inl (inl e)) = inl e
    back f (inl (inr h)) = inr (f (inl h))
    back f (inr h) = inr (f (inr h))

rising-append : (low place : ℕ) (ks js : List ℕ) → low ≤ place → IsRising low ks → ((i : ℕ) → Has ks i → i ≤ place) → IsRising place js → IsRising low (ks ++ js)
rising-append low place [] [] le r within q = tt
rising-append low place [] (j ∷ js) le r within q = (omega (arith, q.0), q.1)
rising-append low place (k ∷ ks) js le r within q = (r.0, rising-append k place ks js (within k (inl refl)) r.1 (λ i has. within i (inr has)) q)

-- ---- No event, one more, one less that waits

pub left-start : (f : Layout) (text : List ℕ) → text ≡ ended (header f) → HaveLeft (empty f) 0 [] text
left-start f text is = record {
  others = refl;
  numbers = [];
  kept = record {
    rising = tt;
    just = λ i. (λ h. absurd h, λ x. (let range = kept-within (empty f) i x.0 in absurd (omega (arith, range.0, range.1))));
  };
  spelled = is ∙ sym (append-nil (ended (header f))) ∙ sym (spelled (empty f) []);
}

pub left-take : (T : Recording) (es : List Event) (place : ℕ) (waiting : List Event) (text : List ℕ) → ((k : ℕ) → k ≤ place → IsDecided T k) → place ≤ length T.events →
    HaveLeft T place waiting text → HaveLeft (with_events T es) place (waiting ++ es) text
left-take T es place waiting text decided le left = record {
  others = ap (λ (xs : List Event). xs ++ es) left.others ∙ sym (drop-append-le place T.events es le);
  numbers = left.numbers;
  kept = record {
    rising = left.kept.rising;
    just = λ i. (
      λ has. (let told = (left.kept.just i).0 has in ((decided_stays T es i (decided i told.1)).1.0 told.0, told.1)),
      λ x. (left.kept.just i).1 ((decided_stays T es i (decided i x.1)).1.1 x.0, x.1),
    );
  };
  spelled = left.spelled ∙ sym (text-continued T es left.numbers (λ i has. (let told = (left.kept.just i).0 has in omega (arith, told.1))));
}

-- an event that is dropped leaves
left-dropped : (T : Recording) (place : ℕ) (e : Event) (waiting : List Event) (text : List ℕ) → ¬ IsKept T (suc place) → HaveLeft T place (e ∷ waiting) text →
    HaveLeft T (suc place) waiting (text ++ [])
left-dropped T place e waiting text dropped left = record {
  others = (drop-step T.events place e waiting left.others).0;
  numbers = left.numbers;
  kept = record {
    rising = left.kept.rising;
    just = λ i. (
      λ has. (let told = (left.kept.just i).0 has in (told.0, omega (arith, told.1))),
      λ x. (left.kept.just i).1 (x.0, below i x.0 x.1),
    );
  };
  spelled = append-nil text ∙ left.spelled;
}
  where
    below : (i : ℕ) → IsKept T i → i ≤ suc place → i ≤ place
    below i is le = go (cases_eq i (suc place))
      where
        go : (i ≡ suc place) ⊎ (i ≡ suc place → ⊥) → i ≤ place
        go (inl e) = absurd (dropped (subst (IsKept T) e is))
        go (inr other) = omega arith

-- and one that is kept
left-kept : (T : Recording) (place : ℕ) (e : Event) (waiting : List Event) (text : List ℕ) → IsKept T (suc place) → HaveLeft T place (e ∷ waiting) text →
    HaveLeft T (suc place) waiting (text ++ event_text e)
left-kept T place e waiting text kept left =
    let step = drop-step T.events place e waiting left.others in
    record {
      others = step.0;
      numbers = left.numbers ++ suc place ∷ [];
      kept = record {
        rising = rising-append 0 place left.numbers (suc place ∷ []) (omega arith) left.kept.rising (λ i has. ((left.kept.just i).0 has).1) (omega arith, tt);
        just = λ i. (λ has. there i ((has-append left.numbers (suc place ∷ []) i).0 has), λ x. (has-append left.numbers (suc place ∷ []) i).1 (back i x.0 x.1));
      };
      spelled =
          ap (λ (bytes : List ℕ). bytes ++ event_text e) (left.spelled ∙ spelled T left.numbers)
          ∙ ap (λ (bytes : List ℕ). text_of T left.numbers ++ bytes) (sym (line step.1))
          ∙ sym (text-append T left.numbers (suc place ∷ [])) ∙ sym (spelled T (left.numbers ++ suc place ∷ []));
    }
  where
    line : slice_get T.events place ≡ Some e → flat_map event_text (filter_map (event T) (suc place ∷ [])) ≡ event_text e
    line is = rw is (append-nil (event_text e))

    there : (i : ℕ) → Has left.numbers i ⊎ Has (suc place ∷ []) i → IsKept T i × (i ≤ suc place)
    there i (inl has) = let told = (left.kept.just i).0 has in (told.0, omega (arith, told.1))
    there i (inr (inl same)) = (subst (IsKept T) same kept, omega arith)
    there i (inr (inr h)) = absurd h

    back : (i : ℕ) → IsKept T i → i ≤ suc place → Has left.numbers i ⊎ Has (suc place ∷ []) i
    back i is le = go (cases_eq i (suc place))
      where
        go : (i ≡ suc place) ⊎ (i ≡ suc place → ⊥) → Has left.numbers i ⊎ Has (suc place ∷ []) i
        go (inl same) = inr (inl (sym same))
        go (inr other) = inl ((left.kept.just i).1 (is, omega arith))

pub left-leave : (T : Recording) (place next : ℕ) (kept : Bool) (e : Event) (waiting : List Event) (text : List ℕ) → Settles T place (Some kept) next →
    HaveLeft T place (e ∷ waiting) text → HaveLeft T next waiting (text ++ kept_line kept e)
left-leave T place next true e waiting text settles left =
    let P : ℕ → Type 0 = λ n. HaveLeft T n waiting (text ++ event_text e) in
    subst P (sym settles.0) (left-kept T place e waiting text (settles.3.0 refl) left)
left-leave T place next false e waiting text settles left =
    let P : ℕ → Type 0 = λ n. HaveLeft T n waiting (text ++ []) in
    subst P (sym settles.0) (left-dropped T place e waiting text (λ is. false≢true (settles.3.1 is)) left)

-- ---- What is out

pub left-is_out : (T : Recording) (place : ℕ) (waiting : List Event) (text : List ℕ) → ((k : ℕ) → k ≤ place → IsDecided T k) →
    (place ≡ length T.events) ⊎ IsOpenFlush T (suc place) → HaveLeft T place waiting text → IsOut T text
left-is_out T place waiting text decided ends left = record {
  numbers = left.numbers;
  out = record {
    rising = left.kept.rising;
    just = λ i. (
      λ has. (let told = (left.kept.just i).0 has in (told.0, λ o is. above i o is (omega (arith, told.1)))),
      λ x. (left.kept.just i).1 (x.0, below i x.0 x.1 ends),
    );
  };
  spelled = left.spelled;
}
  where
    above : (i o : ℕ) → IsOpenFlush T o → i ≤ place → i < o
    above i o is le = go (cases_lt place o)
      where
        go : (place < o) ⊎ (o ≤ place) → i < o
        go (inl lt) = omega arith
        go (inr early) = absurd (decided_or_open.not_both T o is (decided o early))

    below : (i : ℕ) → IsKept T i → IsBeforeOpen T i → (place ≡ length T.events) ⊎ IsOpenFlush T (suc place) → i ≤ place
    below i is before (inl all) = let range = kept-within T i is in omega (arith, range.1)
    below i is before (inr o) = let lt = before (suc place) o in omega (arith, lt)

-- ---- The end

some-get : (flags : List Bool) (k : ℕ) → (get_or flags k false ≡ true) ↔ (slice_get flags k ≡ Some true)
some-get [] k = (λ e. absurd (false≢true e), λ e. cc)
some-get (b ∷ flags) zero = (λ e. ap (λ (x : Bool). Some x) e, λ e. cc)
some-get (b ∷ flags) (suc k) = some-get flags k

flagged-lines : (T : Recording) (place : ℕ) (flags : List Bool) (waiting : List Event) → waiting ≡ drop place T.events → place + length flags ≡ length T.events →
    flat_map event_text (filter_map (event T) (marked_from place flags)) ≡ kept_lines flags waiting
flagged-lines T place [] waiting others all = refl
flagged-lines T place (b ∷ flags) [] others all = let short = ap length others ∙ length-drop place T.events in absurd (omega (arith, short))
flagged-lines T place (true ∷ flags) (e ∷ waiting) others all =
    let step = drop-step T.events place e waiting others in
    let rest = flagged-lines T (suc place) flags waiting step.0 (omega arith) in
    line step.1 ∙ ap (λ (bytes : List ℕ). event_text e ++ bytes) rest
  where
    line : slice_get T.events place ≡ Some e →
        flat_map event_text (filter_map (event T) (suc place ∷ marked_from (suc place) flags)) ≡ event_text e ++ flat_map event_text (filter_map (event T) (marked_from (suc place) flags))
    line is = rw is refl
flagged-lines T place (false ∷ flags) (e ∷ waiting) others all =
    let step = drop-step T.events place e waiting others in
    flagged-lines T (suc place) flags waiting step.0 (omega arith)

pub left-finish : (T : Recording) (place : ℕ) (flags : List Bool) (waiting : List Event) (text : List ℕ) → AreFlags T place flags → HaveLeft T place waiting text →
    IsTextOfTrimmed T (text ++ kept_lines flags waiting)
left-finish T place flags waiting text are left =
    let all = left.numbers ++ marked_from place flags in
    record {
      selection = all;
      trimmed = cut T all;
      trim = keep-is-trimmed T all (cut T all) keep refl;
      spelled =
          ap (λ (bytes : List ℕ). bytes ++ kept_lines flags waiting) (left.spelled ∙ spelled T left.numbers)
          ∙ ap (λ (bytes : List ℕ). text_of T left.numbers ++ bytes) (sym (flagged-lines T place flags waiting left.others are.0))
          ∙ sym (text-append T left.numbers (marked_from place flags)) ∙ sym (spelled T all);
    }
  where
    there : (i : ℕ) → Has left.numbers i ⊎ Has (marked_from place flags) i → IsKept T i
    there i (inl has) = ((left.kept.just i).0 has).0
    there i (inr has) =
        let above = has-above place (marked_from place flags) i (marked-rise place flags) has in
        let k = i - suc place in
        let e : suc place + k ≡ i = omega arith in
        let f : suc (place + k) ≡ i = omega arith in
        let marked = (has-marked place flags k).0 (subst (Has (marked_from place flags)) (sym e) has) in
        subst (IsKept T) f ((are.1 k).0 ((some-get flags k).0 marked))

    back : (i : ℕ) → IsKept T i → (i ≤ place) ⊎ (place < i) → Has left.numbers i ⊎ Has (marked_from place flags) i
    back i is (inl early) = inl ((left.kept.just i).1 (is, early))
    back i is (inr late) =
        let k = i - suc place in
        let e : suc place + k ≡ i = omega arith in
        let f : suc (place + k) ≡ i = omega arith in
        let marked = (some-get flags k).1 ((are.1 k).1 (subst (IsKept T) (sym f) is)) in
        inr (subst (Has (marked_from place flags)) e ((has-marked place flags k).1 marked))

    early-or : (i : ℕ) → (i ≤ place) ⊎ (place < i)
    early-or i = elim (cases_lt place i) [ inl h ↦ inr h | inr h ↦ inl h ]

    keep : IsKeep T (left.numbers ++ marked_from place flags)
    keep = record {
      rising = rising-append 0 place left.numbers (marked_from place flags) (omega arith) left.kept.rising (λ i has. ((left.kept.just i).0 has).1) (marked-rise place flags);
      just = λ i. (
        λ has. there i ((has-append left.numbers (marked_from place flags) i).0 has),
        λ is. (has-append left.numbers (marked_from place flags) i).1 (back i is (early-or i)),
      );
    }

-- ---- The calls of a stream

-- the front of the queue leaves
pub left-pop : (T : Recording) (place next : ℕ) (kept : Bool) (result : Option Bool) (e : Event) (waiting others : List Event) (text longer : List ℕ) → result ≡ Some kept →
    Settles T place result next → waiting ≡ (e ∷ []) ++ others → longer ≡ text ++ kept_line kept e → HaveLeft T place waiting text → HaveLeft T next others longer
left-pop T place next kept result e waiting others text longer told settles front more left =
    let settles' : Settles T place (Some kept) next = subst (λ (o : Option Bool). Settles T place o next) told settles in
    let left' : HaveLeft T place (e ∷ others) text = subst (λ (es : List Event). HaveLeft T place es text) front left in
    subst (HaveLeft T next others) (sym more) (left-leave T place next kept e others text settles' left')

kept-is : (kept : Bool) (e : Event) → kept_text kept (event_text e) ≡ kept_line kept e
kept-is true e = refl
kept-is false e = refl

-- the line at the front of the queue leaves
pub left-popped : (T : Recording) (place next : ℕ) (kept : Bool) (result : Option Bool) (events : List Event) (lines others : List (List ℕ)) (base text longer : List ℕ) → result ≡ Some kept →
    Settles T place result next → lines ≡ map event_text events → Pops lines kept text others longer → HaveLeft T place events (base ++ text) →
    (rest : List Event) × (others ≡ map event_text rest) × HaveLeft T next rest (base ++ longer)
left-popped T place next kept result [] lines others base text longer told settles are pops left =
    let settles' : Settles T place (Some kept) next = subst (λ (o : Option Bool). Settles T place o next) told settles in
    let more : suc place ≤ length T.events = settles'.1 in
    let size : 0 ≡ length T.events - place = ap length left.others ∙ length-drop place T.events in
    absurd (omega (arith, more, size))
left-popped T place next kept result (e ∷ events) lines others base text longer told settles are pops left =
    let of : (others ≡ map event_text events) × (longer ≡ text ++ kept_text kept (event_text e)) = subst (λ (ls : List (List ℕ)). Pops ls kept text others longer) are pops in
    let is : base ++ longer ≡ (base ++ text) ++ kept_line kept e =
    ap (λ (bytes : List ℕ). base ++ bytes) of.1 ∙ sym (append_assoc base text (kept_text kept (event_text e))) ∙ ap (λ (bytes : List ℕ). (base ++ text) ++ bytes) (kept-is kept e) in
    (events, of.0, left-pop T place next kept result e (e ∷ events) events (base ++ text) (base ++ longer) told settles refl is left)

-- lines come
pub lines-more : (events es : List Event) (old new : List (List ℕ)) → old ≡ map event_text events → new ≡ old ++ map event_text es → new ≡ map event_text (events ++ es)
lines-more events es old new are is = is ∙ ap (λ (ls : List (List ℕ)). ls ++ map event_text es) are ∙ sym (map-append event_text events es)

-- a line that the source lends
pub lent-is : (e : Event) (lent : Option (List ℕ)) (result : Option (Bor (List ℕ))) → Lends (Ok (Some e)) lent → IfSome result (λ l. lent ≡ Some l.now) → IfSome result (λ l. l.now ≡ event_text e)
lent-is e lent None lends is = tt
lent-is e lent (Some l) lends is = subst (λ (o : Option (List ℕ)). Lends (Ok (Some e)) o) is lends

-- nothing more is decided
pub all-left : (T : Recording) (place next : ℕ) (result : Option Bool) → result ≡ None → Settles T place result next → (next ≡ place) × ((place ≡ length T.events) ⊎ IsOpenFlush T (suc place))
all-left T place next result told settles = subst (λ (o : Option Bool). Settles T place o next) told settles

-- nothing has come
pub left-none : (f : Layout) (place : ℕ) (waiting : List Event) (base text : List ℕ) → place ≡ 0 → waiting ≡ [] → base ≡ [] → text ≡ base ++ ended (header f) →
    HaveLeft (empty f) place waiting text
left-none f place waiting base text start none fresh is =
    let P : ℕ → Type 0 = λ n. HaveLeft (empty f) n waiting text in
    let Q : List Event → Type 0 = λ es. HaveLeft (empty f) 0 es text in
    subst P (sym start) (subst Q (sym none) (left-start f text (is ∙ ap (λ (bytes : List ℕ). bytes ++ ended (header f)) fresh)))

-- events have come
pub left-next : (T : Recording) (es : List Event) (place next all : ℕ) (waiting longer : List Event) (text : List ℕ) → next ≡ place → longer ≡ waiting ++ es →
    ((k : ℕ) → k ≤ place → IsDecided T k) → place + all ≡ length T.events → HaveLeft T place waiting text → HaveLeft (with_events T es) next longer text
left-next T es place next all waiting longer text same is decided within left =
    let P : ℕ → Type 0 = λ n. HaveLeft (with_events T es) n longer text in
    let Q : List Event → Type 0 = λ ws. HaveLeft (with_events T es) place ws text in
    subst P (sym same) (subst Q (sym is) (left-take T es place waiting text decided (omega arith) left))

-- the lines of the events whose flag is set
pub texts-lines : (flags : List Bool) (events : List Event) → kept_texts flags (map event_text events) ≡ kept_lines flags events
texts-lines [] events = refl
texts-lines (b ∷ flags) [] = refl
texts-lines (b ∷ flags) (e ∷ events) = ap₂ (λ (x y : List ℕ). x ++ y) (kept-is b e) (texts-lines flags events)

-- all has left
pub left-all : (T : Recording) (place : ℕ) (flags : List Bool) (waiting : List Event) (text rest : List ℕ) → AreFlags T place flags → rest ≡ kept_lines flags waiting →
    HaveLeft T place waiting text → IsTextOfTrimmed T (text ++ rest)
left-all T place flags waiting text rest are is left =
    let P : List ℕ → Type 0 = λ bytes. IsTextOfTrimmed T (text ++ bytes) in subst P (sym is) (left-finish T place flags waiting text are left)

-- the text is told otherwise
pub left-same : (T : Recording) (place : ℕ) (waiting : List Event) (text other : List ℕ) → text ≡ other → HaveLeft T place waiting other → HaveLeft T place waiting text
left-same T place waiting text other is left = rw is left

pub left-after : (T : Recording) (place : ℕ) (waiting : List Event) (base text other : List ℕ) → text ≡ other → HaveLeft T place waiting (base ++ other) → HaveLeft T place waiting (base ++ text)
left-after T place waiting base text other is left = rw is left

-- the kept lines end the text
pub left-whole : (T : Recording) (place : ℕ) (waiting : List Event) (text : List ℕ) (lines : List (List ℕ)) (whole : List ℕ) → lines ≡ map event_text waiting → EndsWithKept T place text lines whole →
    HaveLeft T place waiting text → IsTextOfTrimmed T whole
left-whole T place waiting text lines whole are ends left =
    let flags = ends.0 in
    let rest : kept_texts flags lines ≡ kept_lines flags waiting = ap (kept_texts flags) are ∙ texts-lines flags waiting in
    subst (IsTextOfTrimmed T) (sym (ends.2 ∙ ap (λ (bytes : List ℕ). text ++ bytes) rest)) (left-finish T place flags waiting text ends.1 left)

-- or a text that is gone
pub left-ended : (T : Recording) (place : ℕ) (waiting : List Event) (text none : List ℕ) (lines : List (List ℕ)) (rest : List ℕ) → lines ≡ map event_text waiting → none ≡ [] → EndsWithKept T place none lines rest →
    HaveLeft T place waiting text → IsTextOfTrimmed T (text ++ rest)
left-ended T place waiting text none lines rest are gone ends left =
    let flags = ends.0 in
    let is : rest ≡ kept_lines flags waiting = ends.2 ∙ ap (λ (bytes : List ℕ). bytes ++ kept_texts flags lines) gone ∙ ap (kept_texts flags) are ∙ texts-lines flags waiting in
    left-all T place flags waiting text rest ends.1 is left

-- the text of a stream is gone
pub stream-cleared : (T : Recording) (s t : Stream) (text : List ℕ) → t.pass ≡ s.pass → t.queue.lines ≡ s.queue.lines → t.queue.text ≡ [] → IsStreamOf T s text → IsStreamOf T t (text ++ t.queue.text)
stream-cleared T s t text same lines gone is = record {
  pass = rw same is.pass;
  waiting = is.waiting;
  lines = lines ∙ is.lines;
  left = rw (same, gone, append-nil text) is.left;
}

-- ---- An event that comes while none waits

none-mapped : (waiting : List Event) → [] ≡ map event_text waiting → waiting ≡ []
none-mapped [] is = refl
none-mapped (e ∷ waiting) is = cc

-- a pass of a stream in which none waits has no mark
pub no-marks : (T : Recording) (p : Pass) (waiting : List Event) (lines : List (List ℕ)) (text : List ℕ) → lines ≡ [] → lines ≡ map event_text waiting → p.settled + length p.marks.items ≡ length T.events →
    HaveLeft T p.settled waiting text → p.marks.items ≡ []
no-marks T p waiting lines text none are all left = go p.marks.items size
  where
    alone : waiting ≡ []
    alone = none-mapped waiting (sym none ∙ are)

    past : 0 ≡ length T.events - p.settled
    past = sym (ap length alone) ∙ ap length left.others ∙ length-drop p.settled T.events

    size : length p.marks.items ≡ 0
    size = omega (arith, past, all)

    go : (list : List Mark) → length list ≡ 0 → list ≡ []
    go [] short = refl
    go (m ∷ list) short = absurd (omega arith)

pub left-alone : (T : Recording) (e : Event) (place all : ℕ) (waiting : List Event) (lines : List (List ℕ)) (text : List ℕ) → lines ≡ [] → lines ≡ map event_text waiting →
    ((k : ℕ) → k ≤ place → IsDecided T k) → place + all ≡ length T.events → HaveLeft T place waiting text → HaveLeft (with_event T e) place (e ∷ []) text
left-alone T e place all waiting lines text none are decided within left =
    let alone : waiting ≡ [] = none-mapped waiting (sym none ∙ are) in
    left-next T (e ∷ []) place place all waiting (e ∷ []) text refl (sym (ap (λ (es : List Event). es ++ e ∷ []) alone)) decided within left

-- it leaves at once
pub alone-left : (T : Recording) (place next : ℕ) (kept : Bool) (e : Event) (base text longer : List ℕ) → Settles T place (Some kept) next →
    longer ≡ text ++ kept_text kept (event_text e) → HaveLeft T place (e ∷ []) (base ++ text) → HaveLeft T next [] (base ++ longer)
alone-left T place next kept e base text longer settles is left =
    let more : base ++ longer ≡ (base ++ text) ++ kept_line kept e =
    ap (λ (bytes : List ℕ). base ++ bytes) is ∙ sym (append_assoc base text (kept_text kept (event_text e))) ∙ ap (λ (bytes : List ℕ). (base ++ text) ++ bytes) (kept-is kept e) in
    left-pop T place next kept (Some kept) e (e ∷ []) [] (base ++ text) (base ++ longer) refl settles refl more left

-- all that has come has left
pub none-left : (T : Recording) (place all : ℕ) (text : List ℕ) → place + all ≡ length T.events → HaveLeft T place [] text → (place ≡ length T.events) ⊎ IsOpenFlush T (suc place)
none-left T place all text within left =
    let size : 0 ≡ length T.events - place = ap length left.others ∙ length-drop place T.events in
    inl (omega (arith, size))
