-- The fronts of a trace from the lines of its first events.
use Rattle.std.proofs.Common.{◌≡◌, ℕ, suc, ◌+◌, ◌*◌, ◌^◌, ◌<◌, ◌≤◌, inl, inr, List, ◌∷◌, ◌++◌, length, drop, drop-cons, get_or, append_assoc, append-nil, map, reverse, Option, Some, None, refl, sym, ap, ◌∙◌, subst, arith, length-append}
use Rattle.std.specs.Prelude.{All}
use Rattle.std.proofs.lemmas.List.{drop_all, take-append-le}
use Rattle.pmt_laws.specs.Prelude.{Event, Layout, Act, count, Recording, IsEventIn, history, lines_of, act, with_event, front, flat_map}
use Rattle.pmt_text.specs.Coming.{Coming, ComesWhole}
use Rattle.pmt_text.specs.Sources.{Gives, HasFormat}
use Rattle.pmt_text.proofs.SourceLemmas.{whole-parts}
use Rattle.pmt_text.specs.declared.source.SourceState.{SourceState}
use Rattle.pmt_text.specs.declared.source.SourceState.TheVariants.{Open, Ended, Failed}
use Rattle.pmt_taking.proofs.GrownLemmas.{length-grown, history-new}
use Rattle.pmt_book.specs.Live.{IsLive}
use Rattle.pmt_report.specs.declared.first_lines.TraceLines.{TraceLines}
use Rattle.pmt_report.specs.Reports.{fronts_head, front_entry, fronts_text, AreLinesOf, TakesLines}
use Rattle.pmt_report.specs.Checks.{EndsAfter}
use Rattle.pmt_report.specs.Runs.{IsComputed, IsFrontsAt, IsPast}
use Rattle.pmt_report.proofs.BoundLemmas.{low-more}

-- ---- The lines with one event more

pub lines-more : (T : Recording) (e : Event) (old new : TraceLines) → AreLinesOf T old → IsEventIn old.format e → new.format ≡ old.format → new.events ≡ old.events + 1 →
    IsLive (act old.format e ∷ history T (length T.events)) new.live → AreLinesOf (with_event T e) new
lines-more T e old new before known format counted live =
    let h = history T (length T.events) in
    let grown : history (with_event T e) (length (with_event T e).events) ≡ act T.format e ∷ h = ap (history (with_event T e)) (length-grown T e) ∙ history-new T e in
    record {
      format = format ∙ before.format;
      counted = omega (arith, counted, before.counted, length-grown T e);
      live = subst (λ acts. IsLive acts new.live) (sym grown) (subst (λ (f : Layout). IsLive (act f e ∷ h) new.live) before.format live);
      low = subst (λ acts. All (λ l. l * T.format.line_size < 2 ^ 48) (lines_of acts)) (sym grown) (low-more T.format e h (subst (λ (f : Layout). IsEventIn f e) before.format known) before.low);
    }

-- ---- What a run computes

-- a trace with more events at its end
abbrev longer : Recording → List Event → Recording
longer P es = record { format = P.format; events = P.events ++ es }

-- the fronts after this history
abbrev fronts_after : Layout → ℕ → List Act → List ℕ
fronts_after f n h =
    fronts_head n (length (lines_of h)) ++ flat_map (λ l. front_entry (l * f.line_size) (front l h) (count l h)) (lines_of h)

fronts-history : (T : Recording) (n : ℕ) → fronts_text T n ≡ fronts_after T.format n (history T n)
unfolding fronts_text
fronts-history T n = refl

history-longer : (P : Recording) (es : List Event) → history (longer P es) (length P.events) ≡ history P (length P.events)
history-longer P es =
    ap (λ (xs : List Event). reverse (map (act P.format) xs)) (take-append-le (length P.events) P.events es (omega arith))

-- later events leave the fronts at a place
fronts-longer : (P : Recording) (es : List Event) → fronts_text P (length P.events) ≡ fronts_text (longer P es) (length P.events)
fronts-longer P es =
    fronts-history P (length P.events)
    ∙ ap (λ (h : List Act). fronts_after P.format (length P.events) h) (sym (history-longer P es))
    ∙ sym (fronts-history (longer P es) (length P.events))

-- the first events and the others are all that comes
all-from_parts : (a b : Option Coming) (P : Recording) (es : List Event) → HasFormat a (Some P.format) → Gives a P.events b → EndsAfter b es → ComesWhole a (longer P es)
all-from_parts None b P es f given ends = tt
all-from_parts (Some c) b P es f given ends =
    let left : EndsAfter (Some (record { format = c.format; events = given.0; fault = c.fault })) es = subst (λ (o : Option Coming). EndsAfter o es) given.2 ends in
    whole-parts c (longer P es) f (given.1 ∙ ap (λ (l : List Event). P.events ++ l) left.0) left.1

-- the fronts of the first events are those of all that comes
pub fronts-computed : (place : ℕ) (old new : Option Coming) (before after : SourceState) (lines : TraceLines) (es : List Event) (text : List ℕ) → (taken : TakesLines place old new before after lines) → place ≤ lines.events →
    EndsAfter new es → text ≡ fronts_text taken.trace (length taken.trace.events) → IsComputed (IsFrontsAt place) old text
fronts-computed place old new before after lines es text first enough ends is =
    let P = first.trace in
    let taken = first.first in
    let at : length P.events ≡ place = elim taken.few [ inl fewer ↦ absurd (omega (arith, fewer.0, first.known.counted)) | inr full ↦ full.0 ] in
    record {
      trace = longer P es;
      all = all-from_parts old new P es taken.format taken.events ends;
      answer = record {
        within = omega (arith, length-append P.events es);
        fronts = is ∙ fronts-longer P es ∙ ap (fronts_text (longer P es)) at;
      };
    }

-- the place lies past the events
pub fronts-past : (place : ℕ) (old new : Option Coming) (before after : SourceState) (lines : TraceLines) → TakesLines place old new before after lines → lines.events < place → IsPast place old lines.events
fronts-past place old new before after lines first past =
    elim first.first.few [
      | inl fewer ↦ record { trace = first.trace; all = fewer.1; many = sym first.known.counted; past = past }
      | inr full ↦ absurd (let h = full.0 in omega (arith, h, past, first.known.counted))
    ]

-- the others are still to come
pub fronts-open : (place : ℕ) (old new : Option Coming) (before after : SourceState) (lines : TraceLines) → TakesLines place old new before after lines → place ≤ lines.events → before ≡ Open → after ≡ Open
fronts-open place old new Ended after lines first enough is = cc
fronts-open place old new (Failed fault) after lines first enough is = cc
fronts-open place old new Open after lines first enough is = elim first.first.few [ inl fewer ↦ absurd (let h = fewer.0 in omega (arith, h, enough, first.known.counted)) | inr full ↦ full.1 ]

-- ---- Entries one after another

-- one entry more
pub entries-more : (f : ℕ → List ℕ) (all : List ℕ) (place : ℕ) (old new whole : List ℕ) → place < length all → new ≡ old ++ f (get_or all place 0) → old ++ flat_map f (drop place all) ≡ whole → new ++ flat_map f (drop (place + 1) all) ≡ whole
entries-more f all place old new whole within more so_far =
    let l = get_or all place 0 in
    let left = drop (place + 1) all in
    let next : suc place ≡ place + 1 = omega arith in
    let cut : drop place all ≡ l ∷ left = drop-cons all place 0 within ∙ ap (λ (k : ℕ). l ∷ drop k all) next in
    ap (λ (s : List ℕ). s ++ flat_map f left) more
    ∙ append_assoc old (f l) (flat_map f left)
    ∙ ap (λ (xs : List ℕ). old ++ flat_map f xs) (sym cut)
    ∙ so_far

-- all entries
pub entries-all : (f : ℕ → List ℕ) (all lines : List ℕ) (place : ℕ) (text old : List ℕ) → length all ≤ place → all ≡ lines → text ++ flat_map f (drop place all) ≡ old ++ flat_map f all → text ≡ old ++ flat_map f lines
entries-all f all lines place text old past same so_far =
    sym (append-nil text)
    ∙ ap (λ (xs : List ℕ). text ++ flat_map f xs) (sym (drop_all place all past))
    ∙ so_far
    ∙ ap (λ (xs : List ℕ). old ++ flat_map f xs) same
