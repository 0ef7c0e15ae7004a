-- What a line that was found takes from what was coming.
use Rattle.std.proofs.Common.{◌≡◌, ℕ, zero, suc, ◌+◌, ◌-◌, ◌<◌, ◌≤◌, List, [], ◌∷◌, ◌++◌, length, take, drop, get_or, true, false, ◌==◌, Option, Some, None, IfSome, Ok, Err, refl, sym, ap, ap₂, ◌∙◌, subst, arith, add-one, append_assoc, length-append}
use Rattle.std.proofs.Math.Seq.{drop-cons, take-append_seam}
use Rattle.std.proofs.lemmas.List.{take-append-drop, nil_from_length}
use Rattle.std.proofs.lemmas.Grind.{take_at_read}
use Rattle.std.proofs.lemmas.Bool.{eqb-true, eqb-false}
use Rattle.pmt_text.specs.Prelude.{Event, Layout, event_limit}
use Rattle.pmt_text.specs.declared.kind.TextKind.{TextKind}
use Rattle.pmt_text.specs.declared.kind.TextKind.TheVariants.{Truncated, BadHeader, TooManyEvents}
use Rattle.pmt_text.specs.declared.kind.SourceError.{SourceError}
use Rattle.pmt_text.specs.declared.kind.SourceError.TheVariants.{Text, TooMany}
use Rattle.pmt_text.specs.declared.line_reader.LineReader.{LineReader}
use Rattle.pmt_text.specs.declared.line_reader.Found.TheVariants.{End}
use Rattle.pmt_text.specs.Judging.{line_judged}
use Rattle.pmt_text.specs.Coming.{format_in, fault_at, rest_fault}
use Rattle.pmt_text.specs.OneLine.{IsOneLine}
use Rattle.pmt_text.specs.Lines.{Ahead, ahead, known_ahead, known_of, held, unread, IsLineAt, IsEventAt, Finds}
use Rattle.pmt_text.specs.Spelled.{IsFirstEvent}
use Rattle.pmt_text.specs.Spelling.{event_line, event_text}
use Rattle.pmt_text.specs.Sources.{Gives, IsOver, HasFormat, Faults, Lends}
use Rattle.pmt_text.specs.TextSources.{coming_of, coming_from}
use Rattle.pmt_text.proofs.JudgedLemmas.{line_judged-ok}
use Rattle.pmt_text.proofs.LineLemmas.{IsFree}
use Rattle.pmt_text.proofs.SpelledLemmas.{event_line_free, line_judged-event_line}
use Rattle.pmt_text.proofs.SpelledReading.{line-and-rest}
use Rattle.pmt_text.proofs.TextLemmas.{coming_now, coming_then, event_taken, event_late, event_refused, events_much, header_taken, header_refused, header_much, events_last, header_last, Gives-kept}

-- the bytes round place n
cut_list : (xs : List ℕ) (n : ℕ) → n < length xs → get_or xs n 0 ≡ 10 → xs ≡ take n xs ++ 10 ∷ drop (n + 1) xs
cut_list xs n within is =
    let after : drop n xs ≡ 10 ∷ drop (n + 1) xs = drop-cons xs n 0 within ∙ (rw (is, add-one) refl) in
    sym (take-append-drop n xs) ∙ ap (λ l. take n xs ++ l) after

-- no byte is LF, and then LF stands
pub one_line-free : (line : List ℕ) → IsFree 10 line → IsOneLine line
one_line-free [] free k l = absurd (omega arith)
one_line-free (b ∷ line) free zero l = eqb-false b 10 free.0
one_line-free (b ∷ line) free (suc k) l = one_line-free line free.1 k (omega arith)

newline-after : (line rest : List ℕ) → get_or (line ++ 10 ∷ rest) (length line) 0 ≡ 10
newline-after [] rest = refl
newline-after (b ∷ line) rest = newline-after line rest

pub length-first : (f : Layout) (e : Event) (text rest : List ℕ) → IsFirstEvent f e text rest → length text ≡ length (event_line e) + suc (length rest)
length-first f e text rest h = ap length (line-and-rest f e text rest h) ∙ length-append (event_line e) (10 ∷ rest)

-- the line that stands first in the piece is judged its event
pub plain-at : {R : Type 0} (f : Layout) (e : Event) (r : LineReader R) (text rest : List ℕ) → text ≡ unread r.piece → r.front.items ≡ [] → IsFirstEvent f e text rest
    → IsEventAt f e r (length text - length rest - 1)
plain-at f e r text rest is none h =
    let line : List ℕ = event_line e in
    let free : IsFree 10 line = event_line_free e in
    let long = length-first f e text rest h in
    let count : length text - length rest - 1 ≡ length line = omega (arith, long) in
    let whole : unread r.piece ≡ line ++ 10 ∷ rest = sym is ∙ line-and-rest f e text rest h in
    let cut : take (length text - length rest - 1) (unread r.piece) ≡ line = ap₂ (λ (n : ℕ) (xs : List ℕ). take n xs) count whole ∙ take-append_seam line (10 ∷ rest) in
    let found : r.front.items ++ take (length text - length rest - 1) (unread r.piece) ≡ line = ap₂ (λ (xs ys : List ℕ). xs ++ ys) none cut in
    record {
      found = record {
        within = omega (arith, long, ap length is);
        whole = λ some. none;
        one_line = subst IsOneLine (sym found) (one_line-free line free);
        ends = ap₂ (λ (xs : List ℕ) (n : ℕ). get_or xs n 0) whole count ∙ newline-after line rest;
      };
      judged = ap (line_judged f) found ∙ line_judged-event_line f e h.0;
    }

-- the line that is judged this event is its spelling, with the LF after it
pub line-is_text : {R : Type 0} (f : Layout) (e : Event) (r : LineReader R) (len : ℕ) → IsEventAt f e r len → r.front.items ++ take (len + 1) (unread r.piece) ≡ event_text e
unfolding event_text
line-is_text f e r len at =
    let bytes : List ℕ = unread r.piece in
    let last : take (len + 1) bytes ≡ take len bytes ++ 10 ∷ [] = (take_at_read bytes len 0 at.found.within).1 ∙ ap (λ (b : ℕ). take len bytes ++ b ∷ []) at.found.ends in
    ap (λ (l : List ℕ). r.front.items ++ l) last ∙ sym (append_assoc r.front.items (take len bytes) (10 ∷ []))
    ∙ ap (λ (l : List ℕ). l ++ 10 ∷ []) (sym (line_judged-ok f (r.front.items ++ take len bytes) e at.judged).spelled)

-- so it may be lent
pub lends-text : (e : Event) (lent : Option (List ℕ)) (line : List ℕ) → IfSome lent (λ l. l ≡ line) → line ≡ event_text e → Lends (Ok (Some e)) lent
lends-text e None line is text = tt
lends-text e (Some l) line is text = is ∙ text

-- some bytes after the last LF
rest_truncated : (number : ℕ) (front : List ℕ) → (length front == 0) ≡ false → rest_fault false number front ≡ Some (fault_at number Truncated)
rest_truncated number [] some = absurd (cc)
rest_truncated number (b ∷ front) some = refl

module _ {R : Type 0} (remaining : R → Option (List ℕ)) (old new : LineReader R) (len : ℕ) (found : IsLineAt old len)
    (rest : held new ≡ drop (len + 1) (unread old.piece)) (input : new.input ≡ old.input) (room : new.room ≡ old.room) where
  abbrev line : List ℕ
  line = old.front.items ++ take len (unread old.piece)

  cut_held : held old ≡ line ++ 10 ∷ held new
  cut_held =
      ap (λ l. old.front.items ++ l) (cut_list (unread old.piece) len found.within found.ends) ∙ sym (append_assoc old.front.items (take len (unread old.piece)) (10 ∷ drop (len + 1) (unread old.piece)))
      ∙ ap (λ l. line ++ 10 ∷ l) (sym rest)

  ahead_new : known_ahead (known_of remaining old) (held new) old.room ≡ ahead remaining new
  ahead_new = rw (input, room) refl

  -- it is an event
  pub found-taken : (f : Layout) (given : ℕ) (e : Event) → line_judged f line ≡ Ok e → given < event_limit
      → Gives (coming_from remaining (Some f) given old) (e ∷ []) (coming_from remaining (Some f) (given + 1) new)
  found-taken f given e judged few =
      subst (λ (a : Option Ahead). Gives (coming_from remaining (Some f) given old) (e ∷ []) (coming_then f given a)) ahead_new
      (event_taken f given (held old) (held new) line old.room cut_held found.one_line (known_of remaining old) e judged few)

  -- it is one event too many
  pub found-late : (f : Layout) (given : ℕ) (e : Event) → line_judged f line ≡ Ok e → event_limit ≤ given → IsOver (coming_from remaining (Some f) given old) (Some (fault_at (2 + given) TooManyEvents))
  found-late f given e judged many = event_late f given (held old) (held new) line old.room cut_held found.one_line (known_of remaining old) e judged many

  -- it is refused
  pub found-refused : (f : Layout) (given : ℕ) (kind : TextKind) → line_judged f line ≡ Err kind → IsOver (coming_from remaining (Some f) given old) (Some (fault_at (2 + given) kind))
  found-refused f given kind judged = event_refused f given (held old) (held new) line old.room cut_held found.one_line (known_of remaining old) kind judged

  -- it is the header
  pub found-header : (f : Layout) → format_in line ≡ Some f → HasFormat (coming_from remaining None 0 old) (Some f) × Gives (coming_from remaining None 0 old) [] (coming_from remaining (Some f) 0 new)
  found-header f judged =
      let h = header_taken (held old) (held new) line old.room cut_held found.one_line (known_of remaining old) f judged in
      (h.0, subst (λ (a : Option Ahead). Gives (coming_from remaining None 0 old) [] (coming_now f 0 a)) ahead_new h.1)

  -- it is no header
  pub found-no_header : format_in line ≡ None → IsOver (coming_from remaining None 0 old) (Some (fault_at 1 BadHeader))
  found-no_header judged = header_refused (held old) (held new) line old.room cut_held found.one_line (known_of remaining old) judged

module _ {R : Type 0} (remaining : R → Option (List ℕ)) (old new : LineReader R) where
  -- a search for an event's line that failed
  pub failed-events : (f : Layout) (given : ℕ) (e : SourceError) → Finds remaining old (Err e) new → Faults (coming_from remaining (Some f) given old) e
  failed-events f given (Text t) finds = absurd finds
  failed-events f given TooMany finds = events_much f given (ahead remaining old) finds
  failed-events f given a finds = tt

  -- a search for the header that failed
  pub failed-header : (e : SourceError) → Finds remaining old (Err e) new → Faults (coming_from remaining None 0 old) e
  failed-header (Text t) finds = absurd finds
  failed-header TooMany finds = header_much (ahead remaining old) finds
  failed-header a finds = tt

module _ {R : Type 0} (remaining : R → Option (List ℕ)) (old new : LineReader R) (finds : Finds remaining old (Ok End) new) where
  -- the text ends with an LF
  pub ended-events : (f : Layout) (given : ℕ) → (length new.front.items == 0) ≡ true
      → IsOver (coming_from remaining (Some f) given old) None × Gives (coming_from remaining (Some f) given old) [] (coming_from remaining (Some f) given new)
  ended-events f given none =
      let nothing : new.front.items ≡ [] = nil_from_length new.front.items (eqb-true (length new.front.items) 0 none) in
      let over : IsOver (coming_from remaining (Some f) given old) (rest_fault false (2 + given) new.front.items) = events_last f given (ahead remaining old) (ahead remaining new) new.front.items finds.0 finds.1 in
      (rw nothing at over, Gives-kept (coming_of (Some f) given) (ahead remaining old) (ahead remaining new) finds.0)

  -- it ends without LF
  pub cut-events : (f : Layout) (given : ℕ) → (length new.front.items == 0) ≡ false → IsOver (coming_from remaining (Some f) given old) (Some (fault_at (2 + given) Truncated))
  cut-events f given some =
      rw (← rest_truncated (2 + given) new.front.items some) (events_last f given (ahead remaining old) (ahead remaining new) new.front.items finds.0 finds.1)

  -- it ends before a first LF
  pub cut-header : IsOver (coming_from remaining None 0 old) (Some (fault_at 1 Truncated))
  cut-header = header_last (ahead remaining old) (ahead remaining new) new.front.items finds.0 finds.1
