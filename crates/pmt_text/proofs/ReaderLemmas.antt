-- What the readers of whole texts answer, at each of their returns.
use Rattle.std.proofs.Common.{◌≡◌, ℕ, ◌+◌, Bool, true, false, ◌==◌, List, [], ◌∷◌, length, Option, Some, None, Result, Ok, Err, refl, sym, ◌∙◌, ap, subst, arith, eqb-true, eq-eqb, true≢false}
use Rattle.std.specs.Borrow.{Bor}
use Rattle.pmt_text.specs.Prelude.{Op, Event, Layout, empty, Recording}
use Rattle.pmt_text.specs.declared.kind.TextKind.{TextKind}
use Rattle.pmt_text.specs.declared.kind.TextKind.TheVariants.{Truncated, BadHeader}
use Rattle.pmt_text.specs.declared.kind.ReadError.{ReadError}
use Rattle.pmt_text.specs.declared.kind.ReadError.TheVariants as answers
use Rattle.pmt_text.specs.Judging.{line_judged, script_line_judged}
use Rattle.pmt_text.specs.Coming.{Items, Coming, text_lines, lines_of_trace, header_then, with_format, fault_at, format_in, trace_coming, judged, script_coming, script_judged, Refuses}
use Rattle.pmt_text.specs.Texts.{AddsJudged, AddsLine, AddsOp, SplitsJudged, error_at, trace_then, script_then}
use Rattle.pmt_text.proofs.ComingLemmas.{text_lines-nonempty, coming_after-item, coming_after-fault, coming_after-end, coming_after-truncated}

-- a slice without bytes
pub is_empty : (text : List ℕ) (b : Bool) → b ≡ (length text == 0) → b ≡ true → text ≡ []
is_empty [] b e t = refl
is_empty (x ∷ xs) b e t = absurd (omega (arith, eqb-true (length (x ∷ xs)) 0 (sym e ∙ t)))

pub not_empty : (text : List ℕ) (b : Bool) → b ≡ (length text == 0) → b ≡ false → text ≡ [] → ⊥
not_empty text b e t none = true≢false (sym (e ∙ eq-eqb (length text) 0 (ap length none)) ∙ t)

-- ---- Traces

-- the first line is judged in the format of the trace
pub in_format : (T : Recording) (f : Layout) (judged : Result Event TextKind) (text : List ℕ) (rest : Bor (List ℕ)) → f ≡ T.format → SplitsJudged f (Some (judged, rest)) text → SplitsJudged T.format (Some (judged, rest)) text
in_format T f judged text rest e h = subst (λ (x : Layout). SplitsJudged x (Some (judged, rest)) text) e h

-- what was judged is of the line
pub adds-line : (T new : Recording) (line : List ℕ) (judged : Result Event TextKind) (r : Result (Unit {0}) ReadError) → line_judged T.format line ≡ judged → AddsJudged T judged r new → AddsLine T line r new
adds-line T new line judged r e h = subst (λ (j : Result Event TextKind). AddsJudged T j r new) (sym e) h

-- the event of the line is added
pub trace_then-line : (T new : Recording) (text line rest : List ℕ) (u : Unit {0}) → text_lines text ≡ line ∷ text_lines rest → AddsLine T line (Ok u) new → trace_then new rest ≡ trace_then T text
trace_then-line T new text line rest u l h =
    ap (λ (t : Recording). trace_then t rest) h.3
    ∙ ap (with_format T.format) (sym (coming_after-item (line_judged T.format) false 2 T.events text line rest h.0 l h.1 h.2))

-- a refusal of the line is what comes
pub gives_fault : (T new : Recording) (text line rest : List ℕ) (e : ReadError) (c : Coming) → text_lines text ≡ line ∷ text_lines rest → AddsLine T line (Err e) new → trace_then T text ≡ c → Refuses e c.fault
gives_fault T new text line rest (answers.Text f) c l h s =
    ap (λ (x : Coming). x.fault) (sym s) ∙ coming_after-fault (line_judged T.format) false 2 T.events text line rest f l h
gives_fault T new text line rest answers.OutOfMemory c l h s = tt

-- a line without LF is what comes
pub gives_truncated : (T : Recording) (text : List ℕ) (e : ReadError) (c : Coming) → text_lines text ≡ text ∷ [] → (text ≡ [] → ⊥) → e ≡ answers.Text (error_at (2 + length T.events) Truncated) → trace_then T text ≡ c → Refuses e c.fault
gives_truncated T text e c l some is s =
    subst (λ (x : ReadError). Refuses x c.fault) (sym is)
    (ap (λ (x : Coming). x.fault) (sym s) ∙ coming_after-truncated (line_judged T.format) false 2 T.events text l some refl)

-- nothing more comes
pub trace_then-end : (T : Recording) (text : List ℕ) → text_lines text ≡ text ∷ [] → text ≡ [] → trace_then T text ≡ record { format = Some T.format; events = T.events; fault = None }
trace_then-end T text l none = ap (with_format T.format) (coming_after-end (line_judged T.format) false 2 T.events text l none refl)

-- ---- The first line

pub judged-no_line : (text : List ℕ) → text_lines text ≡ text ∷ [] → (judged text).fault ≡ Some (fault_at 1 Truncated)
unfolding trace_coming
judged-no_line text l = ap (λ (lines : List (List ℕ)). (lines_of_trace false lines).fault) l

pub judged-lines : (text line rest : List ℕ) → text_lines text ≡ line ∷ text_lines rest → judged text ≡ header_then (format_in line) false (text_lines rest)
unfolding trace_coming
judged-lines text line rest l = ap (lines_of_trace false) l ∙ go (text_lines rest) (text_lines-nonempty rest)
  where
    go : (lines : List (List ℕ)) → (lines ≡ [] → ⊥) → lines_of_trace false (line ∷ lines) ≡ header_then (format_in line) false lines
    go [] some = absurd (some refl)
    go (next ∷ tail) some = refl

pub judged-no_header : (text line rest : List ℕ) → text_lines text ≡ line ∷ text_lines rest → None ≡ format_in line → (judged text).fault ≡ Some (fault_at 1 BadHeader)
judged-no_header text line rest l h =
    ap (λ (c : Coming). c.fault) (judged-lines text line rest l)
    ∙ ap (λ (o : Option Layout). (header_then o false (text_lines rest)).fault) (sym h)

-- after the header, the events come
pub judged-header : (text line rest : List ℕ) (f : Layout) → text_lines text ≡ line ∷ text_lines rest → Some f ≡ format_in line → trace_then (empty f) rest ≡ judged text
judged-header text line rest f l h =
    sym (judged-lines text line rest l ∙ ap (λ (o : Option Layout). header_then o false (text_lines rest)) (sym h))

-- ---- Scripts

pub script_then-line : (ops new : List Op) (text line rest : List ℕ) (u : Unit {0}) → text_lines text ≡ line ∷ text_lines rest → AddsOp ops line (Ok u) new → script_then new rest ≡ script_then ops text
script_then-line ops new text line rest u l h =
    ap (λ (t : List Op). script_then t rest) h.3 ∙ sym (coming_after-item script_line_judged false 1 ops text line rest h.0 l h.1 h.2)

pub refuses_fault : (ops new : List Op) (text line rest : List ℕ) (e : ReadError) (s : Items Op) → text_lines text ≡ line ∷ text_lines rest → AddsOp ops line (Err e) new → script_then ops text ≡ s → Refuses e s.fault
refuses_fault ops new text line rest (answers.Text f) s l h is =
    ap (λ (x : Items Op). x.fault) (sym is) ∙ coming_after-fault script_line_judged false 1 ops text line rest f l h
refuses_fault ops new text line rest answers.OutOfMemory s l h is = tt

pub refuses_truncated : (ops : List Op) (text : List ℕ) (e : ReadError) (s : Items Op) → text_lines text ≡ text ∷ [] → (text ≡ [] → ⊥) → e ≡ answers.Text (error_at (1 + length ops) Truncated) → script_then ops text ≡ s → Refuses e s.fault
refuses_truncated ops text e s l some is same =
    subst (λ (x : ReadError). Refuses x s.fault) (sym is)
    (ap (λ (x : Items Op). x.fault) (sym same) ∙ coming_after-truncated script_line_judged false 1 ops text l some refl)

pub script_then-end : (ops : List Op) (text : List ℕ) → text_lines text ≡ text ∷ [] → text ≡ [] → script_then ops text ≡ record { items = ops; fault = None }
script_then-end ops text l none = coming_after-end script_line_judged false 1 ops text l none refl

pub script_judged-lines : (text : List ℕ) → script_then [] text ≡ script_judged text
unfolding script_coming
script_judged-lines text = refl
