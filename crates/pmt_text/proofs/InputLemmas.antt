-- A script's bytes, read piece by piece, and its first fault, line by line.
use Rattle.std.proofs.Common.{◌≡◌, ℕ, ◌+◌, ◌<◌, ◌≤◌, true, false, List, [], ◌∷◌, ◌++◌, length, take, Option, Some, None, Ok, Err, refl, sym, ap, ◌∙◌, arith, append-nil, lt-ltb, le-ltb}
use Rattle.std.proofs.lemmas.List.{length-append, take_all}
use Rattle.std.proofs.Math.Seq.{take-append_seam}
use Rattle.std.proofs.KnownBytes.{Consumes-trans, Consumes-kept}
use Rattle.std.specs.Io.KnownBytes.{Consumes, Keeps, IsAtEnd}
use Rattle.pmt_text.specs.Prelude.{Op, event_limit}
use Rattle.pmt_text.specs.declared.kind.TextKind.{TextKind}
use Rattle.pmt_text.specs.declared.kind.TextKind.TheVariants.{TooManyEvents}
use Rattle.pmt_text.specs.declared.kind.SourceError.{SourceError}
use Rattle.pmt_text.specs.declared.kind.SourceError.TheVariants.{TooMany}
use Rattle.pmt_text.specs.Judging.{script_line_judged}
use Rattle.pmt_text.specs.Coming.{Items, text_lines, lines_coming, item_then, fault_at}
use Rattle.pmt_text.specs.ScriptInputs.{ReadsWithin, IsRead}
use Rattle.pmt_text.proofs.ComingLemmas.{lines_coming-line, lines_coming-rest}

-- ---- Bytes

pub reads-kept : (most : ℕ) (a b c : Option (List ℕ)) (text : List ℕ) → length text ≤ most → Consumes a b text → Keeps b c → ReadsWithin most a c
reads-kept most a b c text few taken kept = (text, few, Consumes-kept a b c text taken kept)

pub reads-more : (most : ℕ) (a b c : Option (List ℕ)) (text piece : List ℕ) → length text + length piece ≤ most → Consumes a b text → Consumes b c piece → ReadsWithin most a c
reads-more most a b c text piece few taken more = (text ++ piece, omega (arith, few, length-append {A = ℕ}), Consumes-trans a b c text piece taken more)

-- the reader is at its end
pub read-ended : (bound : ℕ) (a b c : Option (List ℕ)) (text piece : List ℕ) → Consumes a b text → Consumes b c piece → length piece ≡ 0 → IsAtEnd c → length text ≤ bound → IsRead bound a text false
read-ended bound None b c text piece taken more none end few = tt
read-ended bound (Some xs) None c text piece taken more none end few = absurd taken
read-ended bound (Some xs) (Some ys) None text piece taken more none end few = absurd more
read-ended bound (Some xs) (Some ys) (Some zs) text [] taken more none end few =
    let all : xs ≡ text = taken ∙ ap (λ l. text ++ l) (more ∙ end) ∙ append-nil text in
    let len : length xs ≡ length text = ap length all in
    (sym (ap (take bound) all ∙ take_all bound text few), sym (le-ltb bound (length xs) (omega (arith, few, len))))
read-ended bound (Some xs) (Some ys) (Some zs) text (x ∷ piece) taken more none end few = absurd (omega (arith, none))

-- more bytes come than are judged
pub read-over : (bound : ℕ) (a b c : Option (List ℕ)) (text piece : List ℕ) → Consumes a b text → Consumes b c piece → 0 < length piece → length text ≡ bound → IsRead bound a text true
read-over bound None b c text piece taken more some full = tt
read-over bound (Some xs) None c text piece taken more some full = absurd taken
read-over bound (Some xs) (Some ys) None text piece taken more some full = absurd more
read-over bound (Some xs) (Some ys) (Some zs) text piece taken more some full =
    let len : length xs ≡ length text + (length piece + length zs) = ap length (taken ∙ ap (λ l. text ++ l) more) ∙ length-append text (piece ++ zs) ∙ ap (λ n. length text + n) (length-append piece zs) in
    let front : take bound (text ++ ys) ≡ text = ap (λ n. take n (text ++ ys)) (sym full) ∙ take-append_seam text ys in
    (sym (ap (take bound) taken ∙ front), sym (lt-ltb bound (length xs) (omega (arith, some, full, len))))

-- ---- Lines

-- the fault of these bytes after so many ops, where more bytes come than are judged
abbrev pub fault_after : ℕ → List ℕ → Option SourceError
fault_after count text = (lines_coming script_line_judged true 1 count (text_lines text)).fault

module _ (count : ℕ) (text line rest : List ℕ) (lines : text_lines text ≡ line ∷ text_lines rest) where
  fault-line : fault_after count text ≡ (item_then (1 + count) count (script_line_judged line) (lines_coming script_line_judged true 1 (count + 1) (text_lines rest))).fault
  fault-line =
      ap (λ (l : List (List ℕ)). (lines_coming script_line_judged true 1 count l).fault) lines
      ∙ ap (λ (i : Items Op). i.fault) (lines_coming-line script_line_judged true 1 count line rest)

  pub fault-next : (op : Op) → script_line_judged line ≡ Ok op → count < event_limit → fault_after count text ≡ fault_after (count + 1) rest
  fault-next op judged few =
      fault-line ∙ rw (judged, lt-ltb count event_limit few) refl

  pub fault-refused : (kind : TextKind) → script_line_judged line ≡ Err kind → fault_after count text ≡ Some (fault_at (1 + count) kind)
  fault-refused kind judged = fault-line ∙ rw judged refl

  pub fault-late : (op : Op) → script_line_judged line ≡ Ok op → event_limit ≤ count → fault_after count text ≡ Some (fault_at (1 + count) TooManyEvents)
  fault-late op judged many = fault-line ∙ rw (judged, le-ltb count event_limit many) refl

pub fault-long : (count : ℕ) (text : List ℕ) → text_lines text ≡ text ∷ [] → fault_after count text ≡ Some TooMany
fault-long count text last =
    ap (λ (l : List (List ℕ)). (lines_coming script_line_judged true 1 count l).fault) last
    ∙ ap (λ (i : Items Op). i.fault) (lines_coming-rest script_line_judged true 1 count text)
