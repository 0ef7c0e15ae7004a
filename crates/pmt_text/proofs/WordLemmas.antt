-- Which word and which header a field or a line is.
use Rattle.std.proofs.Common.{◌≡◌, ◌≢◌, ℕ, Bool, true, false, cond, ◌&&◌, List, [], ◌∷◌, codes, find, Some, None, refl, sym, ◌∙◌, ap, inl, inr}
use Rattle.std.specs.List.{AllByRecursion}
use Rattle.std.specs.Str.{bytes_eq}
use Rattle.std.proofs.lemmas.Bool.{cond-true, cond-false, and_left, and_right, and_parts, cases_Bool}
use Rattle.std.proofs.lemmas.Slice.Eq.{bytes_eq-Decides}
use Rattle.pmt_model.specs.Values.{Layout, first_version}
use Rattle.pmt_text.specs.declared.word.Word.{Word}
use Rattle.pmt_text.specs.declared.word.Word.TheVariants as words
use Rattle.pmt_text.specs.Spelling.{word_text, header, numeral}
use Rattle.pmt_text.specs.Judging.{word_in, is_known, all_words}
use Rattle.pmt_text.specs.Coming.{format_in, all_formats}
use Rattle.pmt_text.specs.JudgedEvents.{find-some}

-- what a test of bytes says
pub is_text : (field shown text : List ℕ) (b : Bool) → b ≡ bytes_eq field shown → shown ≡ text → b ≡ true → field ≡ text
is_text field shown text b e s t = (bytes_eq-Decides field shown).0 (sym e ∙ t) ∙ s

pub no_text : (field shown text : List ℕ) (b : Bool) → b ≡ bytes_eq field shown → shown ≡ text → b ≡ false → field ≢ text
no_text field shown text b e s t same =
    let yes : bytes_eq field shown ≡ true = (bytes_eq-Decides field shown).1 (same ∙ sym s) in cc

-- the text of a word is the word, where the format has it
pub word_in-word_text : (f : Layout) (w : Word) → word_in f (word_text w) ≡ cond (is_known f w) (Some w) None
unfolding word_in
word_in-word_text f words.Store = refl
word_in-word_text f words.Clwb = refl
word_in-word_text f words.ClflushOpt = refl
word_in-word_text f words.Clflush = refl
word_in-word_text f words.Sfence = refl
word_in-word_text f words.Mfence = refl
word_in-word_text f words.IsPersist = refl
word_in-word_text f words.IsOrderedBefore = refl

pub word_in-known : (f : Layout) (w : Word) (field : List ℕ) → field ≡ word_text w → is_known f w ≡ true → Some w ≡ word_in f field
word_in-known f w field e k = sym (ap (word_in f) e ∙ word_in-word_text f w ∙ cond-true (is_known f w) (Some w) None k)

pub find-none : {X : Type 0} (test : X → Bool) (xs : List X) → AllByRecursion (λ x. test x ≡ false) xs → find test xs ≡ None
find-none test [] h = refl
find-none test (x ∷ xs) h = cond-false (test x) (Some x) (find test xs) h.0 ∙ find-none test xs h.1

-- a field that is none of the words of the format
pub word_in-other : (f : Layout) (field : List ℕ) → ((w : Word) → is_known f w ≡ true → field ≢ word_text w) → None ≡ word_in f field
unfolding word_in
word_in-other f field h =
    sym (find-none (λ w. bytes_eq (word_text w) field && is_known f w) all_words
    (each words.Store, (each words.Clwb, (each words.ClflushOpt, (each words.Clflush, (each words.Sfence, (each words.Mfence, (each words.IsPersist, (each words.IsOrderedBefore, tt)))))))))
  where
    each : (w : Word) → (bytes_eq (word_text w) field && is_known f w) ≡ false
    each w =
        elim (cases_Bool (is_known f w)) [ inl known ↦ and_left (bytes_eq (word_text w) field) (is_known f w) (other known) | inr unknown ↦ and_right (bytes_eq (word_text w) field) (is_known f w) unknown ]
      where
        other : is_known f w ≡ true → bytes_eq (word_text w) field ≡ false
        other known =
            elim (cases_Bool (bytes_eq (word_text w) field)) [ inl same ↦ absurd (h w known (sym ((bytes_eq-Decides (word_text w) field).0 same))) | inr unlike ↦ unlike ]

-- what was read as a word has its text, and the format has it
pub word_text-word_in : (f : Layout) (field : List ℕ) (w : Word) → word_in f field ≡ Some w → (word_text w ≡ field) × (is_known f w ≡ true)
unfolding word_in
word_text-word_in f field w e =
    let parts = and_parts (bytes_eq (word_text w) field) (is_known f w) (find-some (λ v. bytes_eq (word_text v) field && is_known f v) all_words w e) in
    ((bytes_eq-Decides (word_text w) field).0 parts.0, parts.1)

-- ---- Headers

abbrev pub sized : ℕ → Layout
sized size = record { version = 2; line_size = size }

-- the header of each format is judged as the format
pub format_in-first : format_in (codes "pmtrace 1") ≡ Some first_version
unfolding format_in header numeral
format_in-first = refl

pub format_in-32 : format_in (codes "pmtrace 2 32") ≡ Some (sized 32)
unfolding format_in header numeral
format_in-32 = refl

pub format_in-64 : format_in (codes "pmtrace 2 64") ≡ Some (sized 64)
unfolding format_in header numeral
format_in-64 = refl

pub format_in-128 : format_in (codes "pmtrace 2 128") ≡ Some (sized 128)
unfolding format_in header numeral
format_in-128 = refl

pub format_in-256 : format_in (codes "pmtrace 2 256") ≡ Some (sized 256)
unfolding format_in header numeral
format_in-256 = refl

-- a line that is no header
pub format_in-other : (line : List ℕ) → line ≢ codes "pmtrace 1" → line ≢ codes "pmtrace 2 32" → line ≢ codes "pmtrace 2 64" → line ≢ codes "pmtrace 2 128" → line ≢ codes "pmtrace 2 256" → None ≡ format_in line
unfolding format_in header numeral
format_in-other line a b c d e =
    sym (find-none (λ f. bytes_eq (header f) line) all_formats (differs _ a, (differs _ b, (differs _ c, (differs _ d, (differs _ e, tt))))))
  where
    differs : (text : List ℕ) → line ≢ text → bytes_eq text line ≡ false
    differs text other =
        elim (cases_Bool (bytes_eq text line)) [ inl same ↦ absurd (other (sym ((bytes_eq-Decides text line).0 same))) | inr unlike ↦ unlike ]

-- what was read as a format has the line as its header, and is one of the formats
pub header-format_in : (line : List ℕ) (f : Layout) → format_in line ≡ Some f → header f ≡ line
unfolding format_in
header-format_in line f e = (bytes_eq-Decides (header f) line).0 (find-some (λ g. bytes_eq (header g) line) all_formats f e)
