-- Whole texts: what is spelled is read, and what is read without fault is spelled.
use Rattle.std.proofs.Common.{◌≡◌, ℕ, ◌+◌, ◌<◌, ◌≤◌, inl, inr, Bool, true, false, cond, ◌&&◌, ◌||◌, ◌==◌, nat_lt, List, [], ◌∷◌, ◌++◌, codes, length, Option, Some, None, Result, Ok, Err, refl, sym, ◌∙◌, ap, ap₂, subst, arith, append_assoc, lt-ltb, le-ltb, ltb-true, eqb-true, find, take_all, zero-add}
use Rattle.std.specs.List.{AllByRecursion, flat_map, join_with_byte}
use Rattle.std.specs.Str.{bytes_eq}
use Rattle.std.proofs.lemmas.Bool.{cond-true, cond-false, and_parts, or_cases}
use Rattle.std.proofs.lemmas.List.Splits.{join_with_byte-slice_split}
use Rattle.pmt_text.specs.Prelude.{Op, Store, Clflush, Mfence, Event, Layout, IsFormat, first_version, is_line_size, Recording, IsTrace, IsEventIn, IsOp, in_format, event_limit}
use Rattle.pmt_text.specs.declared.kind.TextKind.{TextKind}
use Rattle.pmt_text.specs.declared.kind.TextKind.TheVariants.{BadWord, BadField, TooManyEvents}
use Rattle.pmt_text.specs.declared.kind.SourceError.{SourceError}
use Rattle.pmt_text.specs.declared.word.Word.{Word}
use Rattle.pmt_text.specs.declared.word.Word.TheVariants as words
use Rattle.pmt_text.specs.Spelling.{ended, header, numeral, event_line, event_text, op_line, op_text, spelling, script_spelling, word_text}
use Rattle.pmt_text.specs.Judging.{event_in, fields_of, required, is_known, event_checked, event_judged, line_judged, script_line_judged}
use Rattle.pmt_text.specs.Coming.{text_lines, fault_at, Items, ends_with, item_then, rest_fault, lines_coming, Coming, lines_of_trace, header_then, with_format, all_formats, format_in, trace_coming, judged, whole, script_coming, script_judged}
use Rattle.pmt_text.specs.Texts.{is_of_first_version, IsScript, whole_script, SpelledIsRead, ReadIsSpelled, OneTraceOfText, OneTextOfTrace, FirstVersionStays, NewWordsAreBad, ScriptsAreSpelled, WithinBound}
use Rattle.pmt_text.proofs.LineLemmas.{IsFree, parts-append}
use Rattle.pmt_text.proofs.ComingLemmas.{text_lines-nonempty, lines_coming-line}
use Rattle.pmt_text.proofs.ReaderLemmas.{judged-lines}
use Rattle.pmt_text.proofs.WordLemmas.{header-format_in, word_in-word_text, sized, format_in-first, format_in-32, format_in-64, format_in-128, format_in-256}
use Rattle.pmt_text.proofs.JudgedLemmas.{line_judged-ok, script_line_judged-ok}
use Rattle.pmt_text.proofs.SpelledLemmas.{free_from, event_line_free, op_line_free, line_judged-event_line, script_line_judged-op_line}

-- ---- Lines in order

-- each item stands alone in its line, which has no LF, and is read from it
record IsSpelledBy {A : Type 0} (rule : List ℕ → Result A TextKind) (line : A → List ℕ) (x : A) : Type 0 where
  free : IsFree 10 (line x)
  read : rule (line x) ≡ Ok x

spelled_lines : {A : Type 0} (rule : List ℕ → Result A TextKind) (line : A → List ℕ) (first before : ℕ) (xs : List A) → AllByRecursion (IsSpelledBy rule line) xs → before + length xs ≤ event_limit →
    lines_coming rule false first before (text_lines (flat_map (λ x. ended (line x)) xs)) ≡ record { items = xs; fault = None }
unfolding lines_coming
spelled_lines rule line first before [] h few = refl
spelled_lines rule line first before (x ∷ xs) h few =
    let rest : List ℕ = flat_map (λ y. ended (line y)) xs in
    let later : Items _ = lines_coming rule false first (before + 1) (text_lines rest) in
    ap (λ (text : List ℕ). lines_coming rule false first before (text_lines text)) (append_assoc (line x) (10 ∷ []) rest)
    ∙ ap (lines_coming rule false first before) (parts-append 10 (line x) rest h.0.free)
    ∙ lines_coming-line rule false first before (line x) rest
    ∙ ap (λ (j : Result _ TextKind). item_then (first + before) before j later) h.0.read
    ∙ cond-true (nat_lt before event_limit) (record { items = x ∷ later.items; fault = later.fault }) (ends_with (Some (fault_at (first + before) TooManyEvents))) (lt-ltb before event_limit (omega arith))
    ∙ ap (λ (items : Items _). record { items = x ∷ items.items; fault = items.fault }) (spelled_lines rule line first (before + 1) xs h.1 (omega arith))

-- the items of lines without fault: their spellings are the lines, and what holds of each item that the rule gives
record AreSpelled {A : Type 0} (line : A → List ℕ) (P : A → Type 0) (before : ℕ) (lines : List (List ℕ)) (xs : List A) : Type 0 where
  text : flat_map (λ x. ended (line x)) xs ≡ join_with_byte 10 lines
  few : before + length xs ≤ event_limit
  each : AllByRecursion P xs

module _ (A : Type 0) (rule : List ℕ → Result A TextKind) (line : A → List ℕ) (P : A → Type 0) (first : ℕ) where
  -- one line more
  spelled_more : (before : ℕ) (given : List ℕ) (lines : List (List ℕ)) (x : A) (later : Items A) → line x ≡ given → P x → (lines ≡ [] → ⊥) →
      AreSpelled line P (before + 1) lines later.items → AreSpelled line P before (given ∷ lines) (x ∷ later.items)
  spelled_more before given [] x later l p some h = absurd (some refl)
  spelled_more before given (next ∷ tail) x later l p some h =
      let few = h.few in
      record {
        text =
            append_assoc (line x) (10 ∷ []) (flat_map (λ y. ended (line y)) later.items)
            ∙ ap₂ (λ (xs ys : List ℕ). xs ++ 10 ∷ ys) l h.text;
        few = omega arith;
        each = (p, h.each);
      }

  -- the line gives an item, or a fault
  judged_line : (before : ℕ) (given : List ℕ) (lines : List (List ℕ)) (j : Result A TextKind) (later : Items A) → ((x : A) → j ≡ Ok x → (line x ≡ given) × P x) → (lines ≡ [] → ⊥) →
      (before + 1 ≤ event_limit → later.fault ≡ None → AreSpelled line P (before + 1) lines later.items) →
      (item_then (first + before) before j later).fault ≡ None → AreSpelled line P before (given ∷ lines) (item_then (first + before) before j later).items
  judged_line before given lines (Err kind) later reads some rest e = cc
  judged_line before given lines (Ok x) later reads some rest e = step (nat_lt before event_limit) refl e
    where
      step : (t : Bool) → nat_lt before event_limit ≡ t → (cond t (record { items = x ∷ later.items; fault = later.fault }) (ends_with (Some (fault_at (first + before) TooManyEvents)))).fault ≡ None →
          AreSpelled line P before (given ∷ lines) (cond t (record { items = x ∷ later.items; fault = later.fault }) (ends_with (Some (fault_at (first + before) TooManyEvents)))).items
      step true t e =
          let low : before < event_limit = ltb-true before event_limit t in
          let is = reads x refl in
          spelled_more before given lines x later is.0 is.1 some (rest (omega arith) e)
      step false t e = cc

  judged_lines : ((given : List ℕ) (x : A) → rule given ≡ Ok x → (line x ≡ given) × P x) → (before : ℕ) (lines : List (List ℕ)) → before ≤ event_limit → (lines ≡ [] → ⊥) →
      (lines_coming rule false first before lines).fault ≡ None → AreSpelled line P before lines (lines_coming rule false first before lines).items
  unfolding lines_coming
  judged_lines reads before [] few some e = absurd (some refl)
  judged_lines reads before (rest ∷ []) few some e = go rest e
    where
      go : (rest : List ℕ) → rest_fault false (first + before) rest ≡ None → AreSpelled line P before (rest ∷ []) []
      go [] e = record { text = refl; few = omega arith; each = tt }
      go (b ∷ bs) e = cc
  judged_lines reads before (given ∷ next ∷ tail) few some e =
      judged_line before given (next ∷ tail) (rule given) (lines_coming rule false first (before + 1) (next ∷ tail)) (λ x r. reads given x r) (λ none. cc)
      (λ short later. judged_lines reads (before + 1) (next ∷ tail) short (λ none. cc) later) e

item_each : {A : Type 0} (P : A → Type 0) (line before : ℕ) (j : Result A TextKind) (later : Items A) → ((x : A) → j ≡ Ok x → P x) → AllByRecursion P later.items → AllByRecursion P (item_then line before j later).items
item_each P line before (Err kind) later h rest = tt
item_each P line before (Ok x) later h rest = go (nat_lt before event_limit)
  where
    go : (t : Bool) → AllByRecursion P (cond t (record { items = x ∷ later.items; fault = later.fault }) (ends_with (Some (fault_at line TooManyEvents)))).items
    go true = (h x refl, rest)
    go false = tt

-- ---- Traces

event_lines : (f : Layout) (es : List Event) → AllByRecursion (IsEventIn f) es → AllByRecursion (IsSpelledBy (line_judged f) event_line) es
event_lines f [] h = tt
event_lines f (e ∷ es) h = (record { free = event_line_free e; read = line_judged-event_line f e h.0 }, event_lines f es h.1)

abbrev HasHeader : Layout → Type 0
HasHeader f = (format_in (header f) ≡ Some f) × IsFree 10 (header f)

has_first : HasHeader first_version
unfolding header
has_first = (format_in-first, free_from 10 (codes "pmtrace 1") refl)

has_32 : HasHeader (sized 32)
unfolding header numeral
has_32 = (format_in-32, free_from 10 (codes "pmtrace 2 32") refl)

has_64 : HasHeader (sized 64)
unfolding header numeral
has_64 = (format_in-64, free_from 10 (codes "pmtrace 2 64") refl)

has_128 : HasHeader (sized 128)
unfolding header numeral
has_128 = (format_in-128, free_from 10 (codes "pmtrace 2 128") refl)

has_256 : HasHeader (sized 256)
unfolding header numeral
has_256 = (format_in-256, free_from 10 (codes "pmtrace 2 256") refl)

-- the header of each format is judged as the format, and has no LF
has_header : (f : Layout) → IsFormat f → HasHeader f
has_header f h = elim (or_cases ((f.version == 1) && (f.line_size == 64)) ((f.version == 2) && is_line_size f.line_size) h) [
  | inl one ↦ first (and_parts (f.version == 1) (f.line_size == 64) one)
  | inr two ↦ second (and_parts (f.version == 2) (is_line_size f.line_size) two)
]
  where
    at : (v l : ℕ) → f.version ≡ v → f.line_size ≡ l → HasHeader (record { version = v; line_size = l }) → HasHeader f
    at v l e g has = subst (λ (x : Layout). HasHeader x) (ap₂ (λ (x y : ℕ). record { version = x; line_size = y }) (sym e) (sym g)) has

    first : ((f.version == 1) ≡ true) × ((f.line_size == 64) ≡ true) → HasHeader f
    first p = at 1 64 (eqb-true f.version 1 p.0) (eqb-true f.line_size 64 p.1) has_first

    second : ((f.version == 2) ≡ true) × (is_line_size f.line_size ≡ true) → HasHeader f
    second p =
        elim (or_cases ((f.line_size == 32) || (f.line_size == 64) || (f.line_size == 128)) (f.line_size == 256) p.1) [
          | inl low ↦ elim (or_cases ((f.line_size == 32) || (f.line_size == 64)) (f.line_size == 128) low) [
            | inl lower ↦ elim (or_cases (f.line_size == 32) (f.line_size == 64) lower) [
              | inl e ↦ at 2 32 (eqb-true f.version 2 p.0) (eqb-true f.line_size 32 e) has_32
              | inr e ↦ at 2 64 (eqb-true f.version 2 p.0) (eqb-true f.line_size 64 e) has_64
            ]
            | inr e ↦ at 2 128 (eqb-true f.version 2 p.0) (eqb-true f.line_size 128 e) has_128
          ]
          | inr e ↦ at 2 256 (eqb-true f.version 2 p.0) (eqb-true f.line_size 256 e) has_256
        ]

pub spelled_is_read : SpelledIsRead
unfolding spelling event_text
spelled_is_read T h =
    let f = T.format in
    let has = has_header f h.format in
    let rest : List ℕ = flat_map event_text T.events in
    let cut : text_lines (spelling T) ≡ header f ∷ text_lines rest = ap text_lines (append_assoc (header f) (10 ∷ []) rest) ∙ parts-append 10 (header f) rest has.1 in
    judged-lines (spelling T) (header f) rest cut
    ∙ ap (λ (o : Option Layout). header_then o false (text_lines rest)) has.0
    ∙ ap (with_format f) (spelled_lines (line_judged f) event_line 2 0 T.events (event_lines f T.events h.each) (omega (arith, h.few)))

find-all : {X : Type 0} (P : X → Type 0) (test : X → Bool) (xs : List X) (x : X) → AllByRecursion P xs → find test xs ≡ Some x → P x
find-all P test [] x h e = cc
find-all P test (y ∷ xs) x h e = go (test y) e (find-all P test xs x h.1)
  where
    go : (b : Bool) → cond b (Some y) (find test xs) ≡ Some x → (find test xs ≡ Some x → P x) → P x
    go true e later = let same : y ≡ x = cc in subst P same h.0
    go false e later = later e

is_format : (line : List ℕ) (f : Layout) → format_in line ≡ Some f → IsFormat f
unfolding format_in
is_format line f e = find-all IsFormat (λ g. bytes_eq (header g) line) all_formats f (refl, (refl, (refl, (refl, (refl, tt))))) e

spelled_text : (f : Layout) (es : List Event) (line text : List ℕ) → header f ≡ line → flat_map (λ e. ended (event_line e)) es ≡ text → line ++ 10 ∷ text ≡ spelling (record { format = f; events = es })
unfolding spelling event_text
spelled_text f es line text h t = sym (append_assoc (header f) (10 ∷ []) (flat_map event_text es) ∙ ap₂ (λ (xs ys : List ℕ). xs ++ 10 ∷ ys) h t)

-- what these lines are, where they have no fault
record IsSpelledTrace (lines : List (List ℕ)) (T : Recording) : Type 0 where
  trace : IsTrace T
  comes : lines_of_trace false lines ≡ whole T
  text : join_with_byte 10 lines ≡ spelling T

trace_lines : (lines : List (List ℕ)) → (lines_of_trace false lines).fault ≡ None → (T : Recording) × IsSpelledTrace lines T
trace_lines (line ∷ next ∷ tail) e = go (format_in line) refl e
  where
    go : (o : Option Layout) → format_in line ≡ o → (header_then o false (next ∷ tail)).fault ≡ None → (T : Recording) × IsSpelledTrace (line ∷ next ∷ tail) T
    go None i e = absurd (cc)
    go (Some f) i e =
        let later : Items Event = lines_coming (line_judged f) false 2 0 (next ∷ tail) in
        let T : Recording = record { format = f; events = later.items } in
        let read = judged_lines Event (line_judged f) event_line (IsEventIn f) 2 (λ given x r. let is = line_judged-ok f given x r in (is.spelled, is.allowed)) 0 (next ∷ tail) (omega arith) (λ none. cc) e in
        let few = read.few in (
          T,
          record {
            trace = record { format = is_format line f i; few = omega (arith, zero-add (length later.items)); each = read.each };
            comes =
                ap (λ (x : Option Layout). header_then x false (next ∷ tail)) i
                ∙ ap (λ (fault : Option SourceError). record { format = Some f; events = later.items; fault = fault }) e;
            text = spelled_text f later.items line (join_with_byte 10 (next ∷ tail)) (header-format_in line f i) read.text;
          },
        )
trace_lines a e = absurd (cc)

pub read_is_spelled : ReadIsSpelled
unfolding trace_coming
read_is_spelled text e =
    let read = trace_lines (text_lines text) e in
    (read.0, read.1.trace, read.1.comes, sym (join_with_byte-slice_split 10 text) ∙ read.1.text)

whole-same : (T U : Recording) → whole T ≡ whole U → T ≡ U
whole-same T U e =
    let formats : Some T.format ≡ Some U.format = ap (λ (c : Coming). c.format) e in
    let format : T.format ≡ U.format = cc in
    ap₂ (λ (f : Layout) (es : List Event). record { format = f; events = es }) format (ap (λ (c : Coming). c.events) e)

pub one_trace_of_text : OneTraceOfText
one_trace_of_text T U h g e = whole-same T U (sym (spelled_is_read T h) ∙ ap judged e ∙ spelled_is_read U g)

pub one_text_of_trace : OneTextOfTrace
one_text_of_trace first second T h g =
    let a = read_is_spelled first (ap (λ (c : Coming). c.fault) h) in
    let b = read_is_spelled second (ap (λ (c : Coming). c.fault) g) in
    let one : a.0 ≡ T = whole-same a.0 T (sym a.2 ∙ h) in
    let two : b.0 ≡ T = whole-same b.0 T (sym b.2 ∙ g) in
    a.3 ∙ ap spelling (one ∙ sym two) ∙ sym b.3

-- ---- Version 1

-- what holds of each item that the rule gives, also before a fault
items_each : {A : Type 0} (rule : List ℕ → Result A TextKind) (P : A → Type 0) (more : Bool) (first : ℕ) → ((given : List ℕ) (x : A) → rule given ≡ Ok x → P x) →
    (before : ℕ) (lines : List (List ℕ)) → AllByRecursion P (lines_coming rule more first before lines).items
unfolding lines_coming
items_each rule P more first reads before (given ∷ next ∷ tail) =
    item_each P (first + before) before (rule given) (lines_coming rule more first (before + 1) (next ∷ tail)) (reads given) (items_each rule P more first reads (before + 1) (next ∷ tail))
items_each rule P more first reads before a = tt

old_ops : (op : Op) → in_format first_version op ≡ is_of_first_version op
old_ops (Store w) = refl
old_ops b = refl

abbrev IsOld : Event → Type 0
IsOld e = is_of_first_version e.op ≡ true

old_events : (f : Layout) → f ≡ first_version → (given : List ℕ) (e : Event) → line_judged f given ≡ Ok e → IsOld e
old_events f same given e r =
    sym (old_ops e.op) ∙ ap (λ (g : Layout). in_format g e.op) (sym same) ∙ (line_judged-ok f given e r).allowed.known

pub first_version_stays : FirstVersionStays
unfolding trace_coming
first_version_stays text e = go (text_lines text) e
  where
    header : (o : Option Layout) (lines : List (List ℕ)) → (header_then o false lines).format ≡ Some first_version → AllByRecursion IsOld (header_then o false lines).events
    header None lines e = tt
    header (Some f) lines e = let same : f ≡ first_version = cc in items_each (line_judged f) IsOld false 2 (old_events f same) 0 lines

    go : (lines : List (List ℕ)) → (lines_of_trace false lines).format ≡ Some first_version → AllByRecursion IsOld (lines_of_trace false lines).events
    go [] e = tt
    go (rest ∷ []) e = tt
    go (line ∷ next ∷ tail) e = header (format_in line) (next ∷ tail) e

new_word : (w : Word) (line : List ℕ) (rest : List (List ℕ)) → fields_of line ≡ word_text w ∷ rest → is_known first_version w ≡ false → line_judged first_version line ≡ Err BadWord
unfolding line_judged
new_word w line rest e k =
    ap (event_judged first_version) e
    ∙ ap (λ (o : Option Word). required BadWord o (λ v. required BadField (event_in v rest) event_checked))
    (word_in-word_text first_version w ∙ cond-false (is_known first_version w) (Some w) None k)

pub new_words_are_bad : NewWordsAreBad
new_words_are_bad line rest (inl e) = new_word words.Clflush line rest e refl
new_words_are_bad line rest (inr e) = new_word words.Mfence line rest e refl

-- ---- Scripts

script_lines : (ops : List Op) → AllByRecursion (λ op. IsOp op × (is_of_first_version op ≡ true)) ops → AllByRecursion (IsSpelledBy script_line_judged op_line) ops
script_lines [] h = tt
script_lines (op ∷ ops) h =
    (record { free = op_line_free op; read = script_line_judged-op_line op h.0.0 (old_ops op ∙ h.0.1) }, script_lines ops h.1)

script_is_read : (ops : List Op) → IsScript ops → script_judged (script_spelling ops) ≡ whole_script ops
unfolding script_coming script_spelling op_text
script_is_read ops h = spelled_lines script_line_judged op_line 1 0 ops (script_lines ops h.each) (omega (arith, h.few))

script_read : (text : List ℕ) → (script_judged text).fault ≡ None → (ops : List Op) × IsScript ops × (script_judged text ≡ whole_script ops) × (text ≡ script_spelling ops)
unfolding script_coming script_spelling op_text
script_read text e =
    let later : Items Op = lines_coming script_line_judged false 1 0 (text_lines text) in
    let read = judged_lines Op script_line_judged op_line (λ op. IsOp op × (is_of_first_version op ≡ true)) 1
    (λ given op r. let is = script_line_judged-ok given op r in (is.spelled, (is.allowed, sym (old_ops op) ∙ is.known))) 0 (text_lines text) (omega arith) (text_lines-nonempty text) e in
    let few = read.few in (
      later.items,
      record { few = omega (arith, zero-add (length later.items)); each = read.each },
      ap (λ (fault : Option SourceError). record { items = later.items; fault = fault }) e,
      sym (read.text ∙ join_with_byte-slice_split 10 text),
    )

pub scripts_are_spelled : ScriptsAreSpelled
scripts_are_spelled = (script_is_read, script_read)

-- ---- Bounds

pub within_bound : WithinBound
within_bound bound text l =
    ap₂ trace_coming (le-ltb bound (length text) l) (take_all bound text l)
