-- The page: its data blocks as JSON besides the columns, and the parts of its template around them.
use Rattle.std.specs.Prelude.{ℕ, nat_lt, ◌==◌, if◌then◌else◌, List, [], ◌∷◌, ◌++◌, codes, ◌≡◌, ◌-◌, Bool, length, take, map, slice_get, Some, false}
use Rattle.std.specs.List.{flat_map, AllByRecursion, list_any}
use Rattle.pmt_text.specs.Spelling.{hex_pair, numeral, hex_bytes}
use Rattle.pmt_text.specs.Prelude.{Event, Verdict, IsEvent}
use Rattle.pmt_explain.specs.declared.dropped_event.Dropped.{Dropped}
use Rattle.pmt_page.specs.declared.known.Kept.{Kept}
use Rattle.pmt_page.specs.declared.labels.Label.{Label}
use Rattle.pmt_page.specs.declared.sources.SourceFile.{SourceFile}
use Rattle.pmt_page.specs.declared.sources.SourcePart.{SourcePart}
use Rattle.pmt_page.specs.Columns.{has_ranges, has_values, columns, listed, steps}
use Rattle.pmt_page.specs.declared.known.Kept.TheVariants.{Whole}
use Rattle.pmt_page.specs.declared.known.SafePlace.{SafePlace}
use Rattle.pmt_page.specs.declared.page.PageBlocks.{PageBlocks}
use Rattle.pmt_page.specs.declared.parts.TheConstants.{BEFORE_PICTURE, BEFORE_TEXT, BEFORE_ABOUT, BEFORE_COLUMNS, BEFORE_EXPLAINED, BEFORE_LABELS, BEFORE_SOURCES, AFTER_SOURCES}
use Rattle.pmt_page.specs.declared.template.Template.{Template}

-- A byte of JSON on the page: a < could end the element that it stands in.
abbrev pub embedded_byte : ℕ → List ℕ
embedded_byte c = if c == 60 then codes "\\u003c" else c ∷ []

abbrev pub embedded : List ℕ → List ℕ
embedded text = flat_map embedded_byte text

-- A byte of a string of JSON.
abbrev pub quoted_byte : ℕ → List ℕ
quoted_byte c =
    if c == 34 then codes "\\\"" else (if c == 92 then codes "\\\\" else (if nat_lt c 32 then codes "\\u00" ++ hex_pair c else c ∷ []))

abbrev pub quoted : List ℕ → List ℕ
quoted text = codes "\"" ++ flat_map quoted_byte text ++ codes "\""

-- A byte of text in HTML.
abbrev pub html_byte : ℕ → List ℕ
html_byte c =
    if c == 38 then codes "&amp;" else (if c == 60 then codes "&lt;" else (if c == 62 then codes "&gt;" else c ∷ []))

abbrev pub html : List ℕ → List ℕ
html text = flat_map html_byte text

-- ---- The data blocks besides the columns, as JSON

abbrev pub truth : Bool → List ℕ
truth b = if b then codes "true" else codes "false"

-- Whether there are ranges of assertions and bytes of stores.
abbrev pub flags : Bool → Bool → List ℕ
flags ranges values = codes ",\"ranges\":" ++ truth ranges ++ codes ",\"values\":" ++ truth values ++ codes "}"

-- How many labels are left out, and what of the trace is kept.
abbrev pub about_kept : ℕ → Kept → List ℕ
about_kept labels_left_out kept =
    codes "\",\"labels_left_out\":" ++ numeral 10 labels_left_out ++ flags (has_ranges kept) (has_values kept)

-- What the page is of: a trace with this many events, this size of a cache line, this name and this digest.
abbrev pub about : ℕ → ℕ → List ℕ → List ℕ → List ℕ → ℕ → Kept → List ℕ
about events line_size name program digest labels_left_out kept =
    codes "{\"events\":" ++ numeral 10 events
    ++ codes ",\"line_size\":" ++ numeral 10 line_size
    ++ codes ",\"name\":" ++ quoted name
    ++ codes ",\"program\":" ++ quoted program
    ++ codes ",\"schema\":1,\"sha256\":\"" ++ hex_bytes digest
    ++ about_kept labels_left_out kept

-- LF ends a value.
abbrev pub separated_byte : ℕ → List ℕ
separated_byte c = if c == 10 then codes "," else c ∷ []

-- Values of JSON, each a line, as an array of them.
abbrev pub array_of_lines : List ℕ → List ℕ
array_of_lines lines = codes "[" ++ flat_map separated_byte (take (length lines - 1) lines) ++ codes "]"

-- The distinct texts of labels, and of each label the place of its text among them, from 0.
pub record AreTexts (labels : List Label) (texts : List (List ℕ)) (places : List ℕ) : Type 0 where
  pub each : map (slice_get texts) places ≡ map (λ (l : Label). Some l.text.now) labels
  pub distinct : (i j : ℕ) (text : List ℕ) → slice_get texts i ≡ Some text → slice_get texts j ≡ Some text → i ≡ j

-- The numbers of the labelled events, the texts, and of each event the place of its text.
abbrev pub labels_block : List Label → List (List ℕ) → List ℕ → List ℕ
labels_block labels texts places =
    codes "{\"events\":\"" ++ steps 0 (map (λ (l : Label). l.event) labels)
    ++ codes "\",\"texts\":[" ++ listed quoted texts
    ++ codes "],\"text\":\"" ++ steps 0 places
    ++ codes "\"}"

abbrev pub IsLabelsBlock : List Label → List ℕ → Type 0
IsLabelsBlock labels block =
    (texts : List (List ℕ)) × (places : List ℕ) × AreTexts labels texts places
    × (block ≡ labels_block labels texts places)

-- A source file, with why none of its lines are here.
abbrev pub source_file : SourceFile → List ℕ
source_file f = codes "{\"name\":" ++ quoted f.name.now ++ codes ",\"why\":" ++ quoted f.why.now ++ codes "}"

-- Lines of the file at this place, from 0, the first of which has this number.
abbrev pub source_part : SourcePart → List ℕ
source_part p =
    codes "{\"file\":" ++ numeral 10 p.file
    ++ codes ",\"first\":" ++ numeral 10 p.first
    ++ codes ",\"lines\":" ++ quoted p.lines.now
    ++ codes "}"

-- Files and lines of them, and whether these are all that labels name.
abbrev pub sources_block : List SourceFile → List SourcePart → Bool → List ℕ
sources_block files parts is_all =
    codes "{\"all\":" ++ truth is_all
    ++ codes ",\"files\":[" ++ listed source_file files
    ++ codes "],\"parts\":[" ++ listed source_part parts
    ++ codes "]}"

-- Columns with nothing left out are the same only where the events are, whatever is found of them.
abbrev pub ColumnsTellEvents : Type 0
ColumnsTellEvents =
    (es fs : List Event) (safe other_safe : List SafePlace) (verdicts other_verdicts : List Verdict) (dropped other_dropped : List Dropped) →
    AllByRecursion IsEvent es → AllByRecursion IsEvent fs →
    columns Whole es safe verdicts dropped ≡ columns Whole fs other_safe other_verdicts other_dropped → es ≡ fs

-- LF is in the text.
abbrev pub has_lf : List ℕ → Bool
has_lf text = list_any (λ c. c == 10) text

-- Values that have no LF, each a line, become the array with these items.
abbrev pub LinesBecomeArray : Type 0
LinesBecomeArray =
    (value : List ℕ) (values : List (List ℕ)) → AllByRecursion (λ v. has_lf v ≡ false) (value ∷ values) →
    array_of_lines (flat_map (λ v. v ++ 10 ∷ []) (value ∷ values)) ≡ codes "[" ++ listed (λ v. v) (value ∷ values) ++ codes "]"

-- ---- The page: the parts of its template, with a block between each two

-- The parts of a template. Each but the last is named after the block that follows.
pub record Parts : Type 0 where
  pub before_picture : List ℕ
  pub before_text : List ℕ
  pub before_about : List ℕ
  pub before_columns : List ℕ
  pub before_explained : List ℕ
  pub before_labels : List ℕ
  pub before_sources : List ℕ
  pub after_sources : List ℕ

-- What stands there until the script is ready, and stays where none runs.
abbrev pub still : Parts → PageBlocks → List ℕ
still p b = p.before_picture ++ b.picture.now ++ p.before_text ++ html b.text.now

-- The data of the trace.
abbrev pub trace_data : Parts → PageBlocks → List ℕ
trace_data p b = p.before_about ++ embedded b.about.now ++ p.before_columns ++ embedded b.columns.now

-- Lines of source files, and the script.
abbrev pub source_data : Parts → PageBlocks → List ℕ
source_data p b = p.before_sources ++ embedded b.sources.now ++ p.after_sources

-- What is told of it, and the script.
abbrev pub told_data : Parts → PageBlocks → List ℕ
told_data p b = p.before_explained ++ embedded b.explained.now ++ p.before_labels ++ embedded b.labels.now ++ source_data p b

unfoldable pub filled : Parts → PageBlocks → List ℕ
filled p b = still p b ++ trace_data p b ++ told_data p b

abbrev pub parts_of : Template → Parts
parts_of t = record {
  before_picture = t.before_picture.now;
  before_text = t.before_text.now;
  before_about = t.before_about.now;
  before_columns = t.before_columns.now;
  before_explained = t.before_explained.now;
  before_labels = t.before_labels.now;
  before_sources = t.before_sources.now;
  after_sources = t.after_sources.now;
}

-- The template in the folder page/.
abbrev pub parts : Parts
parts = record {
  before_picture = BEFORE_PICTURE.now;
  before_text = BEFORE_TEXT.now;
  before_about = BEFORE_ABOUT.now;
  before_columns = BEFORE_COLUMNS.now;
  before_explained = BEFORE_EXPLAINED.now;
  before_labels = BEFORE_LABELS.now;
  before_sources = BEFORE_SOURCES.now;
  after_sources = AFTER_SOURCES.now;
}

unfoldable pub page : PageBlocks → List ℕ
page b = filled parts b
