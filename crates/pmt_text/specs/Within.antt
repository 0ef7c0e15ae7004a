-- How many bytes of a device a reader of lines has read.
use Rattle.std.specs.Prelude.{ℕ, ◌+◌, ◌≤◌, List, length, Option, Result, Ok, Err}
use Rattle.std.specs.Io.KnownBytes.{Consumes}
use Rattle.pmt_text.specs.declared.kind.SourceError.{SourceError}
use Rattle.pmt_text.specs.declared.line_reader.LineReader.{LineReader}
use Rattle.pmt_text.specs.declared.source.SourceState.{SourceState}
use Rattle.pmt_text.specs.declared.source.SourceState.TheVariants.{Open, Ended, Failed}
use Rattle.pmt_text.specs.Coming.{byte_limit}
use Rattle.pmt_text.specs.Lines.{known_of}
use Rattle.pmt_text.specs.ScriptInputs.{ReadsWithin}

module _ {R : Type 0} (remaining : R → Option (List ℕ)) (first : Option (List ℕ)) where
  -- Of a device that gave these bytes at first, it has read those for which it has no room any more.
  abbrev pub HasRead : LineReader R → Type 0
  HasRead r = (bytes : List ℕ) × (length bytes + r.room ≤ byte_limit) × Consumes first (known_of remaining r) bytes

  -- After a fault it may have read one byte more, which is not judged.
  abbrev pub StaysWithin : {A : Type 0} → Result A SourceError → LineReader R → Type 0
  StaysWithin (Ok x) r = HasRead r
  StaysWithin (Err e) r = ReadsWithin (byte_limit + 1) first (known_of remaining r)

  -- So by what a source told.
  abbrev pub HasReadIn : SourceState → LineReader R → Type 0
  HasReadIn Open r = HasRead r
  HasReadIn Ended r = HasRead r
  HasReadIn (Failed e) r = ReadsWithin (byte_limit + 1) first (known_of remaining r)
