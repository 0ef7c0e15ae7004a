-- What a reader of lines still has to give.
use Rattle.std.specs.Prelude.{ℕ, List, Option, slice_range}
use Rattle.std.specs.Io.KnownBytes.{prepend_known}
use Rattle.pmt_parts.specs.declared.pieces.Pieces.{Pieces}

module _ {R : Type 0} where
  -- what was read and not given yet
  abbrev pub held : Pieces R → List ℕ
  held p = slice_range p.bytes p.start p.end

  -- what is still to come, where that is known
  abbrev pub coming : (R → Option (List ℕ)) → Pieces R → Option (List ℕ)
  coming remaining p = prepend_known (held p) (remaining p.input)
