use Rattle.std.proofs.Common.{◌≡◌, ℕ, [], List, Option, Some, None, refl, option_map}
use Rattle.pmt_text.specs.Coming.{judged_within}
use Rattle.pmt_text.specs.Lines.{known_ahead}
use Rattle.pmt_text.specs.TextSources.{coming_of}
use Rattle.pmt_text.proofs.text_source.TextSource.new.Goals as goal

-- where nothing was read, all comes from the reader
at_start : (known : Option (List ℕ)) (room : ℕ) → option_map (coming_of None 0) (known_ahead known [] room) ≡ option_map (judged_within room) known
at_start None room = refl
at_start (Some xs) room = refl

pub returns-clause-coming : goal.returns-clause-coming
returns-clause-coming g c = rw (c.new.ensures.held, c.new.ensures.room, c.new.ensures.input) (at_start _ _)
