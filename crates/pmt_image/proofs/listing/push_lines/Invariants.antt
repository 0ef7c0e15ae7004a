use Rattle.pmt_image.proofs.Prelude.{◌≡◌, ◌++◌, take, flat_map, line_words}
use Rattle.pmt_image.proofs.listing.push_lines.Given as goal

abbrev pub invariant-loop-index : goal.invariant-loop-index
invariant-loop-index l = l.text.items ≡ l.initial.text.items ++ flat_map (line_words l.line_size) (take l.index l.lines)
