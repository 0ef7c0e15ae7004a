use Rattle.pmt_page.proofs.Prelude.{◌≡◌, ◌++◌, drop, flat_map, html_byte}
use Rattle.pmt_page.proofs.escapes.push_html.Given as goal

abbrev pub invariant-loop-byte : goal.invariant-loop-byte
invariant-loop-byte l = l.text.items ++ flat_map html_byte (drop l.byte-index l.words) ≡ l.initial.text.items ++ flat_map html_byte l.words
