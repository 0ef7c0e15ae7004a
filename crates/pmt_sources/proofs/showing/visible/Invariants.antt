use Rattle.std.proofs.Common.{string_bytes, ◌≡◌, encode_utf8_all, map}
use Rattle.pmt_sources.specs.Places.{sign}
use Rattle.pmt_sources.proofs.showing.visible.Given as goal

abbrev pub invariant-loop-letter : goal.invariant-loop-letter
invariant-loop-letter l = string_bytes l.shown ≡ encode_utf8_all (map sign l.yielded)
