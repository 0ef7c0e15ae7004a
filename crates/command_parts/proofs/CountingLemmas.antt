-- One part more is counted.
use Rattle.std.proofs.Common.{◌≡◌, ℕ, ◌+◌, ◌-◌, ◌^◌, List, [], ◌∷◌, ◌++◌, length-append, min, refl, sym, ◌∙◌, arith}
use Rattle.pmt_parts.specs.declared.part.Part.{Part}
use Rattle.command_parts.specs.declared.files.Written.{Written}
use Rattle.command_parts.specs.Counting.{IsCounted, last_end}

last-more : (end : ℕ) (parts : List Part) (p : Part) → last_end end (parts ++ p ∷ []) ≡ p.end
last-more end [] p = refl
last-more end (q ∷ parts) p = last-more q.end parts p

pub counted-more : (parts : List Part) (p : Part) (old new : Written) → IsCounted parts old → new.parts ≡ min (old.parts + 1) (2 ^ 64 - 1) → new.events ≡ p.end → IsCounted (parts ++ p ∷ []) new
counted-more parts p old new counted more end = (omega (arith, more, counted.0, length-append parts (p ∷ [])), end ∙ sym (last-more 0 parts p))
