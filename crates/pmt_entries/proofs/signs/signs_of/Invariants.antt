use Rattle.std.proofs.Common.{◌≡◌, Some, drop}
use Rattle.std.specs.List.{position_from}
use Rattle.pmt_hints.specs.declared.hint.Hint.{Hint}
use Rattle.pmt_entries.specs.declared.signs.Mark.{Mark}
use Rattle.pmt_entries.specs.Sites.{is_mark, mark_of, sign_at}
use Rattle.pmt_entries.proofs.signs.signs_of.Given as goal

abbrev pub invariant-loop-index : goal.invariant-loop-index
invariant-loop-index l = (m : Mark) → sign_at l.signs (Some m) ≡ position_from (λ (h : Hint). is_mark (Some m) (mark_of l.trace l.fences h)) l.index (drop l.index l.hints)
