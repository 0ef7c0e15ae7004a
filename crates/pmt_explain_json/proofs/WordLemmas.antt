-- The line of an event, without its end.
use Rattle.std.proofs.Common.{◌≡◌, ℕ, ◌-◌, List, [], ◌∷◌, ◌++◌, length, take, sym, arith, length-append}
use Rattle.std.proofs.Math.Seq.{take-append_seam}
use Rattle.pmt_model.specs.declared.event.Event.{Event}
use Rattle.pmt_text.specs.Spelling.{event_line, event_text}

front-is : (line : List ℕ) → take (length (line ++ 10 ∷ []) - 1) (line ++ 10 ∷ []) ≡ line
front-is line =
    let e : length (line ++ 10 ∷ []) - 1 ≡ length line = omega (arith, length-append line (10 ∷ [])) in
    rw e (take-append_seam line (10 ∷ []))

pub line_is_front : (e : Event) → event_line e ≡ take (length (event_text e) - 1) (event_text e)
unfolding event_text
line_is_front e = sym (front-is (event_line e))
