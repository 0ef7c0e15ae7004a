use Rattle.std.proofs.Common.{ℕ, List, sum, ap, ap₂, ◌∙◌, arith}
use Rattle.pmt_trimming.specs.LineQueues.{cut_by}
use Rattle.pmt_trimming.proofs.held_lines.HeldLines.give_up_room.Goals as goal

pub invariant_of-self : goal.invariant_of-self
invariant_of-self c = record {
  run = c.closed-self-inside.ensures.run;
  some = c.given_up-self-inside.ensures.within;
  cut = omega (arith, c.self.invariant.cut, c.closed-self-inside.ensures.size, ap sum c.given_up-self-inside.ensures.rest);
}

pub returns : goal.returns
returns c =
    ap₂ (λ (text : List ℕ) (lines : List (List ℕ)). record { text = text; lines = lines }) c.closed-self-inside.ensures.text
    (ap₂ (λ (lengths bytes : List ℕ). cut_by lengths bytes) c.given_up-self-inside.ensures.rest c.closed-self-inside.ensures.rest) ∙ c.self.view_is
