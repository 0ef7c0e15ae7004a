use Rattle.std.proofs.Common.{ℕ, List}
use Rattle.pmt_rows.specs.Known.{IsChain}
use Rattle.pmt_rows.proofs.ChainLemmas.{IsWalking}
use Rattle.pmt_rows.proofs.links.Links.raise.Given as goal

abbrev pub invariant-loop-number : goal.invariant-loop-number
invariant-loop-number l = (stores : List ℕ) → IsChain l.initial.self-inside.entries.items l.safe l.initial.number stores → IsWalking l.initial.self-inside.entries.items l.safe stores l.self-inside.entries.items l.number l.place

abbrev pub decreases-loop-number : goal.decreases-loop-number
decreases-loop-number l = l.number
