use Rattle.std.proofs.Common.{arith}
use Rattle.pmt_sweep.proofs.line_order.safe_from.Goals as goal

pub entry-requires : goal.entry-requires
entry-requires c = let r = c.requires in omega (arith, c.if-store-safe.true, r.4, r.3.entries.come r.2, r.3.entries.many)

pub returns-then-store-safe : goal.returns-then-store-safe
returns-then-store-safe c = λ T n l known safe. record { safe = λ le. c.entry.ensures; pending = λ less. absurd (omega (arith, less, safe, c.if-store-safe.true)) }

pub returns-else-store-safe : goal.returns-else-store-safe
returns-else-store-safe c = λ T n l known safe. record { safe = λ le. absurd (omega (arith, le, safe, c.if-store-safe.false)); pending = λ less. omega arith }
