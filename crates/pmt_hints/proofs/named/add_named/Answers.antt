use Rattle.std.proofs.Common.{false, subst, sym}
use Rattle.pmt_hints.specs.NamedBytes.{Adds}
use Rattle.pmt_hints.specs.Claiming.{IsNamedIn}
use Rattle.pmt_hints.proofs.NamingLemmas.{named-some}
use Rattle.pmt_hints.proofs.named.add_named.Goals as goal

pub returns : goal.returns
returns c =
    subst (λ n. Adds (IsNamedIn c.args.role n c.args.op) c.args.bytes.now c.add.new.self) (sym c.if-not-is_naming.false)
    (named-some c.args.role c.args.op c.in-Some.range c.args.bytes.now c.add.new.self (sym c.in-Some.ensures) c.in_ok-add.ensures)
