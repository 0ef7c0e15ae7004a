use Rattle.pmt_hints.proofs.NamedByteLemmas.{opens-known}
use Rattle.pmt_hints.proofs.named_bytes.NamedBytes.open.Goals as goal

pub returns-in-Some : goal.returns-in-Some
returns-in-Some c = opens-known c.args.self.now c.args.block c.in-Some.place c.requires c.in-Some.ensures.slot c.in-Some.ensures.small
