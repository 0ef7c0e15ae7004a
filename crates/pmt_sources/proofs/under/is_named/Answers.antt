use Rattle.pmt_sources.specs.Places.{Names}
use Rattle.pmt_sources.proofs.NamingLemmas.{decided, undecided}
use Rattle.pmt_sources.proofs.under.is_named.Goals as goal

pub returns-in-Some : goal.returns-in-Some
returns-in-Some c =
    decided c.args.labels.now c.args.event c.in-Some.other c.args.place c.is_same.result c.in-Some.ensures c.is_same.ensures

pub returns-in-None : goal.returns-in-None
returns-in-None c = undecided (Names c.args.labels.now c.args.event c.args.place.file.now c.args.place.line) (c.in-None.ensures c.args.place.file.now c.args.place.line)
