use Rattle.pmt_explain.specs.Crashes.{AreLostAmong}
use Rattle.pmt_explain.proofs.losing.lost_among.Given as goal

abbrev pub invariant-loop-store : goal.invariant-loop-store
invariant-loop-store l = AreLostAmong l.trace l.place l.full l.last l.store-index l.lost.items
