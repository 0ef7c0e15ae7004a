use Rattle.std.proofs.lemmas.Result.{IfOk-weaker}
use Rattle.pmt_fates.proofs.PathLemmas.{all-needed, none-needed}
use Rattle.pmt_fates.proofs.places.paths_of.Goals as goal

pub returns-then-not-needs_paths : goal.returns-then-not-needs_paths
returns-then-not-needs_paths c = λ told dropped are_fates are_saved.
    none-needed c.args.trace.now c.args.paths.now told dropped c.args.places.now c.new.result.items c.needs_paths.result c.needs_paths.ensures c.if-not-needs_paths.true c.new.ensures.items

pub returns : goal.returns
returns c = IfOk-weaker c.rows_in_order.result _ _
    (λ rows are told dropped are_fates are_saved.
    all-needed c.args.trace.now c.args.paths.now told dropped c.args.places.now rows.items c.needs_paths.result c.needs_paths.ensures c.if-not-needs_paths.false (are told dropped are_fates are_saved))
    c.rows_in_order.ensures
