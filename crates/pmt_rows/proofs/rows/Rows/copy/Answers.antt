use Rattle.std.proofs.Common.{sym, subst, ◌∙◌, rules}
use Rattle.std.specs.Prelude.{nat_eq}
use Rattle.std.specs.List.{IsDistinct}
use Rattle.pmt_rows.proofs.RowLemmas.{known-same}
use Rattle.pmt_rows.proofs.rows.Rows.copy.Goals as goal

pub returns : goal.returns
returns c = λ lines last safe flush is.
    known-same lines last safe flush c.args.self.now is _ (c.in_ok-copied.ensures (subst (IsDistinct nat_eq) (sym is.placed) is.once))
    (c.in_ok-to_vec.ensures.items_if_clones_equal (λ y same. search rules) ∙ c.as_slice.ensures.value)
