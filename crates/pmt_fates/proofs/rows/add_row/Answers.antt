use Rattle.pmt_fates.proofs.Prelude.{◌≡◌, ◌+◌, [], ◌∷◌, ◌++◌, length, ap, ◌∙◌, arith, IsNew, row_at}
use Rattle.pmt_fates.proofs.RowPlaceLemmas.{set-others, set-there}
use Rattle.pmt_fates.proofs.rows.add_row.Goals as goal

pub returns : goal.returns
returns c =
    let k = c.args.place in
    let old = c.args.places.now in
    let new = c.set.new.self in
    let end : c.len-end.result ≡ length c.args.rows.now.items = omega (arith, c.len-end.ensures, c.args.rows.now.ok.0) in
    let added : c.push.new.self.items ≡ c.args.rows.now.items ++ row_at k c.args.number ∷ [] = c.in_ok-push.ensures.items ∙ ap (λ r. c.args.rows.now.items ++ r ∷ []) c.row_at.ensures in
    IsNew c.requires end added (set-there old new k c.len-end.result c.in_ok-set.ensures) (set-others old new k (c.len-end.result + 1) c.in_ok-set.ensures)
