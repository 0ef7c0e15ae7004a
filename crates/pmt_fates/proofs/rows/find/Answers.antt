use Rattle.pmt_fates.proofs.Prelude.{refl, ap, sym, ◌∙◌, IsThere, row_place}
use Rattle.pmt_fates.proofs.rows.find.Goals as goal

pub returns-in-Some : goal.returns-in-Some
returns-in-Some c = IsThere (ap (row_place c.args.places.now) (sym c.origin_of.ensures) ∙ sym c.get.ensures ∙ c.in-Some.is) refl (λ q. refl)

pub add_row-requires : goal.add_row-requires
add_row-requires c = ap (row_place c.args.places.now) (c.origin_of-place.ensures ∙ sym c.origin_of.ensures) ∙ sym c.get.ensures ∙ c.in-None.is
