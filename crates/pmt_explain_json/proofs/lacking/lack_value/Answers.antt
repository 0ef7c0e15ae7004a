use Rattle.std.proofs.Common.{[], ◌∷◌}
use Rattle.pmt_explain_json.specs.Lines.{lack_data}
use Rattle.pmt_explain_json.proofs.Making.{◌also◌, object-made}
use Rattle.pmt_explain_json.proofs.lacking.lack_value.Goals as goal

pub returns : goal.returns
returns c =
    object-made c.object_made.result _ _ (_ ∷ _ ∷ _ ∷ []) (lack_data c.args.lack.now)
    c.object_made.ensures c.in_ok-fields.ensures.items
    (c.count_or_null.ensures also c.text_value-kind.ensures also c.text_value-what.ensures also _)
    (λ d e. e)
