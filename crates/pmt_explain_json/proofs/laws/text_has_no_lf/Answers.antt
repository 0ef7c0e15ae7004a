use Rattle.pmt_explain_json.proofs.CleanLaws.{text_has_no_lf}
use Rattle.pmt_explain_json.proofs.laws.text_has_no_lf.Goals as goal

pub returns : goal.returns
returns c = text_has_no_lf
