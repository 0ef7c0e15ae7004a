use Rattle.std.proofs.Common.{◌≡◌, ◌++◌, ℕ, List, OnOk, codes, ap, ◌∙◌, subst, append_assoc}
use Rattle.pmt_text.specs.Spelling.{numeral, address}
use Rattle.pmt_explain_json.proofs.words.push_address.Goals as goal

pub returns : goal.returns
unfolding address
returns c =
    let digits = numeral 16 c.args.addr in
    let all = ap (λ (bytes : List ℕ). bytes ++ digits) c.in_ok-extend_from_slice.ensures.items ∙ append_assoc c.args.text.now.items (codes "0x") digits in
    subst (λ (bytes : List ℕ). OnOk c.push_number.result (c.push_number.new.text.items ≡ bytes)) all c.push_number.ensures
