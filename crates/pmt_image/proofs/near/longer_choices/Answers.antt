use Rattle.pmt_image.proofs.Prelude.{◌<◌, ◌-◌, ◌++◌, List, length, map, ap, ◌∙◌, arith, elements, LineStores, low_of, settings}
use Rattle.pmt_image.proofs.NearLemmas.{flat-step}
use Rattle.pmt_image.proofs.near.longer_choices.Goals as goal

pub loop-choice-preserved : goal.loop-choice-preserved
loop-choice-preserved c =
    let xs = c.args.choices.now in
    let inside : c.loop-choice.choice-index < length xs = omega (arith, c.loop-choice-test.true) in
    flat-step xs (λ choice. choice.items) (settings c.args.most c.args.line.line (low_of c.args.all c.args.line) (c.args.line.stores - c.args.line.persisted)) c.loop-choice.choice-index c.choice-item.result
    (map (λ choice. choice.items) c.loop-choice.more.items) (map (λ choice. choice.items) c.add_settings.new.more.items) inside c.choice-item.is c.loop-choice.invariant
    (c.in_ok-add_settings.ensures ∙ ap (λ (ys : List LineStores). map (λ choice. choice.items) c.loop-choice.more.items ++ settings c.args.most c.args.line.line (low_of c.args.all c.args.line) (c.args.line.stores - c.args.line.persisted) ys) c.as_slice.ensures.value)

pub returns-in_err-add_settings : goal.returns-in_err-add_settings
returns-in_err-add_settings c = grind (arith, elements)

pub returns : goal.returns
returns c = grind (arith, elements)
