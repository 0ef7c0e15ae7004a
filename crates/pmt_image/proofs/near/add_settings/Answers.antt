use Rattle.pmt_image.proofs.Prelude.{arith, map, elements, low_of}
use Rattle.pmt_image.proofs.NearLemmas.{setting-step}
use Rattle.pmt_image.proofs.near.add_settings.Goals as goal

pub loop-step-preserved : goal.loop-step-preserved
loop-step-preserved c =
    setting-step c.loop-step.more.items c.push.new.self.items c.in_ok-longer.longer (λ choice. choice.items) (map (λ choice. choice.items) c.args.more.now.items) c.args.choice.now c.args.line.line (low_of c.args.all c.args.line) c.loop-step.step
    c.number_at-stores.result c.in_ok-push.ensures.items c.in_ok-longer.ensures c.number_at-stores.ensures c.loop-step.invariant

pub returns-in_err-longer : goal.returns-in_err-longer
returns-in_err-longer c = grind (arith, elements)

pub returns-in_err-push : goal.returns-in_err-push
returns-in_err-push c = grind (arith, elements)

pub returns : goal.returns
returns c = grind (arith, elements)
