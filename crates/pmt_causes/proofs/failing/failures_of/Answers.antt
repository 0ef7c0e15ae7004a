use Rattle.std.proofs.Common.{◌++◌, ◌∷◌, [], take, get_or, sym, subst, arith}
use Rattle.std.proofs.lemmas.Grind.{elements}
use Rattle.std.proofs.lemmas.List.{take_all, take_more}
use Rattle.pmt_causes.specs.Groups.{AreKeyed}
use Rattle.pmt_causes.proofs.KeyLemmas.{keyed-more}
use Rattle.pmt_causes.proofs.failing.failures_of.Goals as goal

pub loop-number-preserved : goal.loop-number-preserved
loop-number-preserved c =
    let T = c.args.trace.now in
    let labels = c.args.labels.now in
    let k = c.loop-number.number-index in
    let xs = c.args.numbers.now in
    let n = get_or xs k 0 in
    let old = c.loop-number.invariant in
    record {
      writers = c.in_ok-key.ensures.writers;
      keyed =
          subst (λ ys. AreKeyed T labels ys c.push_keyed.new.items.items) (sym (take_more xs k 0 c.loop-number-test.true))
          (subst (AreKeyed T labels (take k xs ++ n ∷ [])) (sym c.in_ok-push_keyed.ensures) (keyed-more T labels (take k xs) c.loop-number.items.items n c.in_ok-key.key old.keyed c.in_ok-key.ensures.key));
    }

pub returns : goal.returns
returns c = subst (λ ns. AreKeyed c.args.trace.now c.args.labels.now ns c.loop-number.items.items) (take_all c.loop-number.number-index c.args.numbers.now (omega arith)) c.loop-number.invariant.keyed

pub offset_bounds-numbers-number-index : goal.offset_bounds-numbers-number-index
offset_bounds-numbers-number-index c = grind (arith, elements)

pub key_at-requires-clause-safe : goal.key_at-requires-clause-safe
key_at-requires-clause-safe c = grind (arith, elements)

pub returns-in_err-key : goal.returns-in_err-key
returns-in_err-key c = grind (arith, elements)

pub returns-in_err-push_keyed : goal.returns-in_err-push_keyed
returns-in_err-push_keyed c = grind (arith, elements)
