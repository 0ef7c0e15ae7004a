use Rattle.std.proofs.Common.{◌≡◌, ◌∷◌, [], ◌++◌, ap, ◌∙◌, subst, sym, append-nil, arith, refl, ℕ, List, take}
use Rattle.std.proofs.lemmas.List.{take_all, take_more, flat_map_more, map-append}
use Rattle.std.proofs.lemmas.List.Elements.{All-nil, All-push}
use Rattle.std.specs.List.{flat_map}
use Rattle.pmt_explanation.specs.Prelude.{ShownCrash, ShownFailure, IsShownCrash, AreShownCrashes}
use Rattle.pmt_explain_json.specs.Entries.{failure_line}
use Rattle.pmt_explain_json.proofs.lines.push_failures.Goals as goal

pub loop-shown-init : goal.loop-shown-init
loop-shown-init c = ([], record { each = All-nil (IsShownCrash c.args.trace.now); all = refl }, sym (append-nil c.args.text.now.items))

pub loop-shown-preserved : goal.loop-shown-preserved
loop-shown-preserved c =
    let T = c.args.trace.now in
    let fs : List ShownFailure = c.args.failures.now in
    let i = c.loop-shown.shown-index in
    let line : ShownCrash → List ℕ = failure_line T c.args.labels.now in
    let crashes : List ShownCrash = c.loop-shown.invariant.0 in
    let before : AreShownCrashes T (take i fs) crashes = c.loop-shown.invariant.1 in
    let crash : ShownCrash = c.in_ok-push_failure.ensures.0 in (
      crashes ++ crash ∷ [],
      record {
        each = All-push (IsShownCrash T) crashes crash before.each c.in_ok-push_failure.ensures.1;
        all =
            map-append (λ (d : ShownCrash). d.shown) crashes (crash ∷ [])
            ∙ ap (λ (gs : List ShownFailure). gs ++ crash.shown ∷ []) before.all
            ∙ ap (λ (g : ShownFailure). take i fs ++ g ∷ []) c.in_ok-push_failure.ensures.2
            ∙ sym (take_more fs i _ c.loop-shown-test.true);
      },
      c.in_ok-push_failure.ensures.3
          ∙ ap (λ (t : List ℕ). t ++ line crash) c.loop-shown.invariant.2
          ∙ flat_map_more line c.args.text.now.items crashes crash,
    )

pub returns : goal.returns
returns c =
    let fs : List ShownFailure = c.args.failures.now in
    let i = c.loop-shown.shown-index in
    subst (λ (gs : List ShownFailure). (crashes : List ShownCrash) × AreShownCrashes c.args.trace.now gs crashes
    × (c.loop-shown.text.items ≡ c.args.text.now.items ++ flat_map (failure_line c.args.trace.now c.args.labels.now) crashes))
    (take_all i fs (omega (arith, c.loop-shown-test.false))) c.loop-shown.invariant
