use Rattle.std.proofs.Common.{rules, ◌≡◌, ℕ, ◌-◌, ◌<◌, inl, inr, Bool, List, length, take, drop, get_or, true, false, sym, ap, ◌∙◌, subst, arith}
use Rattle.std.specs.Prelude.{nat_eq}
use Rattle.std.specs.List.{range_with_len, starts_with}
use Rattle.std.proofs.lemmas.Bool.{cases_eq}
use Rattle.std.proofs.lemmas.List.{length-drop, take_all}
use Rattle.std.proofs.lemmas.List.Folds.{list_any_at, list_any_none}
use Rattle.std.proofs.lemmas.List.FromFn.{get_or-range_with_len, length-range_with_len}
use Rattle.pmt_asked.proofs.choosing.has_text.Goals as goal

-- what is left of the label is the whole of what is left
left : (label : List ℕ) (start : ℕ) → take (length label - start) (drop start label) ≡ drop start label
left label start = take_all (length label - start) (drop start label) (omega (arith, length-drop start label))

pub loop-start-preserved : goal.loop-start-preserved
loop-start-preserved c =
    let start = c.loop-start.start in
    let f : ℕ → Bool = λ k. starts_with nat_eq (drop k c.args.label.now) c.args.text.now in
    let cut : starts_with nat_eq (take (length c.args.label.now - start) (drop start c.args.label.now)) c.args.text.now ≡ false = search rules in
    let here : f start ≡ false = subst (λ (xs : List ℕ). starts_with nat_eq xs c.args.text.now ≡ false) (left c.args.label.now start) cut in
    λ k below. elim (cases_eq k start) [
      | inl same ↦ subst (λ (n : ℕ). f n ≡ false) (sym same) here
      | inr apart ↦ c.loop-start.invariant k (omega arith)
    ]

pub returns-then-starts_with : goal.returns-then-starts_with
returns-then-starts_with c =
    let start = c.loop-start.start in
    let f : ℕ → Bool = λ k. starts_with nat_eq (drop k c.args.label.now) c.args.text.now in
    let cut : starts_with nat_eq (take (length c.args.label.now - start) (drop start c.args.label.now)) c.args.text.now ≡ true = search rules in
    let here : f start ≡ true = subst (λ (xs : List ℕ). starts_with nat_eq xs c.args.text.now ≡ true) (left c.args.label.now start) cut in
    let places = range_with_len 0 (length c.args.label.now) in
    let at : get_or places start 0 ≡ start = get_or-range_with_len 0 (length c.args.label.now) start 0 (omega arith) ∙ omega arith in
    sym (list_any_at f places start 0 (omega (arith, length-range_with_len 0 (length c.args.label.now))) (ap f at ∙ here))

pub returns : goal.returns
returns c =
    let f : ℕ → Bool = λ k. starts_with nat_eq (drop k c.args.label.now) c.args.text.now in
    let places = range_with_len 0 (length c.args.label.now) in
    let at : (k d : ℕ) → k < length places → f (get_or places k d) ≡ false =
    λ k d below.
    let within : k < length c.args.label.now = omega (arith, below, length-range_with_len 0 (length c.args.label.now)) in
    let same : get_or places k d ≡ k = get_or-range_with_len 0 (length c.args.label.now) k d within ∙ omega arith in
    ap f same ∙ c.loop-start.invariant k (omega arith)
    in
    sym (list_any_none f places at)
