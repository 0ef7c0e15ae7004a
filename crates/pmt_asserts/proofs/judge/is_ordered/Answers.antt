use Rattle.std.proofs.Common.{◌≡◌, ◌≤◌, ◌∙◌, IfSome, Some, IsTrue, refl, sym, subst, arith}
use Rattle.std.proofs.lemmas.Bool.{false≢true}
use Rattle.pmt_model.specs.Values.{line_of}
use Rattle.pmt_asserts.specs.Tables.{IsEarliestOf, IsLineOrdered, place_for}
use Rattle.pmt_asserts.proofs.JudgeLemmas.{ordered-from, lines-from, place-within}
use Rattle.pmt_asserts.proofs.LineLemmas.{below-none, below-more}
use Rattle.pmt_asserts.proofs.judge.is_ordered.Goals as goal

pub loop-line-init : goal.loop-line-init
loop-line-init c = λ T k. below-none c.lines_of-start.result.0 (λ line. IsLineOrdered T c.args.number c.args.first c.args.second line (place_for c.in-Some.found c.next_earliest-other.result line))

pub loop-line-preserved : goal.loop-line-preserved
loop-line-preserved c = λ T k.
    let line = c.loop-line.line in
    let o = c.next_earliest-other.result in
    let found = c.in-Some.ensures {u = tt} T k in
    let apart : line ≡ c.in-Some.found.line → IsEarliestOf T c.args.number (Some c.in-Some.found.line) c.args.second o =
    (λ own. c.next_earliest-other.ensures T k (omega (arith, own, c.loop-line.auto.line)) (omega (arith, own, c.loop-line-test.true))) in
    let by : IfSome c.place_by-by.result (λ n. n ≤ c.args.number) =
    subst (λ p. IfSome p (λ n. n ≤ c.args.number)) (sym c.place_by-by.ensures) (place-within T c.args.number line c.args.second c.in-Some.found o found apart) in
    below-more c.lines_of-start.result.0 line (λ l. IsLineOrdered T c.args.number c.args.first c.args.second l (place_for c.in-Some.found o l)) (c.loop-line.invariant T k)
    (subst (IsLineOrdered T c.args.number c.args.first c.args.second line) c.place_by-by.ensures ((c.is_line_ordered.ensures T k by).0 c.if-not-is_line_ordered.false))

pub returns-then-not-is_line_ordered : goal.returns-then-not-is_line_ordered
returns-then-not-is_line_ordered c = λ T k.
    let line = c.loop-line.line in
    let o = c.next_earliest-other.result in
    let found = c.in-Some.ensures {u = tt} T k in
    let apart : line ≡ c.in-Some.found.line → IsEarliestOf T c.args.number (Some c.in-Some.found.line) c.args.second o =
    (λ own. c.next_earliest-other.ensures T k (omega (arith, own, c.loop-line.auto.line)) (omega (arith, own, c.loop-line-test.true))) in
    let by : IfSome c.place_by-by.result (λ n. n ≤ c.args.number) =
    subst (λ p. IfSome p (λ n. n ≤ c.args.number)) (sym c.place_by-by.ensures) (place-within T c.args.number line c.args.second c.in-Some.found o found apart) in (
      λ t. absurd cc,
      λ passes. absurd (
          let each : IsLineOrdered T c.args.number c.args.first c.args.second line (place_for c.in-Some.found o line) = lines-from T c.args.number c.args.first c.args.second c.in-Some.found o k.trace found passes line apart in
          let told : IsTrue c.is_line_ordered.result = (c.is_line_ordered.ensures T k by).1 (subst (IsLineOrdered T c.args.number c.args.first c.args.second line) (sym c.place_by-by.ensures) each) in
          false≢true (sym c.if-not-is_line_ordered.true ∙ told)),
    )

pub returns : goal.returns
returns c = λ T k.
    let lines = c.lines_of-start.ensures.lines in (
      λ t. ordered-from T c.args.number c.args.first c.args.second c.in-Some.found c.next_earliest-other.result k.trace (c.in-Some.ensures {u = tt} T k)
          (λ a j own. let at = lines T a k.formatted j in c.next_earliest-other.ensures T k (omega (arith, own, at.0)) (omega (arith, own, at.1)))
          (λ b j. let at = lines T b k.formatted j in c.loop-line.invariant T k (line_of T.format b) at.0 (omega (arith, at.1, c.loop-line-test.false))),
      λ passes. refl,
    )
