use Rattle.std.proofs.Common.{◌≡◌, ◌+◌, ◌-◌, ◌/◌, ℕ, le_trans, refl, sym, ◌∙◌, ap, subst, arith}
use Rattle.std.proofs.lemmas.Grind.{elements}
use Rattle.std.proofs.lemmas.Bool.{true≢false}
use Rattle.pmt_laws.specs.Prelude.{Layout, line_of, Recording}
use Rattle.pmt_book.specs.Live.{last_front, last_count, PassesNow}
use Rattle.pmt_book.proofs.PersistLemmas.{spared-from_passes, passes-from_spared, counted-none_touches}
use Rattle.pmt_book.proofs.book.Book.persisted.Goals as goal

pub returns-then-not-none_touches : goal.returns-then-not-none_touches
returns-then-not-none_touches c =
    let T = c.self.inside.trace in
    let A = c.args.range in
    let line = c.loop-line.line in
    let counts : c.count.result ≡ last_count T line = c.count.ensures ∙ ap (λ (R : Recording). last_count R line) (sym c.self.view_is) in
    let fronts : c.front.result ≡ last_front T line = c.front.ensures ∙ ap (λ (R : Recording). last_front R line) (sym c.self.view_is) in
    let few : c.saturating_sub-count.result ≡ last_count T line - last_front T line = omega (arith, c.saturating_sub-count.ensures, counts, fronts) in
    let same = counted-none_touches T line A c.format-format.result c.events.result.now c.saturating_sub-count.result c.format-format.ensures.value c.events.ensures.value few in (
      λ h. absurd (true≢false (sym h)),
      λ passes.
          let P : Recording → Type 0 = λ R. PassesNow R A in
          c.if-not-none_touches.ensures ∙ same ∙ spared-from_passes T A line c.format-format.ensures.is_trace c.len.ensures.is_range (subst P (sym c.self.view_is) passes),
    )

pub returns : goal.returns
returns c =
    let T = c.self.inside.trace in
    let A = c.args.range in
    let first = c.line_of-first.result in
    let last = (c.get.result + (c.len.result - 1)) / c.line_size.result in
    let from : first ≡ line_of T.format A.addr =
    c.line_of-first.ensures ∙ ap (λ (f : Layout). line_of f c.addr.result) c.format-format.ensures.value ∙ ap (line_of T.format) c.addr.ensures in
    let to : last ≡ line_of T.format (A.addr + (A.len - 1)) =
    ap (λ (n : ℕ). (n + (c.len.result - 1)) / c.line_size.result) (c.get.ensures.value ∙ c.addr-2.ensures)
    ∙ ap (λ (n : ℕ). (A.addr + (n - 1)) / c.line_size.result) c.len.ensures.value
    ∙ ap (λ (n : ℕ). (A.addr + (A.len - 1)) / n) (c.line_size.ensures.value ∙ ap (λ (f : Layout). f.line_size) c.format-format.ensures.value) in
    let P : Recording → Type 0 = λ R. PassesNow R A in
    let now = subst P c.self.view_is (passes-from_spared T A first last c.format-format.ensures.is_trace c.len.ensures.is_range from to
    (λ l low high. c.loop-line.invariant l low (le_trans high c.loop-line-test.false))) in
    (λ h. now, λ passes. refl)

pub nonzero_div-last : goal.nonzero_div-last
nonzero_div-last c = grind arith

pub loop-line-preserved : goal.loop-line-preserved
loop-line-preserved c = grind (arith, elements)
