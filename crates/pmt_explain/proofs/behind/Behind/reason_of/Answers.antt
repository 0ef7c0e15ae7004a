use Rattle.std.proofs.Common.{◌≡◌, ◌∙◌, inl, inr, refl, sym, ap, subst, false, arith, get_or}
use Rattle.std.specs.Prelude.{slice_index_or}
use Rattle.pmt_explain.specs.Prelude.{line_of, Flushes, Fences, Asserts, IsAct, act_of, count_at, IsReason}
use Rattle.pmt_explain.proofs.ReasonLemmas.{clflush-dropped, fence-dropped, stays-kept}
use Rattle.pmt_explain.specs.Dropping.{AreSafeFrom}
use Rattle.pmt_explain.proofs.BehindLemmas.{flush-place, flushed-by}
use Rattle.pmt_explain.proofs.behind.Behind.reason_of.Goals as goal

pub reason_of_flush-requires-clause-is : goal.reason_of_flush-requires-clause-is
reason_of_flush-requires-clause-is c =
    let T = c.args.trace.now in
    let i = c.args.number in
    let t = c.args.thread in
    let line : line_of T.format c.in-Clwb.addr ≡ c.line_of-line.result = ap (λ f. line_of f c.in-Clwb.addr) (sym c.format.ensures.value) ∙ sym c.line_of-line.ensures in
    let at : IsAct T i (Flushes t (line_of T.format c.in-Clwb.addr)) = elim c.in-Clwb.is [
      | inl e ↦ subst (λ o. IsAct T i (act_of T.format c.args.thread o)) e c.requires.is
      | inr e ↦ subst (λ o. IsAct T i (act_of T.format c.args.thread o)) e c.requires.is
    ] in
    subst (λ k. IsAct T i (Flushes t k)) line at

pub reason_of_flush-requires-clause-place : goal.reason_of_flush-requires-clause-place
reason_of_flush-requires-clause-place c =
    let T = c.args.trace.now in
    let i = c.args.number in
    let t = c.args.thread in
    let line : line_of T.format c.in-Clwb.addr ≡ c.line_of-line.result = ap (λ f. line_of f c.in-Clwb.addr) (sym c.format.ensures.value) ∙ sym c.line_of-line.ensures in
    let at : IsAct T i (Flushes t (line_of T.format c.in-Clwb.addr)) = elim c.in-Clwb.is [
      | inl e ↦ subst (λ o. IsAct T i (act_of T.format c.args.thread o)) e c.requires.is
      | inr e ↦ subst (λ o. IsAct T i (act_of T.format c.args.thread o)) e c.requires.is
    ] in
    let value : c.place_at-place.result ≡ get_or c.args.self.now.places.items c.args.number 0 = c.place_at-place.ensures ∙ ap (λ xs. get_or xs c.args.number 0) c.as_slice.ensures.value in
    subst (AreSafeFrom T c.line_of-line.result (count_at T c.line_of-line.result i)) (sym value)
    (flush-place T t c.line_of-line.result i c.args.self.now (subst (λ k. IsAct T i (Flushes t k)) line at) c.requires.behind)

pub returns-in-Sfence : goal.returns-in-Sfence
returns-in-Sfence c =
    let T = c.args.trace.now in
    let i = c.args.number in
    let t = c.args.thread in
    let at : IsAct T i (Fences t) = elim c.in-Sfence.is [
      | inl e ↦ subst (λ o. IsAct T i (act_of T.format c.args.thread o)) e c.requires.is
      | inr e ↦ subst (λ o. IsAct T i (act_of T.format c.args.thread o)) e c.requires.is
    ] in
    let told = flushed-by T t i c.args.self.now (omega arith) at c.requires.behind in
    subst (IsReason T i) (sym c.reason_of_fence.ensures) (fence-dropped T t i (slice_index_or c.args.self.now.flushed t false) at c.requires.dropped told.0 told.1)

pub returns-in-Clflush : goal.returns-in-Clflush
returns-in-Clflush c =
    let T = c.args.trace.now in
    let i = c.args.number in
    elim c.in-Clflush.is [
      | inl x ↦ clflush-dropped T _ i (subst (λ o. IsAct T i (act_of T.format c.args.thread o)) x.1 c.requires.is) c.requires.dropped
      | inr (inl x) ↦ stays-kept T i _ (subst (λ o. IsAct T i (act_of T.format c.args.thread o)) x.1 c.requires.is) refl c.requires.dropped
      | inr (inr (inl x)) ↦ stays-kept T i Asserts (subst (λ o. IsAct T i (act_of T.format c.args.thread o)) x.1 c.requires.is) refl c.requires.dropped
      | inr (inr (inr x)) ↦ stays-kept T i Asserts (subst (λ o. IsAct T i (act_of T.format c.args.thread o)) x.2 c.requires.is) refl c.requires.dropped
    ]
