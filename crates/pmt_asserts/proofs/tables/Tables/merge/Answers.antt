use Rattle.std.proofs.Common.{◌≡◌, ℕ, ◌∙◌, ◌++◌, ◌∷◌, [], Option, Some, cond, nat_eq, List, ap, subst, sym, length}
use Rattle.indexmap.specs.IndexMap.{get}
use Rattle.pmt_lines.specs.Jobs.{LineFound, LineWork}
use Rattle.pmt_asserts.specs.Tables.{IsPlacing}
use Rattle.pmt_asserts.proofs.PlacingLemmas.{placing-more}
use Rattle.pmt_asserts.proofs.tables.Tables.merge.Goals as goal

pub loop-found-preserved : goal.loop-found-preserved
loop-found-preserved c =
    let old : List LineFound = c.loop-found.lines.items in
    let x : LineFound = c.in-Some.found in
    let before : ℕ → Option ℕ = get nat_eq c.loop-found.places in
    let after : ℕ → Option ℕ = get nat_eq c.insert.new.self in
    let items : c.push.new.self.items ≡ old ++ x ∷ [] = c.in_ok-push.ensures.items ∙ ap (λ (y : LineFound). old ++ y ∷ []) (c.in_ok-new.ensures {u = tt}) in
    let line : c.line.result ≡ x.job.line = c.line.ensures ∙ ap (λ (w : LineWork). w.line) c.job.ensures.value in
    let place : c.len-in-loop-found.result ≡ length old = c.len-in-loop-found.ensures ∙ c.loop-found.lines.ok.0 in
    let updated : (q : ℕ) → after q ≡ cond (nat_eq x.job.line q) (Some (length old)) (before q) =
    (λ q. c.in_ok-insert.ensures.updates.0 q ∙ ap (λ (l : ℕ). cond (nat_eq l q) (Some c.len-in-loop-found.result) (before q)) line ∙ ap (λ (n : ℕ). cond (nat_eq x.job.line q) (Some n) (before q)) place) in (
      items ∙ ap (λ (ys : List LineFound). ys ++ x ∷ []) c.loop-found.invariant.0,
      subst (λ (ys : List LineFound). IsPlacing ys after) (sym items) (placing-more old before after x c.loop-found.invariant.1 updated),
    )
