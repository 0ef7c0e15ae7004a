use Rattle.std.proofs.Common.{◌≡◌, ◌+◌, ◌-◌, ◌≤◌, ◌⊎◌, inl, inr, refl, ap, subst, ◌∙◌, arith}
use Rattle.std.specs.Prelude.{◌==◌, ◌&&◌, nat_le, nat_lt}
use Rattle.pmt_model.specs.Values.{line_of}
use Rattle.pmt_hints.specs.Claiming.{claim_at, or_so}
use Rattle.pmt_hints.proofs.ClaimLemmas.{lines-all, lines-more, lines-none, or_so-none, or_so-twice}
use Rattle.pmt_hints.proofs.claims.note_range.Goals as goal

pub loop-line-init : goal.loop-line-init
loop-line-init c = record {
  at = inl refl;
  from = omega arith;
  claims = λ m. or_so-none (claim_at c.args.claims.now m) ∙ ap (λ b. or_so b (claim_at c.args.claims.now m)) (lines-none c.line_of-first.result m);
}

pub loop-line-preserved : goal.loop-line-preserved
loop-line-preserved c =
    let first = c.line_of-first.result in
    let line = c.loop-line.line in
    record {
      at = inr (omega arith);
      from = omega (arith, c.loop-line.invariant.from);
      claims = λ m.
          let old = claim_at c.args.claims.now m in
          c.in_ok-note_line.ensures m ∙ ap (or_so (line == m)) (c.loop-line.invariant.claims m) ∙ or_so-twice (nat_le first m && nat_lt m line) (line == m) old
          ∙ ap (λ b. or_so b old) (lines-more first line m c.loop-line.invariant.from);
    }

pub returns : goal.returns
returns c = λ m.
    let A = c.args.range in
    let last = line_of c.args.format (A.addr + A.len - 1) in
    let end : c.end_of-end.result ≡ last + 1 = c.end_of-end.ensures in
    let first : c.line_of-first.result ≡ line_of c.args.format A.addr = c.line_of-first.ensures ∙ ap (line_of c.args.format) c.addr.ensures in
    let all = lines-all c.line_of-first.result last c.loop-line.line m (subst (λ e. (c.loop-line.line ≡ c.line_of-first.result) ⊎ (c.loop-line.line ≤ e)) end c.loop-line.invariant.at) (omega (arith, end)) in
    c.loop-line.invariant.claims m ∙ ap (λ b. or_so b (claim_at c.args.claims.now m)) (all ∙ ap (λ f. nat_le f m && nat_le m last) first)
