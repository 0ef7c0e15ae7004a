use Rattle.std.proofs.Common.{◌≤◌, inl, inr, refl, subst, sym, arith}
use Rattle.std.proofs.lemmas.Bool.{cases_eq}
use Rattle.pmt_asserts.specs.Puts.{puts_of, last_in}
use Rattle.pmt_asserts.proofs.TableLemmas.{ranked-all, ranked-last}
use Rattle.pmt_asserts.proofs.table.LineTable.is_ranked_by.Goals as goal

pub loop-byte-init : goal.loop-byte-init
loop-byte-init c = λ b above below. absurd (omega arith)

pub loop-byte-preserved : goal.loop-byte-preserved
loop-byte-preserved c = λ b above below.
    let puts = puts_of c.args.self.now.job.steps in
    let count = c.count_at-count.result in
    elim (cases_eq b c.loop-byte.byte) [
      | inl same ↦ subst (λ k. last_in puts k count ≤ c.args.rank) (sym same) (omega (arith, c.last.ensures, c.if-rank-last.false))
      | inr other ↦ c.loop-byte.invariant b above (omega (arith, below, other))
    ]

pub returns-then-rank-last : goal.returns-then-rank-last
returns-then-rank-last c = λ T trace job lie.
    let f = c.args.self.now in
    let count = c.count_at-count.ensures.value T trace job in
    let b = c.loop-byte.byte in
    let low = c.loop-byte.auto.byte in
    let told = (ranked-last T f.job.line f.job.steps c.args.place c.args.rank b trace job (lie b low c.loop-byte-test.true)).0 in
    (λ never. absurd (cc), λ each. absurd (omega (arith, c.if-rank-last.true, c.last.ensures, subst (λ n. last_in (puts_of f.job.steps) b n ≤ c.args.rank) count (told.1 (each b low c.loop-byte-test.true)))))

pub returns : goal.returns
returns c = λ T trace job lie.
    let f = c.args.self.now in
    let count = c.count_at-count.ensures.value T trace job in (
      λ yes. ranked-all T f.job.line f.job.steps c.args.place c.args.rank c.args.low c.args.high trace job lie
          (λ b above below. subst (λ n. last_in (puts_of f.job.steps) b n ≤ c.args.rank) (sym count) (c.loop-byte.invariant b above (omega (arith, below, c.loop-byte-test.false)))),
      λ each. refl,
    )
