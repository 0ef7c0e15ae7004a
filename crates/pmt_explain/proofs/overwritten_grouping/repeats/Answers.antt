use Rattle.std.proofs.Common.{◌≡◌, ◌+◌, ◌-◌, ◌≤◌, length, inl, inr, ap, arith}
use Rattle.pmt_explain.proofs.OverwrittenGroupLemmas.{not-repeated, repeated-is}
use Rattle.pmt_explain.proofs.overwritten_grouping.repeats.Goals as goal
use Rattle.pmt_explain.proofs.overwritten_grouping.repeats.Goals.{then-start-first-via-then-start-first, then-start-first-via-else-start-first+then-start-first-2}

pub returns-then-start-first : goal.returns-then-start-first
returns-then-start-first c =
    let w = c.args.earlier in
    let v = c.args.later in
    let some : 1 ≤ length w.bytes = c.addr.ensures.is_store.some in
    let size : length c.bytes-bytes.result.now ≡ length v.bytes = ap (λ bs. length bs) c.bytes-bytes.ensures.value in (
      λ never. absurd (cc),
      λ is. absurd (elim c.then-start-first.branch [
        | then-start-first-via-then-start-first x ↦ not-repeated w v some (inl (omega arith)) is
        | then-start-first-via-else-start-first+then-start-first-2 x ↦ not-repeated w v some (inr (omega arith)) is
      ]),
    )

pub returns : goal.returns
returns c =
    let v = c.args.later in
    let k = c.get-start.result - c.get-first.result in
    let size : length c.bytes-bytes.result.now ≡ length v.bytes = ap (λ bs. length bs) c.bytes-bytes.ensures.value in
    let offset : k + v.addr ≡ c.args.earlier.addr = omega arith in
    repeated-is c.args.earlier v k c.bytes-bytes.result.now c.bytes.result.now c.starts_with.result c.bytes-bytes.ensures.value c.bytes.ensures.value offset (omega arith) c.starts_with.ensures.value
