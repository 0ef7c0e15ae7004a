use Rattle.pmt_slices.proofs.Prelude.{◌≡◌, ◌+◌, ◌-◌, ◌≤◌, ◌⊎◌, inl, inr, max, min, length, refl, sym, ap, subst, ◌∙◌, arith, cases_lt, Unwritten, TakesBytes}
use Rattle.std.specs.Vec.{with_items}
use Rattle.pmt_slices.proofs.TakenLemmas.{takes-store, refill-all, taken-there, taken-back}
use Rattle.pmt_slices.proofs.unwritten.Unwritten.take.Goals as goal

pub returns-clause-takes : goal.returns-clause-takes
returns-clause-takes c =
    let w = c.args.store in
    let u = c.args.self.now in
    let ws = c.take_bytes.new.bytes in
    let v : Unwritten = record { low = u.low; bytes = with_items u.bytes ws } in
    let from = c.max.result - u.low in
    let to = c.max-2.result - u.low in
    let high = c.saturating_add-high.result in
    let addr : c.get-first.result ≡ w.addr = c.get-first.ensures.value ∙ c.addr.ensures.value in
    let many : length c.bytes.result.now ≡ length w.bytes = ap (λ xs. length xs) c.bytes.ensures.value in
    let end : c.get-first.result + length c.bytes.result.now ≡ w.addr + length w.bytes = omega (arith, addr, many) in
    let first : from ≡ max w.addr u.low - u.low = ap (λ m. m - u.low) (c.max.ensures ∙ ap (λ m. max m u.low) addr) in
    let last : to ≡ max (min (w.addr + length w.bytes) high) u.low - u.low = ap (λ m. m - u.low) (c.max-2.ensures ∙ ap (λ m. max m u.low) (c.min.ensures ∙ ap (λ m. min m high) end)) in
    let most : high ≤ u.low + length u.bytes.items = omega (arith, c.saturating_add-high.ensures, c.len.ensures) in
    let whole : (u.low + length u.bytes.items ≤ high) ⊎ (w.addr + length w.bytes ≤ high) = elim (cases_lt high (u.low + length u.bytes.items)) [
      | inl less ↦ inr (omega (arith, less, c.saturating_add-high.ensures, c.len.ensures, c.addr.ensures.is_store.address, c.addr.ensures.is_store.inside))
      | inr more ↦ inl more
    ] in
    let within : to ≤ length u.bytes.items = omega (arith, last, most) in
    let old : TakesBytes from to c.take_bytes.result u.bytes.items ws = subst (λ xs. TakesBytes from to c.take_bytes.result xs ws) c.as_mut_slice.ensures.value c.take_bytes.ensures in
    takes-store w c.take_bytes.result from to u v (λ k fits own. taken-there w u.low (length u.bytes.items) high from to k most whole first last fits own) (λ k fits above below. taken-back w u.low high from to k first last above below) within refl
    (subst (λ ys. TakesBytes from to c.take_bytes.result u.bytes.items ys) (sym (refill-all u.bytes.len u.bytes.items ws (omega (arith, c.as_mut_slice.ensures.len, ap (λ xs. length xs) c.as_mut_slice.ensures.value)) old.size)) old)
