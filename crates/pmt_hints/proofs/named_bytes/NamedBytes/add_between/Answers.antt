use Rattle.std.proofs.Common.{◌≡◌, length, ap, eqb-true, refl, arith}
use Rattle.std.proofs.lemmas.Option.{slice_get_within}
use Rattle.pmt_hints.proofs.NamedByteLemmas.{adds-part, adds-whole, flags-back, within}
use Rattle.pmt_hints.proofs.named_bytes.NamedBytes.add_between.Goals as goal

pub returns-then-index : goal.returns-then-index
returns-then-index c =
    adds-whole c.args.block c.in_ok-place.place c.args.low c.args.high c.args.self.now c.open.new.self c.in_ok-place.ensures c.requires.from c.requires.to c.index.result.now c.index.ensures c.if-index.true

pub replace-requires-clause-within : goal.replace-requires-clause-within
replace-requires-clause-within c =
    let opens = c.in_ok-place.ensures in
    let lent : length c.as_mut_slice.result.now ≡ length c.open.new.self.flags.items = ap (λ xs. length xs) c.as_mut_slice.ensures.value in
    let inside = slice_get_within c.open.new.self.blocks c.in_ok-place.place c.args.block opens.here in
    omega (arith, lent, inside, opens.are.flags, c.requires.to)

pub index_mut-requires : goal.index_mut-requires
index_mut-requires c = omega (arith, within c.args.block c.in_ok-place.place c.args.low c.args.high c.args.self.now c.open.new.self c.in_ok-place.ensures c.requires.from c.requires.to, c.open.new.self.whole.ok.0)

pub returns : goal.returns
returns c =
    let opens = c.in_ok-place.ensures in
    let lent : length c.as_mut_slice.result.now ≡ length c.open.new.self.flags.items = ap (λ xs. length xs) c.as_mut_slice.ensures.value in
    let same = flags-back c.open.new.self.flags.len c.replace.new.flags c.open.new.self.flags.items (omega (arith, c.replace.ensures.filled.size, lent, c.as_mut_slice.ensures.len)) (omega (arith, lent, c.as_mut_slice.ensures.len)) in
    adds-part c.args.block c.in_ok-place.place c.args.low c.args.high c.args.self.now c.open.new.self opens c.requires.from c.requires.to _ _ c.requires.some refl refl
    (λ e. let all = eqb-true _ _ e in omega (arith, all, c.requires.from, c.requires.some)) c.as_mut_slice.result.now c.replace.new.flags c.as_mut_slice.ensures.value same c.replace.ensures.filled
