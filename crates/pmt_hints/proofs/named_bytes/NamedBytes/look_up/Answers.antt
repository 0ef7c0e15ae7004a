use Rattle.std.proofs.Common.{◌≡◌, ◌+◌, ◌++◌, ◌∷◌, [], true, not, length, sym, ◌∙◌, arith}
use Rattle.std.specs.Prelude.{nat_eq}
use Rattle.std.specs.List.{list_any}
use Rattle.pmt_explain.proofs.BlockLemmas.{insert-new}
use Rattle.pmt_hints.proofs.NamedByteLemmas.{flags-more, opens-new}
use Rattle.pmt_hints.proofs.named_bytes.NamedBytes.look_up.Goals as goal

pub returns-in_ok-push : goal.returns-in_ok-push
returns-in_ok-push c =
    let t = c.args.self.now in
    let new : true ≡ not (list_any (nat_eq c.args.block) c.args.self.now.blocks) = sym c.if-is_new.true ∙ c.in_ok-place.ensures.added in
    let blocks : c.insert.new.self ≡ c.args.self.now.blocks ++ c.args.block ∷ [] = c.in_ok-place.ensures.lines ∙ insert-new c.args.block c.args.self.now.blocks new in
    let size : c.len-size.result + 64 ≡ length c.args.self.now.flags.items + 64 = omega (arith, c.len-size.ensures, c.args.self.now.flags.ok.0) in
    opens-new t _ c.args.block c.in_ok-place.place c.requires c.in_ok-place.ensures.unique c.in_ok-place.ensures.here c.in_ok-place.ensures.small blocks
    (flags-more c.args.self.now.flags.items c.resize.new.self.items (c.len-size.result + 64) c.args.self.now.flags.len c.in_ok-resize.ensures.items size c.args.self.now.flags.ok.0) c.in_ok-push.ensures.items
