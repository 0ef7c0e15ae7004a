use Rattle.std.proofs.Common.{◌≡◌, ◌++◌, ◌∷◌, [], true, not, sym, ◌∙◌}
use Rattle.std.specs.Prelude.{nat_eq}
use Rattle.std.specs.List.{list_any}
use Rattle.pmt_explain.proofs.BlockLemmas.{absent, insert-new, opens-new}
use Rattle.pmt_explain.proofs.blocks.Blocks.look_up.Goals as goal

pub returns-in_ok-push : goal.returns-in_ok-push
returns-in_ok-push c =
    let new : true ≡ not (list_any (nat_eq c.args.block) c.args.self.now.places) = sym c.if-is_new.true ∙ c.in_ok-place.ensures.added in
    let places : c.insert.new.self ≡ c.args.self.now.places ++ c.args.block ∷ [] = c.in_ok-place.ensures.lines ∙ insert-new c.args.block c.args.self.now.places new in
    opens-new c.args.block c.args.store c.in_ok-place.place c.args.self.now (record { places = c.insert.new.self; stores = c.push.new.self; words = c.add_many.new.self }) c.requires c.in_ok-place.ensures.unique
    c.in_ok-place.ensures.here c.in_ok-place.ensures.small places c.in_ok-push.ensures.items c.in_ok-add_many.ensures.many c.in_ok-add_many.ensures.none c.in_ok-add_many.ensures.others
    (absent c.args.block c.args.self.now.places new)
