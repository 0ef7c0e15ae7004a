-- The event of the store stands first in the line.
use Rattle.std.proofs.Common.{true, subst}
use Rattle.pmt_text.specs.Spelled.{AddsStore}
use Rattle.pmt_text.proofs.StoreReading.{adds-store}
use Rattle.pmt_text.proofs.plain.add_store.Goals as goal

pub returns-in-true : goal.returns-in-true
returns-in-true c =
    let s = c.in-Some.store in
    let new = c.add_short.new.trace in
    let added : AddsStore s true c.args.trace.now new = subst (λ b. AddsStore s b c.args.trace.now new) c.in-true.is c.in_ok-add_short.ensures in
    adds-store s c.args.trace.now new c.args.line.now c.args.text.now c.in-Some.rest c.requires.word c.in-Some.ensures.spelled added

pub returns-in-true-2 : goal.returns-in-true-2
returns-in-true-2 c =
    let s = c.in-Some.store in
    let new = c.add_whole.new.trace in
    let added : AddsStore s true c.args.trace.now new = subst (λ b. AddsStore s b c.args.trace.now new) c.in-true-2.is c.in_ok-add_whole.ensures in
    adds-store s c.args.trace.now new c.args.line.now c.args.text.now c.in-Some.rest c.requires.word c.in-Some.ensures.spelled added
