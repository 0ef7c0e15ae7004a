use Rattle.std.proofs.Common.{◌≡◌, ◌<◌, true, false, length, sym, ap, ◌∙◌, arith}
use Rattle.std.specs.Prelude.{slice_index}
use Rattle.std.proofs.lemmas.Grind.{get_or_default_zero}
use Rattle.pmt_sweep.proofs.LostLemmas.{place-told, safe-told}
use Rattle.pmt_sweep.proofs.safe_places.SafePlaces.of.Goals as goal

pub returns-then-tells_lost-clause-told : goal.returns-then-tells_lost-clause-told
returns-then-tells_lost-clause-told c =
    let within : c.args.number < length c.self.inside.entries.items = omega (arith, c.requires, ap length c.self.view_is) in
    let read : c.index-entry.result.now ≡ slice_index c.args.self.now c.args.number =
    c.index-entry.ensures ∙ get_or_default_zero c.self.inside.entries.items c.args.number c.index-entry.result.now within ∙ ap (λ es. slice_index es c.args.number) c.self.view_is in
    place-told c.args.number c.index-entry.result.now c.args.self.now true read (sym c.if-tells_lost.true ∙ c.tells_lost.ensures)

pub returns-then-tells_lost-clause-safe : goal.returns-then-tells_lost-clause-safe
returns-then-tells_lost-clause-safe c = λ T l w safe is.
    let within : c.args.number < length c.self.inside.entries.items = omega (arith, c.requires, ap length c.self.view_is) in
    let read : c.index-entry.result.now ≡ slice_index c.args.self.now c.args.number =
    c.index-entry.ensures ∙ get_or_default_zero c.self.inside.entries.items c.args.number c.index-entry.result.now within ∙ ap (λ es. slice_index es c.args.number) c.self.view_is in
    safe-told T l c.args.number w c.args.self.now _ safe is (place-told c.args.number c.index-entry.result.now c.args.self.now true read (sym c.if-tells_lost.true ∙ c.tells_lost.ensures))

pub returns-else-tells_lost-clause-told : goal.returns-else-tells_lost-clause-told
returns-else-tells_lost-clause-told c =
    let within : c.args.number < length c.self.inside.entries.items = omega (arith, c.requires, ap length c.self.view_is) in
    let read : c.index-entry.result.now ≡ slice_index c.args.self.now c.args.number =
    c.index-entry.ensures ∙ get_or_default_zero c.self.inside.entries.items c.args.number c.index-entry.result.now within ∙ ap (λ es. slice_index es c.args.number) c.self.view_is in
    place-told c.args.number c.index-entry.result.now c.args.self.now false read (sym c.if-tells_lost.false ∙ c.tells_lost.ensures)

pub returns-else-tells_lost-clause-safe : goal.returns-else-tells_lost-clause-safe
returns-else-tells_lost-clause-safe c = λ T l w safe is.
    let within : c.args.number < length c.self.inside.entries.items = omega (arith, c.requires, ap length c.self.view_is) in
    let read : c.index-entry.result.now ≡ slice_index c.args.self.now c.args.number =
    c.index-entry.ensures ∙ get_or_default_zero c.self.inside.entries.items c.args.number c.index-entry.result.now within ∙ ap (λ es. slice_index es c.args.number) c.self.view_is in
    safe-told T l c.args.number w c.args.self.now _ safe is (place-told c.args.number c.index-entry.result.now c.args.self.now false read (sym c.if-tells_lost.false ∙ c.tells_lost.ensures))
