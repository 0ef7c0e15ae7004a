-- What a book keeps goes on from event to event.
use Rattle.std.proofs.Common.{◌≡◌, ℕ, false, List, ◌∷◌, None, sym, ap, subst, ◌∙◌}
use Rattle.pmt_laws.specs.Prelude.{Event, Act, count, front, Recording, act, has_line, with_event}
use Rattle.pmt_book.specs.declared.live.LiveLines.{LiveLines}
use Rattle.pmt_rows.specs.declared.rows.Row.{Row}
use Rattle.pmt_tables.specs.Slots.{IsFound}
use Rattle.pmt_book.specs.Live.{IsLiveWith, whole_history}
use Rattle.pmt_tables.proofs.ListLemmas.{list_any-has_line, not-among}
use Rattle.pmt_book.proofs.HistoryLemmas.{whole_history-with_event}

-- What a book of this trace keeps of its lines.
abbrev pub Keep : Recording → LiveLines → Type 0
Keep T live = IsLiveWith live.rows.slots (whole_history T) live

-- the lines that are known are those that have a slot
pub with-placed : (lines : List ℕ) (h : List Act) (live : LiveLines) → IsLiveWith lines h live → IsLiveWith live.rows.slots h live
with-placed lines h live is = subst (λ (ls : List ℕ). IsLiveWith ls h live) (sym is.rows.placed) is

-- one more event
pub keep-event :
    (T : Recording) (e : Event) (a : Act) (new : Recording) (lines : List ℕ) (live : LiveLines) → new ≡ with_event T e → act T.format e ≡ a →
    IsLiveWith lines (a ∷ whole_history T) live → Keep new live
keep-event T e a new lines live is is_act known =
    let P : List Act → Type 0 = λ h. IsLiveWith lines h live in
    with-placed lines (whole_history new) live
    (subst P (sym (ap whole_history is ∙ whole_history-with_event T e ∙ ap (λ (b : Act). b ∷ whole_history T) is_act)) known)

-- a line without a slot has no stores, and its front is 0
pub no-stores : (T : Recording) (l : ℕ) (live : LiveLines) → Keep T live → IsFound l live.rows.slots None → (count l (whole_history T) ≡ 0) × (front l (whole_history T) ≡ 0)
no-stores T l live keep none =
    let absent : has_line l live.rows.slots ≡ false = sym (list_any-has_line l live.rows.slots) ∙ not-among live.rows.slots l none in
    let row = keep.rows.others l absent in
    (ap (λ (y : Row). y.last_store) row, ap (λ (y : Row). y.safe) row)
