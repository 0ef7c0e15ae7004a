-- From when to when crashes can lose each store, found in a walk over the places.
use Rattle.std.specs.Prelude.{◌≡◌, ℕ, suc, ◌-◌, ◌==◌, if◌then◌else◌, List, [], ◌∷◌, length, Some, slice_get, ◌≤◌, nat_lt, take}
use Rattle.pmt_laws.specs.Prelude.{Act, Stores, Flushes, Clflushes, Fences, Asserts, Recording, IsAct, count_at, with_line, filter}
use Rattle.pmt_explain.specs.Following.{IsSafePlace}
use Rattle.pmt_explain.specs.declared.lines.LineCount.{LineCount}
use Rattle.pmt_image.specs.declared.spans.StoreSpan.{StoreSpan}
use Rattle.pmt_image.specs.declared.walk.Walk.{Walk}

-- The span of event i, which is this act: a store has its line, its rank and its safe place; no crash loses another act.
abbrev pub IsSpan : Recording → ℕ → Act → StoreSpan → Type 0
IsSpan T i (Stores l w) x = (x.line ≡ l) × (x.rank ≡ count_at T l i) × IsSafePlace T l i x.safe
IsSpan T i (Flushes t l) x = x.safe ≡ 0
IsSpan T i (Clflushes l) x = x.safe ≡ 0
IsSpan T i (Fences t) x = x.safe ≡ 0
IsSpan T i Asserts x = x.safe ≡ 0

-- The spans of all events, the first one being event 1.
pub record AreSpans (T : Recording) (spans : List StoreSpan) : Type 0 where
  pub size : length spans ≡ length T.events
  pub each : (n : ℕ) (x : StoreSpan) → slice_get spans n ≡ Some x → (a : Act) → IsAct T (suc n) a → IsSpan T (suc n) a x

-- The span of an act, where the lines had so many stores before it.
abbrev pub span_by : Act → (ℕ → ℕ) → ℕ → StoreSpan
span_by (Stores l w) v safe = record { line = l; rank = suc (v l); safe = safe }
span_by (Flushes t l) v safe = record { line = 0; rank = 0; safe = 0 }
span_by (Clflushes l) v safe = record { line = 0; rank = 0; safe = 0 }
span_by (Fences t) v safe = record { line = 0; rank = 0; safe = 0 }
span_by Asserts v safe = record { line = 0; rank = 0; safe = 0 }

-- The stores of the lines after it.
abbrev pub stored_by : Act → (ℕ → ℕ) → ℕ → ℕ
stored_by (Stores l w) v k = if l == k then suc (v k) else v k
stored_by (Flushes t l) v k = v k
stored_by (Clflushes l) v k = v k
stored_by (Fences t) v k = v k
stored_by Asserts v k = v k

-- ---- The lines of stores that a crash can lose, the newest first

abbrev pub lines_of_spans : List StoreSpan → List ℕ
lines_of_spans [] = []
lines_of_spans (x ∷ older) = with_line x.line (lines_of_spans older)

-- A line with one more of them: those before the first one are persisted.
abbrev pub with_span : StoreSpan → LineCount → LineCount
with_span x y = record { line = y.line; stores = x.rank; persisted = if y.stores == 0 then x.rank - 1 else y.persisted }

abbrev pub line_by : List StoreSpan → ℕ → LineCount
line_by [] l = record { line = l; stores = 0; persisted = 0 }
line_by (x ∷ older) l = if x.line == l then with_span x (line_by older l) else line_by older l

-- The stores by place n that a crash there can lose.
abbrev pub exposed_by : List StoreSpan → ℕ → List StoreSpan
exposed_by spans n = filter (λ x. nat_lt n x.safe) (take n spans)

-- The walk has those of its place.
pub record IsAt (w : Walk) : Type 0 where
  pub within : w.place ≤ length w.spans.items
  pub exposed : w.exposed.items ≡ exposed_by w.spans.items w.place

-- It is a walk over this trace.
pub record IsWalkOf (T : Recording) (w : Walk) : Type 0 where
  pub spans : AreSpans T w.spans.items
  pub here : IsAt w
