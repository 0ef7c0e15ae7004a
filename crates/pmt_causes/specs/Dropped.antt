-- What dropped events of one group have in common.
use Rattle.std.specs.Prelude.{ℕ, List, Option, None, Some}
use Rattle.pmt_explain.specs.Prelude.{Layout, line_of, Event, Op, Store, Clwb, ClflushOpt, Clflush, Sfence, Mfence, IsPersist, IsOrderedBefore, Recording, event, Reason}
use Rattle.pmt_reasons.specs.declared.reason.Reason.TheVariants as reason
use Rattle.pmt_explain.specs.declared.dropped_event.Dropped.{Dropped}
use Rattle.pmt_causes.specs.declared.grouping.Keyed.{Keyed}
use Rattle.pmt_causes.specs.declared.dropping.Spot.{Spot}
use Rattle.pmt_causes.specs.declared.dropping.Spot.TheVariants as spot
use Rattle.pmt_causes.specs.declared.dropping.DropWord.{DropWord}
use Rattle.pmt_causes.specs.declared.dropping.DropWord.TheVariants as word
use Rattle.pmt_causes.specs.declared.dropping.ReasonKind.{ReasonKind}
use Rattle.pmt_causes.specs.declared.dropping.ReasonKind.TheVariants as kind
use Rattle.pmt_causes.specs.declared.dropping.DroppedKey.{DroppedKey}
use Rattle.pmt_causes.specs.Groups.{label_of}

-- The reason without the event that makes it so.
abbrev pub kind_of : Reason → ReasonKind
kind_of reason.Safe = kind.Safe
kind_of reason.Unfenced = kind.Unfenced
kind_of (reason.Repeated by) = kind.Repeated
kind_of (reason.Overtaken by) = kind.Overtaken
kind_of reason.Empty = kind.Empty
kind_of reason.Useless = kind.Useless

abbrev pub key_of_parts : Spot → DropWord → ReasonKind → DroppedKey
key_of_parts s w r = record { spot = s; word = w; reason = r }

-- Where a flush of the line by the thread stands: its label, or without one its thread and line.
abbrev pub flush_spot : Option ℕ → ℕ → ℕ → Spot
flush_spot None thread line = spot.Line thread line
flush_spot (Some label) thread line = spot.Label label

-- Where a fence by the thread stands: its label, or without one its thread.
abbrev pub fence_spot : Option ℕ → ℕ → Spot
fence_spot None thread = spot.Thread thread
fence_spot (Some label) thread = spot.Label label

-- The key of an op that is dropped; none of a store or an assertion.
abbrev pub op_key : Layout → ℕ → Option ℕ → ReasonKind → Op → Option DroppedKey
op_key format thread label why (Store w) = None
op_key format thread label why (Clwb a) = Some (key_of_parts (flush_spot label thread (line_of format a)) word.Clwb why)
op_key format thread label why (ClflushOpt a) = Some (key_of_parts (flush_spot label thread (line_of format a)) word.ClflushOpt why)
op_key format thread label why (Clflush a) = Some (key_of_parts (flush_spot label thread (line_of format a)) word.Clflush why)
op_key format thread label why Sfence = Some (key_of_parts (fence_spot label thread) word.Sfence why)
op_key format thread label why Mfence = Some (key_of_parts (fence_spot label thread) word.Mfence why)
op_key format thread label why (IsPersist r) = None
op_key format thread label why (IsOrderedBefore r q) = None

abbrev pub item_with : ℕ → Option DroppedKey → Option (Keyed DroppedKey)
item_with i None = None
item_with i (Some k) = Some (record { key = k; number = i })

abbrev pub item_of_event : Layout → Option ℕ → Dropped → Option Event → Option (Keyed DroppedKey)
item_of_event format label d None = None
item_of_event format label d (Some e) = item_with d.event (op_key format e.thread label (kind_of d.reason) e.op)

-- The dropped event with its key; none where it is no flush or fence of the trace.
abbrev pub dropped_item : Recording → List (Option ℕ) → Dropped → Option (Keyed DroppedKey)
dropped_item T labels d = item_of_event T.format (label_of labels d.event) d (event T d.event)
