-- The first address of a line that is stored or flushed has 48 bits.
use Rattle.std.proofs.Common.{ℕ, ◌*◌, ◌/◌, ◌^◌, ◌<◌, Bool, true, false, List, [], ◌∷◌, ◌++◌, arith}
use Rattle.std.specs.Prelude.{All, if◌then◌else◌}
use Rattle.std.proofs.Math.Nat.{div-mul-le_self}
use Rattle.std.proofs.lemmas.List.Elements.{All-push}
use Rattle.pmt_laws.specs.Prelude.{Event, Op, Store, Clwb, ClflushOpt, Clflush, Sfence, Mfence, IsPersist, IsOrderedBefore, Layout, Act, Stores, Flushes, Clflushes, Fences, Asserts, IsEventIn, IsOp, act, act_of, has_line, with_line, lines_of}

-- the first address of the line has 48 bits
abbrev pub IsLow : ℕ → ℕ → Type 0
IsLow size l = l * size < 2 ^ 48

-- so is that of the line of an act
abbrev LowAct : ℕ → Act → Type 0
LowAct size (Stores l w) = IsLow size l
LowAct size (Flushes t l) = IsLow size l
LowAct size (Clflushes l) = IsLow size l
LowAct size (Fences t) = Unit {0}
LowAct size Asserts = Unit {0}

first-address : (a size : ℕ) → a < 2 ^ 48 → a / size * size < 2 ^ 48
first-address a size h = omega (arith, div-mul-le_self a size)

low-op : (f : Layout) (t : ℕ) (op : Op) → IsOp op → LowAct f.line_size (act_of f t op)
low-op f t (Store w) h = first-address w.addr f.line_size h.address
low-op f t (Clwb a) h = first-address a f.line_size h
low-op f t (ClflushOpt a) h = first-address a f.line_size h
low-op f t (Clflush a) h = first-address a f.line_size h
low-op f t Sfence h = tt
low-op f t Mfence h = tt
low-op f t (IsPersist r) h = tt
low-op f t (IsOrderedBefore r q) h = tt

low-with_line : (size l : ℕ) (lines : List ℕ) → IsLow size l → All (IsLow size) lines → All (IsLow size) (with_line l lines)
low-with_line size l lines here each = go (has_line l lines)
  where
    go : (b : Bool) → All (IsLow size) (if b then lines else lines ++ l ∷ [])
    go true = each
    go false = All-push (IsLow size) lines l each here

low-lines : (size : ℕ) (a : Act) (h : List Act) → LowAct size a → All (IsLow size) (lines_of h) → All (IsLow size) (lines_of (a ∷ h))
low-lines size (Stores l w) h here each = low-with_line size l (lines_of h) here each
low-lines size (Flushes t l) h here each = low-with_line size l (lines_of h) here each
low-lines size (Clflushes l) h here each = low-with_line size l (lines_of h) here each
low-lines size (Fences t) h here each = each
low-lines size Asserts h here each = each

-- so it is with one event more
pub low-more : (f : Layout) (e : Event) (h : List Act) → IsEventIn f e → All (IsLow f.line_size) (lines_of h) → All (IsLow f.line_size) (lines_of (act f e ∷ h))
low-more f e h is each = low-lines f.line_size (act f e) h (low-op f e.thread e.op is.event.op) each
