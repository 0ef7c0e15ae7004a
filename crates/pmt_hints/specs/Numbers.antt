-- Numbers of threads, and of lines by threads, and how one event changes them.
use Rattle.std.specs.Prelude.{ℕ, ◌==◌, if◌then◌else◌, slice_index, unwrap_or, ◌≡◌, ◌≢◌, ◌<◌, ◌&&◌, Bool, false, not, ◌-◌, nat_le, nat_lt, List, Option, None, Some}
use Rattle.std.specs.declared.hash.FoldHasher.{FoldHasher}
use Rattle.std.specs.declared.hash.BuildHasherDefault.{BuildHasherDefault}
use Rattle.std.specs.HashMap.{HashMap, get}
use Rattle.pmt_laws.specs.Prelude.{Op, Store, Clwb, ClflushOpt, Clflush, Sfence, Mfence, IsPersist, IsOrderedBefore, Written, Recording, Act, Stores, Flushes, Clflushes, Fences, Asserts}
use Rattle.pmt_causes.specs.Groups.{origin_of}
use Rattle.pmt_hints.specs.declared.per_thread.PerThread.{PerThread}
use Rattle.pmt_hints.specs.declared.flushers.Flusher.{Flusher}
use Rattle.pmt_hints.specs.declared.next_stores.NextStores.{NextStores}
use Rattle.pmt_hints.specs.declared.after_mark.LastMarks.{LastMarks}
use Rattle.pmt_hints.specs.declared.after_mark.Storer.{Storer}
use Rattle.pmt_hints.specs.declared.named.Role.TheVariants.{Second}
use Rattle.pmt_hints.specs.Hints.{FencesBetween, IsNamed, IsStoreOf}
use Rattle.pmt_hints.specs.contracts.flushers.FlusherPartialEq.TheImpl as flusher_eq
use Rattle.pmt_hints.specs.contracts.after_mark.StorerPartialEq.TheImpl as storer_eq

-- The number of thread t.
abbrev pub of_thread : PerThread → ℕ → ℕ
of_thread numbers t = slice_index numbers.numbers t

abbrev pub LastFlushes : Type 0
LastFlushes = HashMap Flusher ℕ (BuildHasherDefault FoldHasher)

abbrev pub flusher : ℕ → ℕ → Flusher
flusher t l = record { thread = t; line = l }

-- The number of line l by thread t, or 0 where there is none.
abbrev pub flush_at : LastFlushes → ℕ → ℕ → ℕ
flush_at flushes t l = unwrap_or (get (flusher_eq.ghosts).eq flushes (flusher t l)) 0

-- The next store of thread t to another line than l.
abbrev pub elsewhere_at : NextStores → ℕ → ℕ → ℕ
elsewhere_at next t l = if of_thread next.lines t == l then of_thread next.others t else of_thread next.stores t

-- ---- The last marks of each thread from each place

abbrev pub MarksFrom : Type 0
MarksFrom = HashMap Storer LastMarks (BuildHasherDefault FoldHasher)

abbrev pub is_same : Storer → Storer → Bool
is_same r s = (storer_eq.ghosts).eq r s

-- The last one of these marks that is at another address, or 0 where there is none.
abbrev pub elsewhere_in : Option LastMarks → ℕ → ℕ
elsewhere_in None addr = 0
elsewhere_in (Some last) addr = if last.addr == addr then last.other else last.mark

abbrev pub mark_elsewhere : MarksFrom → Storer → ℕ → ℕ
mark_elsewhere marks s addr = elsewhere_in (get (storer_eq.ghosts).eq marks s) addr

-- The same for another storer and address, once storer r's mark with this number at an address is met.
abbrev pub mark_by : Storer → ℕ → ℕ → Storer → ℕ → ℕ → ℕ
mark_by r at number s addr old = if is_same r s then (if at == addr then old else number) else old

-- Once its op with this number is met.
abbrev pub op_by : Storer → Op → ℕ → Storer → ℕ → ℕ → ℕ
op_by r (Store w) number s addr old = mark_by r w.addr number s addr old
op_by r o number s addr old = old

abbrev pub noted_by : Bool → Storer → Op → ℕ → Storer → ℕ → ℕ → ℕ
noted_by is_mark r o number s addr old = if is_mark then op_by r o number s addr old else old

-- The op is a store, and its thread has not fenced since its last mark, nor since the last one from there at another address.
abbrev pub op_after : PerThread → PerThread → MarksFrom → Storer → Op → Bool
op_after fences recent marks s (Store w) = nat_lt (of_thread fences s.thread) (of_thread recent s.thread) && nat_lt (of_thread fences s.thread) (mark_elsewhere marks s w.addr)
op_after fences recent marks s o = false

-- So it is, and it is no mark.
abbrev pub after_mark : PerThread → PerThread → MarksFrom → Bool → Storer → Op → Bool
after_mark fences recent marks is_mark s o = not is_mark && op_after fences recent marks s o

-- The thread, with the place of event i.
abbrev pub storer_at : List (Option ℕ) → ℕ → ℕ → Storer
storer_at labels i t = record { thread = t; place = origin_of labels i t }

-- Event k is a mark of storer s, to another address than y.
abbrev pub MarkFrom : Recording → List (Option ℕ) → Storer → ℕ → ℕ → Type 0
MarkFrom T labels s y k = (w : Written) × IsStoreOf T s.thread w k × IsNamed T Second k × (origin_of labels k s.thread ≡ s.place) × (w.addr ≢ y)

-- Event i is stored after a mark, and is none. It may be in a first range.
pub record IsAfterMark (T : Recording) (labels : List (Option ℕ)) (i : ℕ) : Type 0 where
  pub thread : ℕ
  pub store : Written
  pub mark : ℕ
  pub is_store : IsStoreOf T thread store i
  pub is_mark : MarkFrom T labels (storer_at labels i thread) store.addr mark
  pub order : mark < i
  pub still_open : ¬ FencesBetween T thread mark i
  pub no_mark : ¬ IsNamed T Second i

-- ---- How one event changes what is known of those before or after it

-- The fence of thread t that is met last, once the act with this number is met.
abbrev pub fence_by : Act → ℕ → ℕ → ℕ → ℕ
fence_by (Fences u) number t old = if u == t then number else old
fence_by a number t old = old

-- The flush of line l by thread t, alike.
abbrev pub flush_by : Act → ℕ → ℕ → ℕ → ℕ → ℕ
flush_by (Flushes u k) number t l old = if u == t && k == l then number else old
flush_by a number t l old = old

-- The store of thread t, alike, where the act is thread u's.
abbrev pub any_store_by : Act → ℕ → ℕ → ℕ → ℕ → ℕ
any_store_by (Stores l w) u number t old = if u == t then number else old
any_store_by a u number t old = old

-- By the next own fences of all events and the last flushes before it: act i by thread t is a store to a line with an open flush.
abbrev pub after_open : List ℕ → LastFlushes → ℕ → Act → ℕ → Bool
after_open fences flushes i (Stores l w) t = nat_le 1 (flush_at flushes t l) && nat_lt i (slice_index fences (flush_at flushes t l - 1))
after_open fences flushes i a t = false

-- The next store of thread t to another line than l, once the act with this number by thread u is met.
abbrev pub store_by : Act → ℕ → ℕ → ℕ → ℕ → ℕ → ℕ
store_by (Stores k w) u number t l old = if u == t then (if k == l then old else number) else old
store_by a u number t l old = old

-- By the next fences and stores after it: the act is a flush, and its thread stores to another line before it fences.
abbrev pub open_so : PerThread → NextStores → Act → Bool
open_so fences stores (Flushes t l) = nat_lt (elsewhere_at stores t l) (of_thread fences t)
open_so fences stores a = false
