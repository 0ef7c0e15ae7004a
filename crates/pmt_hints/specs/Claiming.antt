-- What events tell one by one, which lines the program claims something of, and which stores assertions name.
use Rattle.std.specs.Prelude.{◌||◌, ◌≤◌, ◌↔◌, ℕ, Bool, nat_le, nat_lt, if◌then◌else◌, List, [], ◌∷◌, Option, None, Some, ◌≡◌, ◌≢◌, ◌+◌, ◌-◌, ◌&&◌, ◌==◌, true, false, not, nat_eq, unwrap_or, ◌⊎◌, length}
use Rattle.pmt_laws.specs.Prelude.{Act, Stores, Flushes, Clflushes, Fences, Asserts, IsRising, Has, Event, Layout, Span, line_of, Recording, IsAct, act, event, IsKept, Op, Store, Clwb, ClflushOpt, Clflush, Sfence, Mfence, IsPersist, IsOrderedBefore, Verdict, InSpan}
use Rattle.std.specs.declared.hash.FoldHasher.{FoldHasher}
use Rattle.std.specs.declared.hash.BuildHasherDefault.{BuildHasherDefault}
use Rattle.std.specs.HashMap.{HashMap, get}
use Rattle.pmt_tables.specs.Flags.{is_kept_at}
use Rattle.pmt_explain.specs.LastStores.{written_by}
use Rattle.pmt_hints.specs.Hints.{IsExcused, Names, AreFlags}
use Rattle.pmt_hints.specs.declared.named.Role.{Role}
use Rattle.pmt_hints.specs.declared.named.Role.TheVariants.{Claimed, First, Second}
use Rattle.pmt_hints.specs.declared.named_bytes.NamedBytes.{NamedBytes}
use Rattle.pmt_hints.specs.NamedBytes.{AreNamedBytes, HasByte}

-- The line of an act that is a store, and that of one that is a flush.
abbrev pub store_line : Act → Option ℕ
store_line (Stores l w) = Some l
store_line a = None

abbrev pub flush_line : Act → Option ℕ
flush_line (Flushes t l) = Some l
flush_line a = None

-- These are those of the first n events that have the property, in their order.
abbrev pub AreUpTo : (ℕ → Type 0) → ℕ → List ℕ → Type 0
AreUpTo P n numbers = IsRising 0 numbers × ((i : ℕ) → Has numbers i ↔ ((i ≤ n) × P i))

-- A fence of its thread leaves a store of a trace with so many events unsafe, or it is never safe: it waits for so many fences, and this is
-- its safe place.
abbrev pub left_unsafe : ℕ → ℕ → ℕ → Bool
left_unsafe waited safe events = nat_le 1 waited || nat_lt events safe

-- The number, if it is told.
abbrev pub if_told : Bool → ℕ → List ℕ
if_told told i = if told then i ∷ [] else []

-- ---- Which lines are noted

-- Lines, each by whether it is noted.
abbrev pub Claims : Type 0
Claims = HashMap ℕ Bool (BuildHasherDefault FoldHasher)

-- Whether the line is noted; nothing of a line that was not asked for.
abbrev pub claim_at : Claims → ℕ → Option Bool
claim_at claims l = get nat_eq claims l

-- A note more, of a line that is asked for.
abbrev pub or_so : Bool → Option Bool → Option Bool
or_so is None = None
or_so is (Some was) = Some (was || is)

abbrev pub has_line : Layout → Span → ℕ → Bool
has_line f A l = nat_le (line_of f A.addr) l && nat_le l (line_of f (A.addr + A.len - 1))

-- A note less, alike.
abbrev pub unless_so : Bool → Option Bool → Option Bool
unless_so is None = None
unless_so is (Some was) = Some (was && not is)

-- Once the act is met, which is a claimed store or not: a claimed store notes its line, and a flush ends that.
abbrev pub noted_by : Act → Bool → ℕ → Option Bool → Option Bool
noted_by (Stores k w) claimed l old = or_so (claimed && (k == l)) old
noted_by (Flushes t k) claimed l old = unless_so (k == l) old
noted_by (Clflushes k) claimed l old = unless_so (k == l) old
noted_by (Fences t) claimed l old = old
noted_by Asserts claimed l old = old

abbrev pub noted : Layout → Option Event → Bool → ℕ → Option Bool → Option Bool
noted f None claimed l old = old
noted f (Some e) claimed l old = noted_by (act f e) claimed l old

-- Its line, if the event is a flush that waits for a fence.
abbrev pub event_flush : Layout → Option Event → Option ℕ
event_flush f None = None
event_flush f (Some e) = flush_line (act f e)

-- The line, if there is one, is asked for, and not noted yet.
abbrev pub asked_at : Option ℕ → ℕ → Option Bool → Option Bool
asked_at None l old = old
asked_at (Some k) l old = if k == l then Some false else old

-- The lines of these flushes are asked for, and no line is noted.
pub record AreAsked (T : Recording) (flushes : List ℕ) (claims : Claims) : Type 0 where
  pub each : (i t l : ℕ) → Has flushes i → IsAct T i (Flushes t l) → claim_at claims l ≡ Some false
  pub none : (l : ℕ) → claim_at claims l ≢ Some true

abbrev pub is_claimed_line : Claims → Option ℕ → Bool
is_claimed_line claims None = false
is_claimed_line claims (Some l) = unwrap_or (claim_at claims l) false

-- The event at i is a flush that waits for a fence, of a line that is noted.
abbrev pub claimed_so : Recording → Claims → ℕ → Bool
claimed_so T claims i = is_claimed_line claims (event_flush T.format (event T i))

-- These are flushes that are kept and excused, among them each of those flushes that is so.
pub record AreExcused (T : Recording) (flushes excused : List ℕ) : Type 0 where
  pub just : (j : ℕ) → Has excused j → (t : ℕ) × (l : ℕ) × IsKept T j × IsAct T j (Flushes t l) × IsExcused T l j
  pub each : (j t l : ℕ) → Has flushes j → IsKept T j → IsAct T j (Flushes t l) → IsExcused T l j → Has excused j

-- ---- Which events name bytes, and which stores they name

-- The range of this role, if the op is an assertion that has one.
abbrev pub op_range : Role → Op → Option Span
op_range role (Store w) = None
op_range role (Clwb a) = None
op_range role (ClflushOpt a) = None
op_range role (Clflush a) = None
op_range role Sfence = None
op_range role Mfence = None
op_range Claimed (IsPersist A) = Some A
op_range First (IsPersist A) = None
op_range Second (IsPersist A) = None
op_range Claimed (IsOrderedBefore A B) = Some A
op_range First (IsOrderedBefore A B) = Some A
op_range Second (IsOrderedBefore A B) = Some B

abbrev pub event_range : Role → Option Event → Option Span
event_range role None = None
event_range role (Some e) = op_range role e.op

-- The same of an assertion that passes.
abbrev pub verdict_range : Recording → Role → Verdict → Option Span
verdict_range T role v = if v.pass then event_range role (event T v.event) else None

-- Event i passes, and has a range of this role, by this verdict.
abbrev pub IsNamingBy : Recording → Role → Verdict → ℕ → Type 0
IsNamingBy T role v i = (A : Span) × (verdict_range T role v ≡ Some A) × (v.event ≡ i)

-- Of the events that have a flag those with the property are marked besides.
pub record Marks (P : ℕ → Type 0) (old new : List Bool) : Type 0 where
  pub size : length new ≡ length old
  pub each : (i : ℕ) → 1 ≤ i → i ≤ length old → (is_kept_at new i ≡ true) ↔ ((is_kept_at old i ≡ true) ⊎ P i)

-- Event i passes, and has a range of this role.
abbrev pub IsNaming : Recording → Role → ℕ → Type 0
IsNaming T role i = (A : Span) × Names T role A i

-- Of each event whether it passes and has a range of this role; none after event `end` does.
pub record AreNaming (T : Recording) (role : Role) (naming : List Bool) (end : ℕ) : Type 0 where
  pub flags : AreFlags (IsNaming T role) (length T.events) naming
  pub within : end ≤ length T.events
  pub last : (i : ℕ) → IsNaming T role i → i ≤ end

-- The byte at b is in a range of this role of the op, which passes.
abbrev pub IsNamedIn : Role → Bool → Op → ℕ → Type 0
IsNamedIn role is_naming o b = (is_naming ≡ true) × (A : Span) × (op_range role o ≡ Some A) × InSpan A b

-- Back over the op, the bytes that it stores are taken out, and those that it names are added; is_named tells whether it stores one of them.
pub record GoesBack (role : Role) (is_naming : Bool) (o : Op) (old : NamedBytes) (is_named : Bool) (new : NamedBytes) : Type 0 where
  pub are : AreNamedBytes new
  pub named : (is_named ≡ true) ↔ ((b : ℕ) × (written_by o b ≡ true) × HasByte old b)
  pub told : (b : ℕ) → HasByte new b ↔ ((HasByte old b × (written_by o b ≡ false)) ⊎ IsNamedIn role is_naming o b)
