-- The worked traces are within the limits of a trace.
use Rattle.std.proofs.Common.{ℕ, ◌<◌, ◌^◌, refl, lit<, lit≤, arith}
use Rattle.std.proofs.lemmas.Bool.Decides.{nat_tests}
use Rattle.pmt_laws.specs.Prelude.{Layout, IsEventIn}
use Rattle.pmt_laws.specs.Worked.{store, store_two, clwb, sfence, is_persist, is_ordered_before, WorkedAreTraces}

-- A store of one byte is an event of each format.
store-event : (f : Layout) (t a byte : ℕ) → t < 256 → a < 2 ^ 48 → byte < 256 → IsEventIn f (store t a byte)
store-event f t a byte thread address value = grind (arith, nat_tests)

-- So is a flush.
clwb-event : (f : Layout) (t a : ℕ) → t < 256 → a < 2 ^ 48 → IsEventIn f (clwb t a)
clwb-event f t a thread address = record { event = record { thread = thread; op = address }; known = refl }

-- So is a fence.
sfence-event : (f : Layout) (t : ℕ) → t < 256 → IsEventIn f (sfence t)
sfence-event f t thread = record { event = record { thread = thread; op = tt }; known = refl }

-- So is an assertion on one byte.
persist-event : (f : Layout) (a : ℕ) → a < 2 ^ 48 → IsEventIn f (is_persist a)
persist-event f a address = record {
  event = record { thread = lit< tt; op = record { some = lit≤ tt; few = lit≤ tt; within = omega arith } };
  known = refl;
}

-- So is an assertion on two bytes.
ordered-event : (f : Layout) (a b : ℕ) → a < 2 ^ 48 → b < 2 ^ 48 → IsEventIn f (is_ordered_before a b)
ordered-event f a b first second = grind (arith, nat_tests)

-- And a store of two bytes.
pair-event : (f : Layout) → IsEventIn f (store_two 0 0x1000 1 2)
pair-event f = grind (arith, nat_tests)

ruleset events = (store-event, clwb-event, sfence-event, persist-event, ordered-event, pair-event)

-- Each worked trace is within the limits.
pub worked_are_traces : WorkedAreTraces
worked_are_traces = search (arith, events)
