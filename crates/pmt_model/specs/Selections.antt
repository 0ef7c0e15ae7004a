-- A trace cut to some of its events, or to those of one thread.
use Rattle.std.specs.Prelude.{◌≡◌, ℕ, suc, ◌<◌, ◌≤◌, ◌⊎◌, ◌↔◌, Bool, true, false, nat_le, if◌then◌else◌, List, [], ◌∷◌, length, nat_lt, Option, Some, None, ◌==◌, slice_get}
use Rattle.std.specs.List.{filter_map, AllByRecursion}
use Rattle.std.specs.Option.{option_map}
use Rattle.pmt_model.specs.Machine.{Act, Stores, Flushes, Clflushes, Fences, Asserts, Image}
use Rattle.pmt_model.specs.Traces.{Recording, event, IsAct, CrashAt, VectorsAt}
use Rattle.pmt_model.specs.declared.event.Event.{Event}
use Rattle.pmt_model.specs.declared.event.Op.{Op}

-- The numbers rise, the first from above low.
abbrev pub IsRising : ℕ → List ℕ → Type 0
IsRising low [] = Unit {0}
IsRising low (k ∷ ks) = (low < k) × IsRising k ks

abbrev pub Has : List ℕ → ℕ → Type 0
Has [] n = ⊥
Has (k ∷ ks) n = (k ≡ n) ⊎ Has ks n

-- A store or an assertion, which every selection has.
abbrev pub always_stays : Act → Bool
always_stays (Stores l w) = true
always_stays (Flushes t l) = false
always_stays (Clflushes l) = false
always_stays (Fences t) = false
always_stays Asserts = true

-- Rising numbers of events, among them those of all stores and assertions.
pub record IsSelection (T : Recording) (K : List ℕ) : Type 0 where
  pub rising : IsRising 0 K
  pub within : (k : ℕ) → Has K k → k ≤ length T.events
  pub whole : (i : ℕ) (a : Act) → IsAct T i a → always_stays a ≡ true → Has K i

-- The events with these numbers, in the same format.
abbrev pub cut : Recording → List ℕ → Recording
cut T K = record { format = T.format; events = filter_map (event T) K }

-- The matching place: how many of the numbers are at most n.
abbrev pub matching_place : List ℕ → ℕ → ℕ
matching_place [] n = 0
matching_place (k ∷ ks) n = if nat_le k n then suc (matching_place ks n) else matching_place ks n

-- After n events of the trace and after those of them that are kept, a crash may leave just the same.
pub record IsFaithful (T : Recording) (K : List ℕ) (n : ℕ) : Type 0 where
  pub images : (image : Image) → CrashAt T n image ↔ CrashAt (cut T K) (matching_place K n) image
  pub vectors : (v : ℕ → ℕ) → VectorsAt T n v ↔ VectorsAt (cut T K) (matching_place K n) v

-- The first position, from 0, whose number is not greater than the one before it, the first being compared with low.
abbrev pub first_fall : ℕ → List ℕ → Option ℕ
first_fall low [] = None
first_fall low (k ∷ ks) = if nat_lt low k then option_map (λ p. suc p) (first_fall k ks) else Some 0

-- The numbers and ops of the events of thread t, the first event having the number n.
abbrev pub part_from : ℕ → ℕ → List Event → List (ℕ × Op)
part_from n t [] = []
part_from n t (e ∷ es) = if e.thread == t then (n, e.op) ∷ part_from (suc n) t es else part_from (suc n) t es

-- The part of thread t in the events.
abbrev pub part : ℕ → List Event → List (ℕ × Op)
part t events = part_from 1 t events

-- The events are an interleaving of these tapes, tape k being the part of thread k.
pub record IsInterleaving (tapes : List (List (ℕ × Op))) (events : List Event) : Type 0 where
  pub whose : AllByRecursion (λ (e : Event). e.thread < length tapes) events
  pub parts : (t : ℕ) → t < length tapes → slice_get tapes t ≡ Some (part t events)
