-- The stories of failed assertions and of stores: why they are not safe, and what makes them so.
use Rattle.std.specs.Prelude.{◌≡◌, ℕ, suc, ◌≤◌, ◌⊎◌, ◌↔◌, List, [], ◌∷◌, length, Some, ◌<◌, ◌==◌, if◌then◌else◌, slice_get}
use Rattle.pmt_explain.specs.Prelude.{Written, Stores, Fences, Recording, IsAct, IsRising, Has, IsSafe, option_map, ByteStore, Failure, IsFailureAt, IsFirstFenceAt, Layout, line_of, Event, Op, Store, Clwb, ClflushOpt, Clflush, Sfence, Mfence, IsPersist, IsOrderedBefore, event}
use Rattle.pmt_safety.specs.Safety.{IsSafeFrom}
use Rattle.pmt_slices.specs.declared.story.StoryPart.{StoryPart}
use Rattle.pmt_slices.specs.declared.story.StoryPart.TheVariants.{Assertion, Lost, Kept, Saves, Flush, Cover, Fence}
use Rattle.pmt_slices.specs.declared.story.Story.{Story}
use Rattle.pmt_slices.specs.Slices.{IsFirstFlush, IsFirstFlushBy, Tells, IsSlice, IsComing, IsOfStore, IsStoreBy, line_in, IsFate}
use Rattle.pmt_slices.specs.declared.store_slicing.Fate.{Fate}
use Rattle.pmt_slices.specs.declared.store_story.StorePart.{StorePart}
use Rattle.pmt_slices.specs.declared.store_story.StoreStory.{StoreStory}
use Rattle.pmt_slices.specs.declared.store_story.Turn.{Turn}
use Rattle.pmt_slices.specs.declared.store_story.StorePart.TheVariants as part
use Rattle.pmt_slices.specs.declared.store_story.Turn.TheVariants as turn

-- Event k is this part of the story of the assertion at n, whose crash loses a store to line l.
abbrev pub IsPart : Recording → ℕ → ℕ → Failure → StoryPart → ℕ → Type 0
IsPart T n l f Assertion k = k ≡ n
IsPart T n l f Lost k = k ≡ f.lost.store
IsPart T n l f Kept k = (y : ByteStore) × (f.kept ≡ Some y) × (k ≡ y.store)
IsPart T n l f Saves k = IsSafeFrom T l f.lost.store k
IsPart T n l f Flush k = IsFirstFlush T l f.lost.store k
IsPart T n l f Cover k = (t : ℕ) × (p : ℕ) × IsSafeFrom T l f.lost.store p × IsAct T p (Fences t) × IsFirstFlushBy T t l f.lost.store k
IsPart T n l f Fence k = (g : ℕ) × IsFirstFlush T l f.lost.store g × IsFirstFenceAt T g n k × (¬ IsSafe T l k f.lost.store)

-- x is the first of these with the property.
abbrev pub IsFirstOf : {X : Type 0} → (X → Type 0) → X → List X → Type 0
IsFirstOf P x [] = ⊥
IsFirstOf P x (y ∷ ys) = ((x ≡ y) × P y) ⊎ ((¬ P y) × IsFirstOf P x ys)

-- What event k is told to be: the first of these that it is.
abbrev pub IsTold : Recording → ℕ → ℕ → Failure → StoryPart → ℕ → Type 0
IsTold T n l f part k = IsFirstOf (λ p. IsPart T n l f p k) part (Assertion ∷ Lost ∷ Kept ∷ Saves ∷ Flush ∷ Cover ∷ Fence ∷ [])

-- Event k is the assertion at n, the store that its crash keeps, or tells of the store to line l that its crash loses.
pub data IsInStory (T : Recording) (n l : ℕ) (f : Failure) (k : ℕ) : Type 0 where
  TheAssertion : k ≡ n → IsInStory T n l f k
  TheKept : (y : ByteStore) → f.kept ≡ Some y → k ≡ y.store → 1 ≤ k → k ≤ n → IsInStory T n l f k
  OfLost : Tells T n l f.lost.store k → IsInStory T n l f k

-- The lost store is one of the first n events of the trace.
pub record HasLost (T : Recording) (n : ℕ) (f : Failure) : Type 0 where
  pub line : ℕ
  pub what : Written
  pub is_store : IsAct T f.lost.store (Stores line what)
  pub by_now : f.lost.store ≤ n
  pub within : n ≤ length T.events

-- The story has these events.
pub record IsStory (T : Recording) (n : ℕ) (f : Failure) (s : Story) : Type 0 where
  pub lost_one : HasLost T n f
  pub rising : IsRising 0 s.numbers
  pub just : (k : ℕ) → Has s.numbers k ↔ IsInStory T n lost_one.line f k
  pub assertion : s.assertion ≡ n
  pub lost : s.lost ≡ f.lost.store
  pub kept : s.kept ≡ option_map (λ (y : ByteStore). y.store) f.kept
  pub coming : IsComing T lost_one.line f.lost.store (suc n) s.coming

-- The story of a failure has events of the assertion's slice alone, in their order; among them are the store that its crash loses, the one that
-- it keeps, and the assertion.
pub record StoryTells : Type 0 where
  pub of_slice : (T : Recording) (n k : ℕ) (K : List ℕ) (f : Failure) (s : Story) → IsFailureAt T n (Some f) → IsSlice T n K → IsStory T n f s → Has s.numbers k → Has K k
  pub lost : (T : Recording) (n : ℕ) (f : Failure) (s : Story) → IsFailureAt T n (Some f) → IsStory T n f s → Has s.numbers f.lost.store
  pub kept : (T : Recording) (n : ℕ) (f : Failure) (y : ByteStore) (s : Story) → IsFailureAt T n (Some f) → f.kept ≡ Some y → IsStory T n f s → Has s.numbers y.store
  pub assertion : (T : Recording) (n : ℕ) (f : Failure) (s : Story) → IsFailureAt T n (Some f) → IsStory T n f s → Has s.numbers n

-- ---- The story of a store: why it is not safe, and what makes it so

-- What an op of a store's thread is to the store's line: a flush of it and a fence are one, a flush of another line, or nothing.
abbrev pub flush_turn : ℕ → ℕ → Turn
flush_turn own l = if own == l then turn.Stop else turn.Other

abbrev pub turn_of : Layout → ℕ → Op → Turn
turn_of f l (Store w) = turn.Nothing
turn_of f l (Clwb a) = flush_turn (line_of f a) l
turn_of f l (ClflushOpt a) = flush_turn (line_of f a) l
turn_of f l (Clflush a) = flush_turn (line_of f a) l
turn_of f l Sfence = turn.Stop
turn_of f l Mfence = turn.Stop
turn_of f l (IsPersist r) = turn.Nothing
turn_of f l (IsOrderedBefore r q) = turn.Nothing

-- Event k is by thread t, and this to line l.
abbrev pub IsTurn : Recording → ℕ → ℕ → Turn → ℕ → Type 0
IsTurn T t l x k = (e : Event) × (event T k ≡ Some e) × (e.thread ≡ t) × (turn_of T.format l e.op ≡ x)

-- Event k is a flush by thread t of another line than l after event j; between them the thread does not fence, nor flush line l.
pub record IsOther (T : Recording) (t l j k : ℕ) : Type 0 where
  pub is_flush : IsTurn T t l turn.Other k
  pub after : j < k
  pub sooner : (m : ℕ) → j < m → m < k → ¬ IsTurn T t l turn.Stop m

-- These are all of them, in their order.
pub record AreOthers (T : Recording) (t l j : ℕ) (others : List ℕ) : Type 0 where
  pub rising : IsRising 0 others
  pub just : (k : ℕ) → Has others k ↔ IsOther T t l j k

-- Event k is one of the first three of these, or the last one.
abbrev pub IsOfOthers : List ℕ → ℕ → Type 0
IsOfOthers others k = (i : ℕ) × (slice_get others i ≡ Some k) × ((i < 3) ⊎ (suc i ≡ length others))

-- Number k is that of the store, of what tells of it, of the next fence of its thread, if that leaves it unsafe, or of a few other flushes.
abbrev pub IsOfStory : ℕ → Fate → List ℕ → ℕ → ℕ → Type 0
IsOfStory number f others n k = IsOfStore number f.coming n k ⊎ (((f.first < f.coming.safe) × (k ≡ f.first)) ⊎ IsOfOthers others k)

-- Event n is a store.
abbrev pub IsStoreAt : Recording → ℕ → Type 0
IsStoreAt T n = (t : ℕ) × (w : Written) × IsStoreBy T t w n

-- Event k is the first fence of thread t after event j.
pub record IsNextFence (T : Recording) (t j k : ℕ) : Type 0 where
  pub is_fence : IsAct T k (Fences t)
  pub after : j < k
  pub first : (m : ℕ) → j < m → m < k → ¬ IsAct T m (Fences t)

-- Event k is this part of the story of store j to line l by thread t.
abbrev pub IsStorePart : Recording → ℕ → ℕ → ℕ → StorePart → ℕ → Type 0
IsStorePart T t l j part.Store k = k ≡ j
IsStorePart T t l j part.OwnFence k = IsNextFence T t j k × (¬ IsSafe T l k j)
IsStorePart T t l j part.Saves k = IsSafeFrom T l j k
IsStorePart T t l j part.Flush k = IsFirstFlush T l j k
IsStorePart T t l j part.Cover k = (u : ℕ) × (p : ℕ) × IsSafeFrom T l j p × IsAct T p (Fences u) × IsFirstFlushBy T u l j k
IsStorePart T t l j part.Fence k = (g : ℕ) × IsFirstFlush T l j g × IsFirstFenceAt T g (length T.events) k × (¬ IsSafe T l k j)
IsStorePart T t l j part.Other k = IsOther T t l j k

-- What event k is told to be: the first of these that it is.
abbrev pub IsStoreTold : Recording → ℕ → ℕ → ℕ → StorePart → ℕ → Type 0
IsStoreTold T t l j told k =
    IsFirstOf (λ p. IsStorePart T t l j p k) told (part.Store ∷ part.OwnFence ∷ part.Saves ∷ part.Flush ∷ part.Cover ∷ part.Fence ∷ part.Other ∷ [])

-- Event k tells of store j to line l by thread t up to the end, is the thread's next fence, which leaves the store unsafe, or is one of the
-- first three of the thread's flushes of other lines, or the last.
pub data IsInStoreStory (T : Recording) (t l j : ℕ) (others : List ℕ) (k : ℕ) : Type 0 where
  OfStore : Tells T (length T.events) l j k → IsInStoreStory T t l j others k
  OwnFence : IsNextFence T t j k → ¬ IsSafe T l k j → IsInStoreStory T t l j others k
  OfOthers : IsOfOthers others k → IsInStoreStory T t l j others k

-- The story has these events.
pub record IsStoreStory (T : Recording) (j : ℕ) (s : StoreStory) : Type 0 where
  pub thread : ℕ
  pub what : Written
  pub is_store : IsStoreBy T thread what j
  pub store : s.store ≡ j
  pub end : s.end ≡ length T.events
  pub fate : IsFate T thread what j s.fate
  pub others : AreOthers T thread (line_in T what) j s.others
  pub rising : IsRising 0 s.numbers
  pub just : (k : ℕ) → Has s.numbers k ↔ IsInStoreStory T thread (line_in T what) j s.others k
