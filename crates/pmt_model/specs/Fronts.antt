-- Which stores of a line are persisted for sure, and what that leaves to a crash.
use Rattle.std.specs.Prelude.{◌≡◌, ℕ, ◌==◌, ◌&&◌, ◌<◌, ◌≤◌, ◌⊎◌, max, if◌then◌else◌, List, [], ◌∷◌, Option, Some, None}
use Rattle.pmt_model.specs.Machine.{Act, Stores, Flushes, Clflushes, Fences, Asserts, count}
use Rattle.pmt_model.specs.Traces.{Recording, IsAct, history, count_at}

-- A flush of line l marked c stores, and its thread has fenced since, by place n.
pub record IsFenced (T : Recording) (l n c : ℕ) : Type 0 where
  pub thread : ℕ
  pub flush : ℕ
  pub fence : ℕ
  pub is_flush : IsAct T flush (Flushes thread l)
  pub is_fence : IsAct T fence (Fences thread)
  pub later : flush < fence
  pub by_now : fence ≤ n
  pub stores : count_at T l flush ≡ c

-- A clflush of line l had to wait for c stores, by place n.
pub record IsFlushedNow (T : Recording) (l n c : ℕ) : Type 0 where
  pub clflush : ℕ
  pub is_clflush : IsAct T clflush (Clflushes l)
  pub by_now : clflush ≤ n
  pub stores : count_at T l clflush ≡ c

abbrev pub IsCompleted : Recording → ℕ → ℕ → ℕ → Type 0
IsCompleted T l n c = IsFenced T l n c ⊎ IsFlushedNow T l n c

-- The front of line l at place n is the greatest of 0 and the numbers of stores that completed flushes marked.
pub record IsFront (T : Recording) (l n f : ℕ) : Type 0 where
  pub reached : (f ≡ 0) ⊎ IsCompleted T l n f
  pub greatest : (c : ℕ) → IsCompleted T l n c → c ≤ f

-- The number of stores to line l before the last flush of it by thread t, or 0.
abbrev pub mark : ℕ → ℕ → List Act → ℕ
mark t l [] = 0
mark t l (Stores k w ∷ history) = mark t l history
mark t l (Flushes u k ∷ history) = if (u == t) && (k == l) then count l history else mark t l history
mark t l (Clflushes k ∷ history) = mark t l history
mark t l (Fences u ∷ history) = mark t l history
mark t l (Asserts ∷ history) = mark t l history

-- The number of stores to line l before the last flush of it by thread t, unless t has fenced since.
abbrev pub open_mark : ℕ → ℕ → List Act → Option ℕ
open_mark t l [] = None
open_mark t l (Stores k w ∷ history) = open_mark t l history
open_mark t l (Flushes u k ∷ history) = if (u == t) && (k == l) then Some (count l history) else open_mark t l history
open_mark t l (Clflushes k ∷ history) = open_mark t l history
open_mark t l (Fences u ∷ history) = if u == t then None else open_mark t l history
open_mark t l (Asserts ∷ history) = open_mark t l history

-- The front of line l after the history, event by event. That it is the front at each place of a trace is a law.
abbrev pub front : ℕ → List Act → ℕ
front l [] = 0
front l (Stores k w ∷ history) = front l history
front l (Flushes t k ∷ history) = front l history
front l (Clflushes k ∷ history) = if k == l then count l history else front l history
front l (Fences t ∷ history) = max (front l history) (mark t l history)
front l (Asserts ∷ history) = front l history

abbrev pub front_at : Recording → ℕ → ℕ → ℕ
front_at T l n = front l (history T n)

-- Each count of persisted stores lies between the front and the count of stores.
abbrev pub InBox : List Act → (ℕ → ℕ) → Type 0
InBox history v = (l : ℕ) → (front l history ≤ v l) × (v l ≤ count l history)
