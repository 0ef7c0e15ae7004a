-- Acts on one line: which lines they matter to, and the lines that have appeared.
use Rattle.std.proofs.Common.{◌≡◌, ◌≢◌, ℕ, ◌-◌, Bool, true, false, List, [], ◌∷◌, length, Some, None, refl, ap, subst, arith}
use Rattle.std.specs.Prelude.{◌==◌, ◌&&◌, if◌then◌else◌}
use Rattle.std.proofs.lemmas.Bool.{ne_eqb}
use Rattle.pmt_laws.specs.Prelude.{Act, Stores, Flushes, Clflushes, Fences, Asserts, count, Recording, IsAct, history, has_line, with_line, lines_of, open_mark}
use Rattle.pmt_laws.proofs.Histories.{act-within, act-unique}
use Rattle.pmt_lines.specs.Jobs.{Touches, ByStore, ByFlush, ByClflush, ByFence, IsLeanJob}
use Rattle.pmt_taking.proofs.AppearLemmas.{IsOnLine, absent-act, absent-before, appears}

-- it matters to that line
pub touches-own_line : (T : Recording) (n l : ℕ) (a : Act) → IsAct T n a → IsOnLine l a → Touches T l n
touches-own_line T n l (Stores k w) is on = ByStore w (subst (λ j. IsAct T n (Stores j w)) on is)
touches-own_line T n l (Flushes t k) is on = ByFlush t (subst (λ j. IsAct T n (Flushes t j)) on is)
touches-own_line T n l (Clflushes k) is on = ByClflush (subst (λ j. IsAct T n (Clflushes j)) on is)
touches-own_line T n l (Fences t) is on = absurd on
touches-own_line T n l Asserts is on = absurd on

-- and to no other
pub untouched-other_line : (T : Recording) (n l m : ℕ) (a : Act) → IsAct T n a → IsOnLine l a → m ≢ l → ¬ Touches T m n
untouched-other_line T n l m a is on other (ByStore w this) = other (subst (IsOnLine l) (act-unique T n a (Stores m w) is this) on)
untouched-other_line T n l m a is on other (ByFlush t this) = other (subst (IsOnLine l) (act-unique T n a (Flushes t m) is this) on)
untouched-other_line T n l m a is on other (ByClflush this) = other (subst (IsOnLine l) (act-unique T n a (Clflushes m) is this) on)
untouched-other_line T n l m a is on other (ByFence t this mark) = subst (IsOnLine l) (act-unique T n a (Fences t) is this) on

-- an assertion matters to no line
pub untouched-assert : (T : Recording) (n m : ℕ) → IsAct T n Asserts → ¬ Touches T m n
untouched-assert T n m is (ByStore w this) = let e = act-unique T n Asserts (Stores m w) is this in cc
untouched-assert T n m is (ByFlush t this) = let e = act-unique T n Asserts (Flushes t m) is this in cc
untouched-assert T n m is (ByClflush this) = let e = act-unique T n Asserts (Clflushes m) is this in cc
untouched-assert T n m is (ByFence t this mark) = let e = act-unique T n Asserts (Fences t) is this in cc

-- a fence matters to the lines that its thread has an open mark on, and to no other
pub untouched-fence : (T : Recording) (n m t : ℕ) → IsAct T n (Fences t) → open_mark t m (history T (n - 1)) ≡ None → ¬ Touches T m n
untouched-fence T n m t is none (ByStore w this) = let e = act-unique T n (Fences t) (Stores m w) is this in cc
untouched-fence T n m t is none (ByFlush u this) = let e = act-unique T n (Fences t) (Flushes u m) is this in cc
untouched-fence T n m t is none (ByClflush this) = let e = act-unique T n (Fences t) (Clflushes m) is this in cc
untouched-fence T n m t is none (ByFence u this mark) =
    mark (subst (λ v. open_mark v m (history T (n - 1)) ≡ None) (fences-thread t u (act-unique T n (Fences t) (Fences u) is this)) none)
  where
    fences-thread : (t u : ℕ) → Fences t ≡ Fences u → t ≡ u
    fences-thread t u e = cc

-- the lines after an act on a line, and after another
pub lines_of-on_line : (l : ℕ) (a : Act) (h : List Act) → IsOnLine l a → lines_of (a ∷ h) ≡ with_line l (lines_of h)
lines_of-on_line l (Stores k w) h on = ap (λ j. with_line j (lines_of h)) on
lines_of-on_line l (Flushes t k) h on = ap (λ j. with_line j (lines_of h)) on
lines_of-on_line l (Clflushes k) h on = ap (λ j. with_line j (lines_of h)) on
lines_of-on_line l (Fences t) h on = absurd on
lines_of-on_line l Asserts h on = absurd on

-- no thread has a mark on a line that has not appeared
pub open_mark-absent : (t l : ℕ) (h : List Act) → has_line l (lines_of h) ≡ false → open_mark t l h ≡ None
open_mark-absent t l [] e = refl
open_mark-absent t l (Stores k w ∷ h) e = open_mark-absent t l h (absent-act l (Stores k w) h e).1
open_mark-absent t l (Flushes u k ∷ h) e =
    let absent = absent-act l (Flushes u k) h e in
    let other : (k == l) ≡ false = ne_eqb k l absent.0 in
    go (u == t) (k == l) other (open_mark-absent t l h absent.1)
  where
    go : (a b : Bool) → b ≡ false → open_mark t l h ≡ None → (if a && b then Some (count l h) else open_mark t l h) ≡ None
    go true b is none = rw is none
    go false b is none = none
open_mark-absent t l (Clflushes k ∷ h) e = open_mark-absent t l h (absent-act l (Clflushes k) h e).1
open_mark-absent t l (Fences u ∷ h) e = go (u == t) (open_mark-absent t l h e)
  where
    go : (b : Bool) → open_mark t l h ≡ None → (if b then None else open_mark t l h) ≡ None
    go true none = refl
    go false none = none
open_mark-absent t l (Asserts ∷ h) e = open_mark-absent t l h e

-- no event has mattered to a line that has not appeared
pub untouched-absent : (T : Recording) (l k : ℕ) → has_line l (lines_of (history T (length T.events))) ≡ false → ¬ Touches T l k
untouched-absent T l k e (ByFence t is mark) =
    mark (open_mark-absent t l (history T (k - 1)) (absent-before T l (length T.events) (k - 1) (omega (arith, (act-within T k (Fences t) is).1)) e))
untouched-absent T l k e (ByStore w is) = appears T l k (Stores l w) e is refl
untouched-absent T l k e (ByFlush t is) = appears T l k (Flushes t l) e is refl
untouched-absent T l k e (ByClflush is) = appears T l k (Clflushes l) e is refl

-- a line has no job to do before it appears
pub empty_job : (T : Recording) (l : ℕ) → has_line l (lines_of (history T (length T.events))) ≡ false → IsLeanJob T (record { line = l; steps = [] })
empty_job T l e = (λ n h. untouched-absent T l n e, tt)
