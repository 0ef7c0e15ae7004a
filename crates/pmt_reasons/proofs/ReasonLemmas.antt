-- Of each dropped event one reason holds, and of a kept one none.
use Rattle.std.proofs.Common.{◌≡◌, ℕ, ◌<◌, ◌≤◌, ◌⊎◌, inl, inr, refl, sym, ap, ◌∙◌, arith}
use Rattle.std.proofs.lemmas.Bool.{cases_lt}
use Rattle.std.proofs.lemmas.Bool.Decides.{nat_tests}
use Rattle.pmt_laws.specs.Prelude.{Flushes, Clflushes, Fences, Recording, IsAct}
use Rattle.pmt_laws.proofs.Histories.{act-unique, front-mono}
use Rattle.pmt_reasons.specs.declared.reason.Reason.{Reason}
use Rattle.pmt_reasons.specs.declared.reason.Reason.TheVariants.{Safe, Unfenced, Repeated, Overtaken, Empty, Useless}
use Rattle.pmt_reasons.specs.Reasons.{IsNextFence, IsRepeated, IsOvertaken, IsFlushReason, IsClflushReason, HasFlushed, IsUseless, IsFenceReason, IsReason, OfFlush, OfClflush, OfFence, ReasonIsUnique}

-- there is one next fence
pub next-fence-unique : (T : Recording) (t i j k : ℕ) → IsNextFence T t i j → IsNextFence T t i k → j ≡ k
next-fence-unique T t i j k x y = go (cases_lt j k) (cases_lt k j)
  where
    go : (j < k) ⊎ (k ≤ j) → (k < j) ⊎ (j ≤ k) → j ≡ k
    go (inl less) q = absurd (y.none_before j x.later less x.is_fence)
    go (inr p) (inl less) = absurd (x.none_before k y.later less y.is_fence)
    go (inr p) (inr q) = omega arith

-- a flush that repeats is one flush
repeated-unique : (T : Recording) (t l i a b : ℕ) → IsRepeated T t l i a → IsRepeated T t l i b → Repeated a ≡ Repeated b
repeated-unique T t l i a b x y = ap Repeated (go (cases_lt a b) (cases_lt b a))
  where
    go : (a < b) ⊎ (b ≤ a) → (b < a) ⊎ (a ≤ b) → a ≡ b
    go (inl less) q = absurd (y.first a x.after less x.is_flush)
    go (inr p) (inl less) = absurd (x.first b y.after less y.is_flush)
    go (inr p) (inr q) = omega arith

-- an event that overtakes is one event
overtaken-unique : (T : Recording) (t l i a b : ℕ) → IsOvertaken T t l i a → IsOvertaken T t l i b → Overtaken a ≡ Overtaken b
overtaken-unique T t l i a b x y = grind (arith, nat_tests, cases_lt, front-mono)

-- a flush that repeats is none where the flush is the last one
not-both : (T : Recording) (t l i a b : ℕ) → IsRepeated T t l i a → IsOvertaken T t l i b → ⊥
not-both T t l i a b x y = let e : x.fence ≡ y.fence = next-fence-unique T t i x.fence y.fence x.next y.next in y.last a x.after (omega (arith, x.before, e)) x.is_flush

-- a flush has one reason
flush-reason-unique : (T : Recording) (t l i : ℕ) (r s : Reason) → IsFlushReason T t l i r → IsFlushReason T t l i s → r ≡ s
flush-reason-unique T t l i Safe Safe x y = refl
flush-reason-unique T t l i Safe Unfenced x y = absurd (omega (arith, x, y.marks))
flush-reason-unique T t l i Safe (Repeated b) x y = absurd (omega (arith, x, y.marks))
flush-reason-unique T t l i Safe (Overtaken b) x y = absurd (omega (arith, x, y.marks))
flush-reason-unique T t l i Unfenced Safe x y = absurd (omega (arith, y, x.marks))
flush-reason-unique T t l i Unfenced Unfenced x y = refl
flush-reason-unique T t l i Unfenced (Repeated b) x y = absurd (x.never y.fence y.next.later y.next.is_fence)
flush-reason-unique T t l i Unfenced (Overtaken b) x y = absurd (x.never y.fence y.next.later y.next.is_fence)
flush-reason-unique T t l i (Repeated a) Safe x y = absurd (omega (arith, y, x.marks))
flush-reason-unique T t l i (Repeated a) Unfenced x y = absurd (y.never x.fence x.next.later x.next.is_fence)
flush-reason-unique T t l i (Repeated a) (Repeated b) x y = repeated-unique T t l i a b x y
flush-reason-unique T t l i (Repeated a) (Overtaken b) x y = absurd (not-both T t l i a b x y)
flush-reason-unique T t l i (Overtaken a) Safe x y = absurd (omega (arith, y, x.marks))
flush-reason-unique T t l i (Overtaken a) Unfenced x y = absurd (y.never x.fence x.next.later x.next.is_fence)
flush-reason-unique T t l i (Overtaken a) (Repeated b) x y = absurd (not-both T t l i b a y x)
flush-reason-unique T t l i (Overtaken a) (Overtaken b) x y = overtaken-unique T t l i a b x y
flush-reason-unique T t l i Empty s x y = absurd x
flush-reason-unique T t l i Useless s x y = absurd x
flush-reason-unique T t l i c d x y = absurd y

-- a clflush has one reason
pub clflush-reason-safe : (T : Recording) (l i : ℕ) (r : Reason) → IsClflushReason T l i r → r ≡ Safe
clflush-reason-safe T l i Safe x = refl
clflush-reason-safe T l i a x = absurd x

-- the two reasons of a fence
pub fence-reasons : (T : Recording) (t j : ℕ) (r : Reason) → IsFenceReason T t j r → ((r ≡ Empty) × (HasFlushed T t j → ⊥)) ⊎ ((r ≡ Useless) × IsUseless T t j)
fence-reasons T t j Empty x = inl (refl, x)
fence-reasons T t j Useless x = inr (refl, x)
fence-reasons T t j a x = absurd x

-- a fence has one reason
fence-reason-unique : (T : Recording) (t j : ℕ) (r s : Reason) → IsFenceReason T t j r → IsFenceReason T t j s → r ≡ s
fence-reason-unique T t j r s x y = grind (arith, nat_tests, fence-reasons)

-- the reason of a flush
pub reason-flush : (T : Recording) (t l i : ℕ) (r : Reason) → IsAct T i (Flushes t l) → IsReason T i r → IsFlushReason T t l i r
reason-flush T t l i r is h = grind (arith, nat_tests, act-unique)

-- the reason of a clflush
reason-clflush : (T : Recording) (l i : ℕ) (r : Reason) → IsAct T i (Clflushes l) → IsReason T i r → IsClflushReason T l i r
reason-clflush T l i r is h = grind (arith, nat_tests, act-unique)

-- the reason of a fence
reason-fence : (T : Recording) (t i : ℕ) (r : Reason) → IsAct T i (Fences t) → IsReason T i r → IsFenceReason T t i r
reason-fence T t i r is h = grind (arith, nat_tests, act-unique)

-- an event has one reason
pub reason_is_unique : ReasonIsUnique
reason_is_unique T i r s (OfFlush t l is why) y = flush-reason-unique T t l i r s why (reason-flush T t l i s is y)
reason_is_unique T i r s (OfClflush l is why) y = clflush-reason-safe T l i r why ∙ sym (clflush-reason-safe T l i s (reason-clflush T l i s is y))
reason_is_unique T i r s (OfFence t is why) y = fence-reason-unique T t i r s why (reason-fence T t i s is y)
