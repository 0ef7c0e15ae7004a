-- The crash at a place, and at any place after the last event.
use Rattle.std.proofs.Common.{◌≡◌, ℕ, ◌<◌, ◌≤◌, ◌⊎◌, inl, inr, length, map, reverse, min, Option, None, Some, refl, sym, ap, subst, ◌∙◌, arith}
use Rattle.std.specs.Prelude.{◌==◌, if◌then◌else◌}
use Rattle.std.proofs.lemmas.Bool.{cases_lt}
use Rattle.std.proofs.lemmas.List.{take_all}
use Rattle.pmt_explain.specs.Prelude.{count, Recording, act, history, front, persisted_at}
use Rattle.pmt_explain.specs.declared.crash.Crash.{Crash}
use Rattle.pmt_explain.specs.Crashes.{Numbers, flush_at, IsLastCompleted, IsCrashAt}
use Rattle.pmt_explain.proofs.CompletedLemmas.{persisted-by, persisted-within}

-- a crash from the last complete flushes
pub crash-new : (T : Recording) (n : ℕ) (full : Option ℕ) (flushes : Numbers) → n ≤ length T.events → ((l : ℕ) → IsLastCompleted T l n (flush_at flushes l)) →
    IsCrashAt T n full (record { place = n; full = full; flushes = flushes })
crash-new T n full flushes within lasts = record {
  within = within;
  same = refl;
  by_place = λ l. persisted-within T l n (flush_at flushes l) full (lasts l);
  persisted = λ l. persisted-by T l n (flush_at flushes l) full (lasts l);
}

-- a place after the last event has the history of that of the last event
pub history-min : (T : Recording) (n : ℕ) → history T (min n (length T.events)) ≡ history T n
history-min T n = go (cases_lt (length T.events) n)
  where
    go : (length T.events < n) ⊎ (n ≤ length T.events) → history T (min n (length T.events)) ≡ history T n
    go (inl past) =
        let m = min n (length T.events) in
        ap (λ xs. reverse (map (act T.format) xs)) (take_all m T.events (omega arith) ∙ sym (take_all n T.events (omega arith)))
    go (inr within) = let e : min n (length T.events) ≡ n = omega arith in ap (history T) e

-- with the same history the same stores are persisted
pub persisted-same : (T : Recording) (m n l : ℕ) (full : Option ℕ) → history T m ≡ history T n → persisted_at T m full l ≡ persisted_at T n full l
persisted-same T m n l None e = ap (front l) e
persisted-same T m n l (Some k) e = ap (λ h. if l == k then count l h else front l h) e

-- the crash of a failure
pub crash-of : (T : Recording) (m n : ℕ) (full told : Option ℕ) (c : Crash) → m ≡ min n (length T.events) → told ≡ full → IsCrashAt T m told c → IsCrashAt T n full c
crash-of T m n full told c place line x =
    let same : history T m ≡ history T n = ap (history T) place ∙ history-min T n in
    let y : IsCrashAt T m full c = subst (λ o. IsCrashAt T m o c) line x in
    record {
      within = y.within;
      same = y.same ∙ same;
      by_place = y.by_place;
      persisted = λ l. sym (persisted-same T m n l full same) ∙ y.persisted l;
    }
