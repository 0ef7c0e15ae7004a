-- What a line's table tells of a trace.
use Rattle.std.proofs.Common.{◌≡◌, ℕ, zero, suc, ◌-◌, ◌<◌, ◌≤◌, ◌⊎◌, ◌↔◌, inl, inr, true, false, List, length, get_or, Some, IfSome, sym, ap, subst, ◌∙◌, arith}
use Rattle.std.specs.Prelude.{nat_le}
use Rattle.std.proofs.lemmas.Bool.{leb-true}
use Rattle.std.proofs.lemmas.Bool.Decides.{leb_tells}
use Rattle.std.proofs.lemmas.List.Sorted.{IsPartitionedBy-leb, IsNonDecreasingBy-from_default}
use Rattle.pmt_laws.specs.Prelude.{line_of, Recording, IsTrace, history, count_at, front_at, up_to_last, IsPartitionPoint, IsPartitionedBy}
use Rattle.pmt_lines.specs.declared.step.Step.{Step}
use Rattle.pmt_lines.specs.Jobs.{Raise, LineFound, IsLineResult, RaisesBetween, IsJobOf, IsJob}
use Rattle.pmt_asserts.specs.declared.put.Put.{Put}
use Rattle.pmt_asserts.specs.Puts.{puts_of, no_put, put_at, last_in, IsLeastIn}
use Rattle.pmt_asserts.specs.Tables.{LieIn, EachFrom, PersistedBy, RankedBy, ComesFrom, IsLastAt, IsOldest, IsUnwritten}
use Rattle.pmt_asserts.proofs.TraceLemmas.{ArePuts, job-puts, counted, numbers-rise}
use Rattle.pmt_asserts.proofs.RaiseLemmas.{no_raise, front_after, front-raised, places-rise}
use Rattle.pmt_asserts.proofs.LastLemmas.{LastIs, NoLast, LastAt, last-is}

-- a test of an order that failed
past-from : (a b : ℕ) → nat_le a b ≡ false → b < a
past-from a b h = elim (leb_tells a b) [ inl t ↦ absurd (let never : true ≡ false = sym (t.0) ∙ h in cc) | inr t ↦ t.1 ]

-- the stores can be searched by their numbers
pub puts-partitioned : (T : Recording) (l : ℕ) (steps : List Step) (puts : List Put) (n : ℕ) → IsJobOf T l steps → puts ≡ puts_of steps → IsPartitionedBy (λ p. nat_le p.number n) puts
puts-partitioned T l steps puts n job is =
    let are = subst (ArePuts T l 0) (sym is) (job-puts T l steps job) in
    IsPartitionedBy-leb (λ (p : Put). p.number) puts n (IsNonDecreasingBy-from_default (λ (p : Put). p.number) puts no_put (numbers-rise T l puts are))

-- how many of them come by a place
pub count-found :
    (T : Recording) (l : ℕ) (steps : List Step) (puts : List Put) (n i : ℕ) → IsJobOf T l steps → puts ≡ puts_of steps → i ≤ length puts →
    IsPartitionPoint (λ p. nat_le p.number n ≡ true) (λ p. nat_le p.number n ≡ false) puts i → count_at T l n ≡ i
count-found T l steps puts n i job is within point =
    let are = subst (ArePuts T l 0) (sym is) (job-puts T l steps job) in
    counted T l n i puts are within (λ k h. leb-true (put_at puts k).number n (point.0 k no_put (omega arith) h)) (λ k h m. past-from (put_at puts k).number n (point.1 k no_put h m))

-- the raises are those of the line
raises-are : (T : Recording) (found : LineFound) (raises : List Raise) → raises ≡ found.raises → IsLineResult found → IsJob T found.job → RaisesBetween T found.job.line 0 (length T.events) raises
raises-are T found raises same right job = subst (RaisesBetween T found.job.line 0 (length T.events)) (sym same) (right.raises T job)

-- the raises can be searched by their places
pub raises-partitioned : (T : Recording) (found : LineFound) (raises : List Raise) (n : ℕ) → raises ≡ found.raises → IsLineResult found → IsJob T found.job → IsPartitionedBy (λ r. nat_le r.0 n) raises
raises-partitioned T found raises n same right job =
    IsPartitionedBy-leb (λ (r : Raise). r.0) raises n
    (IsNonDecreasingBy-from_default (λ (r : Raise). r.0) raises no_raise (places-rise T found.job.line 0 (length T.events) raises (raises-are T found raises same right job)))

-- the front after those that come by a place
pub front-found :
    (T : Recording) (found : LineFound) (raises : List Raise) (n i : ℕ) → raises ≡ found.raises → IsLineResult found → IsJob T found.job → n ≤ length T.events → i ≤ length raises →
    IsPartitionPoint (λ r. nat_le r.0 n ≡ true) (λ r. nat_le r.0 n ≡ false) raises i → front_at T found.job.line n ≡ front_after 0 raises i
front-found T found raises n i same right job by_end within point =
    front-raised T found.job.line 0 (length T.events) n i raises (raises-are T found raises same right job) (omega arith) by_end within
    (λ k h. leb-true (get_or raises k no_raise).0 n (point.0 k no_raise (omega arith) h)) (λ k h m. past-from (get_or raises k no_raise).0 n (point.1 k no_raise h m))

-- after some raises the front is that of the last one
pub front_after-some : (raises : List Raise) (i : ℕ) → 0 < i → front_after 0 raises i ≡ (get_or raises (i - 1) no_raise).1
front_after-some raises zero h = absurd (omega arith)
front_after-some raises (suc i) h = let e : suc i - 1 ≡ i = omega arith in ap (λ k. (get_or raises k no_raise).1) (sym e)

-- a rank is that of the last store to the byte, which is a store to the byte's line
pub ranked-last :
    (T : Recording) (l : ℕ) (steps : List Step) (i rank b : ℕ) → IsTrace T → IsJobOf T l steps → line_of T.format b ≡ l →
    ((last_in (puts_of steps) b (count_at T l i) ≤ rank) ↔ RankedBy T i rank b) × ((n : ℕ) → front_at T l n ≡ rank → RankedBy T i rank b ↔ PersistedBy T i n b)
ranked-last T l steps i rank b trace job lie = go (last-is T l (puts_of steps) b i trace (job-puts T l steps job) lie)
  where
    go : LastIs T l (puts_of steps) b i (count_at T l i) (history T i) → ((last_in (puts_of steps) b (count_at T l i) ≤ rank) ↔ RankedBy T i rank b) × ((n : ℕ) → front_at T l n ≡ rank → RankedBy T i rank b ↔ PersistedBy T i n b)
    go (NoLast none no_rank) = rw none ((λ h. tt, λ h. omega (arith, no_rank)), λ n front. (λ h. tt, λ h. tt))
    go (LastAt r some is w below by past) = rw some ((λ h. omega (arith, h, is), λ h. omega (arith, h, is)), λ n front. (λ h. omega (arith, h, front), λ h. omega (arith, h, front)))

-- so for all bytes of a part of the line
pub ranked-all :
    (T : Recording) (l : ℕ) (steps : List Step) (i rank low high : ℕ) → IsTrace T → IsJobOf T l steps → LieIn T l low high →
    ((b : ℕ) → low ≤ b → b < high → last_in (puts_of steps) b (count_at T l i) ≤ rank) → EachFrom low high (RankedBy T i rank)
ranked-all T l steps i rank low high trace job lie each b above below = (ranked-last T l steps i rank b trace job (lie b above below)).0.0 (each b above below)

pub persisted-ranked :
    (T : Recording) (l : ℕ) (steps : List Step) (i n rank low high : ℕ) → IsTrace T → IsJobOf T l steps → LieIn T l low high → front_at T l n ≡ rank →
    EachFrom low high (RankedBy T i rank) ↔ EachFrom low high (PersistedBy T i n)
persisted-ranked T l steps i n rank low high trace job lie front = (
  λ each b above below. ((ranked-last T l steps i rank b trace job (lie b above below)).1 n front).0 (each b above below),
  λ each b above below. ((ranked-last T l steps i rank b trace job (lie b above below)).1 n front).1 (each b above below),
)

-- the least rank is that of the first of the last stores
pub oldest-found :
    (T : Recording) (l : ℕ) (steps : List Step) (i low high m : ℕ) → IsTrace T → IsJobOf T l steps → LieIn T l low high →
    IsLeastIn (puts_of steps) (count_at T l i) low high m → IsOldest T i l low high (record { rank = m; number = (put_at (puts_of steps) (m - 1)).number })
oldest-found T l steps i low high m trace job lie is = record { first = first; reached = reached is.reached }
  where
    puts : List Put
    puts = puts_of steps

    are : ArePuts T l 0 (puts_of steps)
    are = job-puts T l steps job

    place : ℕ
    place = (put_at (puts_of steps) (m - 1)).number

    first : EachFrom low high (ComesFrom T i m place)
    first b above below = go (last-is T l puts b i trace are (lie b above below)) (is.bound b above below)
      where
        go : LastIs T l puts b i (count_at T l i) (history T i) → (last_in puts b (count_at T l i) ≡ 0) ⊎ (m ≤ last_in puts b (count_at T l i)) → ComesFrom T i m place b
        go (NoLast none rank) e = subst (λ o. IfSome o (λ y. (m ≤ y.rank) × ((n : ℕ) × (place ≤ n) × (up_to_last b (history T i) ≡ history T n)))) (sym none) tt
        go (LastAt r some rank w below' n past) (inl none) = absurd (omega (arith, rank, none))
        go (LastAt r some rank w below' n past) (inr more) =
            subst (λ o. IfSome o (λ y. (m ≤ y.rank) × ((n : ℕ) × (place ≤ n) × (up_to_last b (history T i) ≡ history T n)))) (sym some)
            (omega (arith, rank, more), ((put_at puts r).number, numbers-rise T l puts are (m - 1) r (omega (arith, rank, more)) w, past))

    reached : (b : ℕ) × (low ≤ b) × (b < high) × (last_in puts b (count_at T l i) ≡ m) → (b : ℕ) × (low ≤ b) × (b < high) × IsLastAt T i l m place b
    reached there = (there.0, there.1, there.2, go (last-is T l puts there.0 i trace are (lie there.0 there.1 there.2)))
      where
        go : LastIs T l puts there.0 i (count_at T l i) (history T i) → IsLastAt T i l m place there.0
        go (NoLast none rank) = absurd (omega (arith, rank, there.3, is.some))
        go (LastAt r some rank w below' n past) =
            let e : suc r ≡ m = sym rank ∙ there.3 in
            let f : r ≡ m - 1 = omega (arith, e) in
            record {
              store = some ∙ ap (λ k. Some (record { line = l; rank = k })) e;
              past = past ∙ ap (λ k. history T (put_at puts k).number) f;
              by_now = let g = ap (λ k. (put_at puts k).number) f in omega (arith, n, g);
            }

-- where no rank is found, no byte is written
pub oldest-none :
    (T : Recording) (l : ℕ) (steps : List Step) (i low high : ℕ) → IsTrace T → IsJobOf T l steps → LieIn T l low high →
    ((b : ℕ) → low ≤ b → b < high → last_in (puts_of steps) b (count_at T l i) ≡ 0) → EachFrom low high (IsUnwritten T i)
oldest-none T l steps i low high trace job lie none b above below = go (last-is T l (puts_of steps) b i trace (job-puts T l steps job) (lie b above below))
  where
    go : LastIs T l (puts_of steps) b i (count_at T l i) (history T i) → IsUnwritten T i b
    go (NoLast unwritten rank) = unwritten
    go (LastAt r some rank w below' n past) = absurd (omega (arith, rank, none b above below))
