-- How the table of a line is made.
use Rattle.std.proofs.Common.{◌≡◌, ℕ, ◌+◌, ◌-◌, ◌<◌, ◌≤◌, ◌⊎◌, ◌↔◌, inl, inr, true, List, [], ◌∷◌, ◌++◌, length, get_or, take, refl, sym, ap, subst, ◌∙◌, arith}
use Rattle.std.specs.Prelude.{◌^◌, Contains, All}
use Rattle.pmt_laws.specs.Prelude.{IsPermutation, IsNonDecreasingBy, AllByRecursion}
use Rattle.std.proofs.lemmas.List.Sorted.{IsPermutation-sym, Contains-permutation}
use Rattle.std.proofs.lemmas.Bool.{cases_lt}
use Rattle.std.proofs.lemmas.List.{take_more}
use Rattle.std.proofs.lemmas.List.Elements.{Contains-append_left, Contains-push, Contains-push_cases, All-from_recursion}
use Rattle.pmt_lines.specs.declared.step.StepKind.{StepKind}
use Rattle.pmt_lines.specs.declared.step.StepKind.TheVariants.{Store, Flush, Clflush, Fence}
use Rattle.pmt_lines.specs.declared.step.Step.{Step}
use Rattle.pmt_asserts.specs.declared.put.Put.{Put}
use Rattle.pmt_asserts.specs.declared.put.Write.{Write}
use Rattle.pmt_asserts.specs.Puts.{covers, with_put, puts_of, put_at, key_of, IsWriteOf, Fits, AreWritesOf}
use Rattle.pmt_asserts.proofs.RankLemmas.{covers-range, range-covers}
use Rattle.pmt_lines.specs.Jobs.{AreSteps, IsStepKind}

-- one store, if it is one, before others
with_put-append : (n : ℕ) (k : StepKind) (ps qs : List Put) → with_put n k (ps ++ qs) ≡ with_put n k ps ++ qs
with_put-append n (Store addr len) ps qs = refl
with_put-append n Flush ps qs = refl
with_put-append n Clflush ps qs = refl
with_put-append n Fence ps qs = refl

-- the stores of two lists of steps
puts_of-append : (xs ys : List Step) → puts_of (xs ++ ys) ≡ puts_of xs ++ puts_of ys
puts_of-append [] ys = refl
puts_of-append (s ∷ xs) ys = ap (with_put s.number s.kind) (puts_of-append xs ys) ∙ with_put-append s.number s.kind (puts_of xs) (puts_of ys)

-- one more step
pub puts_of-more : (steps : List Step) (i : ℕ) (d s : Step) → i < length steps → s ≡ get_or steps i d → puts_of (take (i + 1) steps) ≡ puts_of (take i steps) ++ puts_of (s ∷ [])
puts_of-more steps i d s h e = ap puts_of (take_more steps i d h) ∙ puts_of-append (take i steps) (get_or steps i d ∷ []) ∙ ap (λ x. puts_of (take i steps) ++ puts_of (x ∷ [])) (sym e)

-- What the list of writes has: those before, and those of one store below a byte.
abbrev pub HasUpTo : List Write → List Write → ℕ → ℕ → ℕ → Type 0
HasUpTo old new rank low b = (w : Write) → Contains new w ↔ (Contains old w ⊎ ((w.rank ≡ rank) × (low ≤ w.byte) × (w.byte < b)))

pub has-none : (xs : List Write) (rank low : ℕ) → HasUpTo xs xs rank low low
has-none xs rank low w = (λ h. inl h, λ h. elim h [ inl g ↦ g | inr g ↦ absurd (omega (arith, g.1, g.2)) ])

pub has-more : (old new : List Write) (rank low b : ℕ) → low ≤ b → HasUpTo old new rank low b → HasUpTo old (new ++ record { byte = b; rank = rank } ∷ []) rank low (b + 1)
has-more old new rank low b h is w = (there, back)
  where
    there : Contains (new ++ record { byte = b; rank = rank } ∷ []) w → Contains old w ⊎ ((w.rank ≡ rank) × (low ≤ w.byte) × (w.byte < b + 1))
    there c =
        elim (Contains-push_cases new (record { byte = b; rank = rank }) w c) [
          | inl before ↦ elim ((is w).0 before) [ inl g ↦ inl g | inr g ↦ inr (g.0, g.1, omega (arith, g.2)) ]
          | inr same ↦ let r : w.rank ≡ rank = ap (λ (v : Write). v.rank) (sym same) in let e : b ≡ w.byte = ap (λ (v : Write). v.byte) same in inr (r, omega (arith, e), omega (arith, e))
        ]

    back : Contains old w ⊎ ((w.rank ≡ rank) × (low ≤ w.byte) × (w.byte < b + 1)) → Contains (new ++ record { byte = b; rank = rank } ∷ []) w
    back (inl g) = Contains-append_left new (record { byte = b; rank = rank } ∷ []) w ((is w).1 (inl g))
    back (inr g) =
        elim (cases_lt w.byte b) [
          | inl less ↦ Contains-append_left new (record { byte = b; rank = rank } ∷ []) w ((is w).1 (inr (g.0, g.1, less)))
          | inr more ↦ let e : b ≡ w.byte = omega (arith, g.2) in let same : record { byte = b; rank = rank } ≡ w = ap (λ n. record { byte = n; rank = rank }) e ∙ ap (λ n. record { byte = w.byte; rank = n }) (sym g.0) in
              subst (Contains (new ++ record { byte = b; rank = rank } ∷ [])) same (Contains-push new (record { byte = b; rank = rank }))
        ]

-- all writes of the store
pub has-all : (old new : List Write) (rank b : ℕ) (p : Put) → p.addr + p.len ≤ b → (p.addr ≤ p.addr + p.len → b ≤ p.addr + p.len) → HasUpTo old new rank p.addr b → (w : Write) → Contains new w ↔ (Contains old w ⊎ ((w.rank ≡ rank) × (covers p w.byte ≡ true)))
has-all old new rank b p past fits is w =
    let up = fits (omega arith) in (
      λ c. elim ((is w).0 c) [ inl g ↦ inl g | inr g ↦ inr (g.0, covers-range p w.byte g.1 (omega (arith, g.2, up))) ],
      λ h. elim h [ inl g ↦ (is w).1 (inl g) | inr g ↦ let r = range-covers p w.byte g.1 in (is w).1 (inr (g.0, r.0, omega (arith, r.1, past))) ],
    )

-- The list has the writes of the first i stores.
abbrev pub HasWrites : List Put → List Write → ℕ → Type 0
HasWrites puts writes i = (w : Write) → Contains writes w ↔ (IsWriteOf puts w × (w.rank ≤ i))

pub writes-more :
    (puts : List Put) (old new : List Write) (i : ℕ) (p : Put) → p ≡ put_at puts i → i < length puts → HasWrites puts old i →
    ((w : Write) → Contains new w ↔ (Contains old w ⊎ ((w.rank ≡ i + 1) × (covers p w.byte ≡ true)))) → HasWrites puts new (i + 1)
writes-more puts old new i p read h is added w = (there, back)
  where
    there : Contains new w → IsWriteOf puts w × (w.rank ≤ i + 1)
    there c =
        elim ((added w).0 c) [
          | inl g ↦ let r = (is w).0 g in (r.0, omega (arith, r.1))
          | inr g ↦ let k : i ≡ w.rank - 1 = omega (arith, g.0) in (
            record {
              some = omega (arith, g.0);
              within = omega (arith, g.0, h);
              writes = subst (λ n. covers (put_at puts n) w.byte ≡ true) k (subst (λ q. covers q w.byte ≡ true) read g.1);
            },
            omega (arith, g.0),
          )
        ]

    back : IsWriteOf puts w × (w.rank ≤ i + 1) → Contains new w
    back g =
        elim (cases_lt i w.rank) [
          | inl last ↦ let r : w.rank ≡ i + 1 = omega (arith, g.1) in let k : w.rank - 1 ≡ i = omega (arith, r) in
              (added w).1 (inr (r, subst (λ q. covers q w.byte ≡ true) (sym read) (subst (λ n. covers (put_at puts n) w.byte ≡ true) k g.0.writes)))
          | inr before ↦ (added w).1 (inl ((is w).1 (g.0, before)))
        ]

-- the stores of a job end within the addresses
pub puts-fit : (low : ℕ) (steps : List Step) → AreSteps low steps → All Fits (puts_of steps)
puts-fit low steps are = All-from_recursion Fits (puts_of steps) (each low steps are)
  where
    one : (n : ℕ) (k : StepKind) (ps : List Put) → IsStepKind k → AllByRecursion Fits ps → AllByRecursion Fits (with_put n k ps)
    one n (Store addr len) ps is rest = (omega (arith, is.0, is.2), rest)
    one n Flush ps is rest = rest
    one n Clflush ps is rest = rest
    one n Fence ps is rest = rest

    each : (from : ℕ) (ss : List Step) → AreSteps from ss → AllByRecursion Fits (puts_of ss)
    each from [] a = tt
    each from (s ∷ ss) a = one s.number s.kind (puts_of ss) a.2 (each s.number ss a.3)

-- sorted, they are all there in order
pub writes-sorted : (puts : List Put) (old new : List Write) (i : ℕ) → length puts < 2 ^ 64 → length puts ≤ i → HasWrites puts old i → IsPermutation old new → IsNonDecreasingBy key_of new → AreWritesOf puts new
writes-sorted puts old new i few past has moved sorted = record {
  few = few;
  sorted = sorted;
  just = λ w c. ((has w).0 (Contains-permutation new old w (IsPermutation-sym old new moved) c)).0;
  all = λ w is. Contains-permutation old new w moved ((has w).1 (is, omega (arith, is.within, past)));
}
