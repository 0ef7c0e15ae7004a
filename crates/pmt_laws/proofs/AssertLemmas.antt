-- The verdicts of the two assertions, by the fronts.
use Rattle.std.proofs.Common.{◌≡◌, ℕ, ◌≤◌, ◌==◌, true, false, if◌then◌else◌, List, [], ◌∷◌, ◌++◌, Option, Some, None, IfSome, IsSomeAnd, inl, inr, refl, sym, ◌∙◌, ap, subst, le_trans, le_of_eq, arith}
use Rattle.std.proofs.lemmas.Option.{IfSome_then}
use Rattle.std.proofs.lemmas.Bool.Decides.{eqb_tells, nat_tests}
use Rattle.pmt_laws.specs.Prelude.{Act, Stores, Clflushes, Fences, count, writes, State, Ends, IsMoment, front, InBox, Placed, last_store, IsPersisted, InSpan, PersistPasses, OrderedPasses, up_to_last, NoLater}
use Rattle.pmt_laws.specs.ModelLaws.{PersistByFronts, OrderedByFronts}
use Rattle.pmt_laws.proofs.Histories.{count-grows, front-le-count, front-grows}
use Rattle.pmt_laws.proofs.BoxLemmas.{box-ends, ends-box, leads-box, count-store}
use Rattle.pmt_laws.proofs.MomentsOfRuns.{passes-split, split-passes}

-- No run ends with less persisted than the front.
pub front-le-persisted : (h : List Act) (s : State) → Ends h s → (l : ℕ) → front l h ≤ s.persisted l
front-le-persisted h s ends l = (ends-box h s ends l).0

-- Some run ends with no more persisted than the fronts.
pub least_end : (h : List Act) → (s : State) × Ends h s × ((l : ℕ) → s.persisted l ≡ front l h)
least_end h = box-ends h (λ l. front l h) (λ l. (omega arith, front-le-count l h))

-- isPersist passes exactly if the front covers the last store to each byte.
pub persist_by_fronts : PersistByFronts
persist_by_fronts h A = (covered, passes)
  where
    covered : PersistPasses h A → (a : ℕ) → InSpan A a → IfSome (last_store a h) (λ x. x.rank ≤ front x.line h)
    covered p a i =
        let e = least_end h in
        IfSome_then (last_store a h) (p e.0 e.1 a i) (λ x q. omega (arith, q, e.2 x.line))

    passes : ((a : ℕ) → InSpan A a → IfSome (last_store a h) (λ x. x.rank ≤ front x.line h)) → PersistPasses h A
    passes f s ends a i = IfSome_then (last_store a h) (f a i) (λ x q. le_trans q (front-le-persisted h s ends x.line))

-- A history goes on from its part up to the last store to a byte.
pub up_to_last_suffix : (b : ℕ) (h : List Act) → (newer : List Act) × (h ≡ newer ++ up_to_last b h)
up_to_last_suffix b [] = ([], refl)
up_to_last_suffix b (Stores k w ∷ h) =
    elim (writes w b) as (λ t. (newer : List Act) × (Stores k w ∷ h ≡ newer ++ (if t then Stores k w ∷ h else up_to_last b h))) [
      | true ↦ ([], refl)
      | false ↦ let r = up_to_last_suffix b h in (Stores k w ∷ r.0, ap (λ g. Stores k w ∷ g) r.1)
    ]
up_to_last_suffix b (a ∷ h) = let r = up_to_last_suffix b h in (a ∷ r.0, ap (λ g. a ∷ g) r.1)

-- Newer acts take no store away.
pub count-append : (l : ℕ) (newer h : List Act) → count l h ≤ count l (newer ++ h)
count-append l [] h = omega arith
count-append l (a ∷ newer) h = le_trans (count-append l newer h) (count-grows l a (newer ++ h))

-- The rank of the last store to a byte is the number of stores to its line, up to it.
pub last_rank : (b : ℕ) (h : List Act) → IfSome (last_store b h) (λ y. count y.line (up_to_last b h) ≡ y.rank)
last_rank b [] = tt
last_rank b (hd ∷ tl) = grind (arith, nat_tests, count-store, last_rank b tl)

-- The front up to the last store to a byte is no more than the front.
pub front-up_to_last : (l b : ℕ) (h : List Act) → front l (up_to_last b h) ≤ front l h
front-up_to_last l b [] = omega arith
front-up_to_last l b (Stores k w ∷ h) =
    elim (writes w b) as (λ t. front l (if t then Stores k w ∷ h else up_to_last b h) ≤ front l h) [ true ↦ omega arith | false ↦ front-up_to_last l b h ]
front-up_to_last l b (Clflushes k ∷ h) = le_trans (front-up_to_last l b h) (front-grows l (Clflushes k) h)
front-up_to_last l b (Fences t ∷ h) = omega (arith, front-up_to_last l b h)
front-up_to_last l b (a ∷ h) = front-up_to_last l b h

-- Where the last store to a byte is among the older acts, the front up to it is no more than theirs.
pub front_by_then :
    (b l : ℕ) (newer h : List Act) →
    IfSome (last_store b (newer ++ h)) (λ y. y.rank ≤ count y.line h → front l (up_to_last b (newer ++ h)) ≤ front l h)
front_by_then b l [] h = IfSome_then (last_store b h) (last_rank b h) (λ y e among. front-up_to_last l b h)
front_by_then b l (hd ∷ tl) h = grind (arith, nat_tests, last_rank, front-up_to_last, count-append, front_by_then b l tl h)

-- Counts of persisted stores after a history that ends with store y: y is persisted, and no more than has to be.
abbrev pub just_persisted : Placed → List Act → ℕ → ℕ
just_persisted y h l = if y.line == l then y.rank else front l h

-- For the line of y they have its rank.
just_persisted-own : (y : Placed) (h : List Act) → just_persisted y h y.line ≡ y.rank
just_persisted-own y h = grind (arith, eqb_tells y.line y.line)

-- They lie in the box of the history, so some run ends with them.
just_persisted_in_box : (h : List Act) (y : Placed) → count y.line h ≡ y.rank → InBox h (just_persisted y h)
just_persisted_in_box h y e l =
    elim (eqb_tells y.line l) [
      | inl same ↦ let f = front-le-count l h in let c : count l h ≡ y.rank = ap (λ k. count k h) (sym same.1) ∙ e in rw (same.0) (omega (arith, f, c), omega (arith, c))
      | inr other ↦ rw (other.0) (omega arith, front-le-count l h)
    ]

-- What that run has persisted persists no later than y.
no_later : (h : List Act) (x y : Placed) → x.rank ≤ just_persisted y h x.line → NoLater h x y
no_later h x y p =
    elim (eqb_tells y.line x.line) [
      | inl same ↦ inl (sym same.1, rw (same.0) at p)
      | inr other ↦ inr (rw (other.0) at p)
    ]

-- Where y is persisted, and x no later than y, x is persisted: h is the history up to y, s a moment from y on.
no_later-persisted : (h : List Act) (s : State) (x y : Placed) → NoLater h x y → IsPersisted s.persisted y → ((l : ℕ) → front l h ≤ s.persisted l) → IsPersisted s.persisted x
no_later-persisted h s x y (inl same) p f = let e = ap s.persisted same.0 in omega (arith, e, same.1, p)
no_later-persisted h s x y (inr r) p f = le_trans r (f x.line)

-- A fact about the value that is there, if there is one.
at_value : {X : Type 0} {o : Option X} (Q : X → Type 0) (x : X) → o ≡ Some x → IfSome o Q → Q x
at_value Q x e q = subst (λ o. IfSome o Q) e q

-- The value that is there, with its fact.
value_of : {X : Type 0} (o : Option X) {P : X → Type 0} → IsSomeAnd o P → (x : X) × (o ≡ Some x) × P x
value_of None p = absurd p
value_of (Some x) p = (x, refl, p)

-- The front up to the last store y to a byte, at a moment of a run that has y persisted.
front_at_moment :
    (h : List Act) (s : State) (b l : ℕ) (y : Placed) → IsMoment h s → last_store b h ≡ Some y → IsPersisted s.persisted y →
    front l (up_to_last b h) ≤ s.persisted l
front_at_moment h s b l y passes e now =
    let split = passes-split h s passes in
    let box = leads-box s passes.1 in
    let among : y.rank ≤ count y.line s.history = le_trans now (box y.line).1 in
    let P : List Act → Type 0 = λ g. IfSome (last_store b g) (λ z. z.rank ≤ count z.line s.history → front l (up_to_last b g) ≤ front l s.history) in
    let as_split : P h = subst P (sym split.1) (front_by_then b l split.0 s.history) in
    le_trans (at_value (λ z. z.rank ≤ count z.line s.history → front l (up_to_last b h) ≤ front l s.history) y e as_split among) (box l).0

-- A moment of a run of the history at which store y, the last one to a byte, is persisted, and no more than has to be.
moment_of :
    (h : List Act) (b : ℕ) (y : Placed) → last_store b h ≡ Some y →
    (s : State) × IsMoment h s × ((l : ℕ) → s.persisted l ≡ just_persisted y (up_to_last b h) l)
moment_of h b y e =
    let g = up_to_last b h in
    let rank : count y.line g ≡ y.rank = at_value (λ z. count z.line g ≡ z.rank) y e (last_rank b h) in
    let run = box-ends g (just_persisted y g) (just_persisted_in_box g y rank) in
    let split = up_to_last_suffix b h in
    (run.0, split-passes h run.0 run.1.0 split.0 (split.1 ∙ ap (λ r. split.0 ++ r) (sym run.1.1)), run.2)

-- isOrderedBefore passes exactly if each last store to a byte of A persists no later than each last store to a byte of B.
pub ordered_by_fronts : OrderedByFronts
ordered_by_fronts h A B = (ordered, passes)
  where
    ordered :
        OrderedPasses h A B → (b : ℕ) → InSpan B b →
        IfSome (last_store b h) (λ y. (a : ℕ) → InSpan A a → IfSome (last_store a h) (λ x. NoLater (up_to_last b h) x y))
    ordered p b i = go (last_store b h) refl
      where
        go : (o : Option Placed) → last_store b h ≡ o → IfSome o (λ y. (a : ℕ) → InSpan A a → IfSome (last_store a h) (λ x. NoLater (up_to_last b h) x y))
        go None e = tt
        go (Some y) e = λ a j.
            let m = moment_of h b y e in
            let now : y.rank ≤ (m.0).persisted y.line = le_of_eq (sym (m.2 y.line ∙ just_persisted-own y (up_to_last b h))) in
            let there : IsSomeAnd (last_store b h) (IsPersisted (m.0).persisted) = subst (λ o. IsSomeAnd o (IsPersisted (m.0).persisted)) (sym e) now in
            IfSome_then (last_store a h) (p m.0 m.1 b i there a j) (λ x q. no_later (up_to_last b h) x y (le_trans q (le_of_eq (m.2 x.line))))

    passes :
        ((b : ℕ) → InSpan B b → IfSome (last_store b h) (λ y. (a : ℕ) → InSpan A a → IfSome (last_store a h) (λ x. NoLater (up_to_last b h) x y))) →
        OrderedPasses h A B
    passes f s m b i there a j =
        let y = value_of (last_store b h) there in
        let all = at_value (λ z. (c : ℕ) → InSpan A c → IfSome (last_store c h) (λ x. NoLater (up_to_last b h) x z)) y.0 y.1 (f b i) in
        IfSome_then (last_store a h) (all a j) (λ x q. no_later-persisted (up_to_last b h) s x y.0 q y.2 (λ l. front_at_moment h s b l y.0 m y.1 y.2))
