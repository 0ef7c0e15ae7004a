-- How many events of each kind there are, and how many of the threads have made one.
use Rattle.std.proofs.Common.{◌≡◌, ℕ, suc, ◌+◌, ◌<◌, ◌⊎◌, inl, inr, Bool, true, false, ◌||◌, ◌==◌, cond, take, set, ◌++◌, List, [], ◌∷◌, length, get_or, count_by, refl, sym, ap, subst, ◌∙◌, arith}
use Rattle.std.specs.List.{list_any, range_with_len}
use Rattle.std.proofs.lemmas.Bool.{cases_eq, eq-eqb, ne_eqb, or_left, or_right}
use Rattle.std.proofs.lemmas.List.{get_or-set_same, get_or-set_other, take_more}
use Rattle.std.proofs.lemmas.List.Folds.{list_any-append}
use Rattle.std.proofs.lemmas.List.Sums.{sum_by-cons, count_by_more_yes, count_by_more_no}
use Rattle.pmt_model.specs.declared.event.Event.{Event}
use Rattle.pmt_explanation.specs.declared.counting.Counts.{Counts}
use Rattle.pmt_causes.specs.Late.{is_fence, is_flush, is_store}
use Rattle.pmt_explanation.specs.Summing.{has_made, threads_of}

counted : (f : ℕ → Bool) (a : ℕ) (xs : List Bool) → ((k : ℕ) → k < length xs → get_or xs k false ≡ f (a + k)) → count_by (λ (b : Bool). b) xs ≡ count_by f (range_with_len a (length xs))
counted f a [] h = refl
counted f a (x ∷ xs) h =
    let first : a + 0 ≡ a = omega arith in
    let here : x ≡ f a = h 0 (omega arith) ∙ ap f first in
    let next : (k : ℕ) → a + suc k ≡ (a + 1) + k = λ k. omega arith in
    let rest : count_by (λ (b : Bool). b) xs ≡ count_by f (range_with_len (a + 1) (length xs)) = counted f (a + 1) xs (λ k below. h (suc k) (omega arith) ∙ ap f (next k)) in
    sum_by-cons (λ (b : Bool). cond b 1 0) x xs
    ∙ ap (λ (b : Bool). cond b 1 0 + count_by (λ (b : Bool). b) xs) here
    ∙ ap (λ (n : ℕ). cond (f a) 1 0 + n) rest
    ∙ sym (sum_by-cons (λ (t : ℕ). cond (f t) 1 0) a (range_with_len (a + 1) (length xs)))

pub threads-counted : (events : List Event) (seen : List Bool) → length seen ≡ 256 → ((t : ℕ) → t < 256 → get_or seen t false ≡ has_made events t) →
    count_by (λ (b : Bool). b) seen ≡ threads_of events
unfolding threads_of
threads-counted events seen all each =
    subst (λ (n : ℕ). count_by (λ (b : Bool). b) seen ≡ count_by (has_made events) (range_with_len 0 n)) all
    (counted (has_made events) 0 seen (λ k below.
    let at : k ≡ 0 + k = omega arith in
    each k (omega (arith, all, below)) ∙ ap (has_made events) at))

-- So many of the events are stores, flushes and fences.
pub record AreCounted (events : List Event) (c : Counts) : Type 0 where
  pub stores : c.stores ≡ count_by (λ (e : Event). is_store e.op) events
  pub flushes : c.flushes ≡ count_by (λ (e : Event). is_flush e.op) events
  pub fences : c.fences ≡ count_by (λ (e : Event). is_fence e.op) events

count-more : (p : Event → Bool) (es : List Event) (i : ℕ) (d e : Event) → i < length es → e ≡ get_or es i d → count_by p (take (i + 1) es) ≡ count_by p (take i es) + cond (p e) 1 0
count-more p es i d e within is = go (p (get_or es i d)) refl ∙ sym (ap (λ (x : Event). count_by p (take i es) + cond (p x) 1 0) is)
  where
    go : (b : Bool) → p (get_or es i d) ≡ b → count_by p (take (i + 1) es) ≡ count_by p (take i es) + cond (p (get_or es i d)) 1 0
    go true own = count_by_more_yes p es i d within own ∙ sym (ap (λ (t : Bool). count_by p (take i es) + cond t 1 0) own)
    go false other =
        let none : count_by p (take i es) + 0 ≡ count_by p (take i es) = omega arith in
        count_by_more_no p es i d within other ∙ sym (ap (λ (t : Bool). count_by p (take i es) + cond t 1 0) other ∙ none)

pub counted-more : (es : List Event) (i : ℕ) (d e : Event) (old new : Counts) → i < length es → e ≡ get_or es i d → AreCounted (take i es) old →
    new.stores ≡ old.stores + cond (is_store e.op) 1 0 → new.flushes ≡ old.flushes + cond (is_flush e.op) 1 0 → new.fences ≡ old.fences + cond (is_fence e.op) 1 0 →
    AreCounted (take (i + 1) es) new
counted-more es i d e old new within is before stores flushes fences = record {
  stores = stores ∙ ap (λ (n : ℕ). n + cond (is_store e.op) 1 0) before.stores ∙ sym (count-more (λ (x : Event). is_store x.op) es i d e within is);
  flushes = flushes ∙ ap (λ (n : ℕ). n + cond (is_flush e.op) 1 0) before.flushes ∙ sym (count-more (λ (x : Event). is_flush x.op) es i d e within is);
  fences = fences ∙ ap (λ (n : ℕ). n + cond (is_fence e.op) 1 0) before.fences ∙ sym (count-more (λ (x : Event). is_fence x.op) es i d e within is);
}

-- ---- Which threads have made an event

or-none : (b : Bool) → (b || false) ≡ b
or-none true = refl
or-none false = refl

pub seen-more : (es : List Event) (i : ℕ) (e : Event) (seen : List Bool) → i < length es → e ≡ get_or es i e → length seen ≡ 256 →
    ((t : ℕ) → t < 256 → get_or seen t false ≡ has_made (take i es) t) → (t : ℕ) → t < 256 → get_or (set seen e.thread true) t false ≡ has_made (take (i + 1) es) t
seen-more es i e seen within is all each t below = own (cases_eq t e.thread) ∙ sym (ap (λ (xs : List Event). has_made xs t) more ∙ list_any-append made (take i es) (e ∷ []))
  where
    made : Event → Bool
    made = λ (x : Event). x.thread == t

    more : take (i + 1) es ≡ take i es ++ e ∷ []
    more = take_more es i e within ∙ ap (λ (x : Event). take i es ++ x ∷ []) (sym is)

    own : (t ≡ e.thread) ⊎ (t ≡ e.thread → ⊥) → get_or (set seen e.thread true) t false ≡ (has_made (take i es) t || list_any (λ (x : Event). x.thread == t) (e ∷ []))
    own (inl same) =
        ap (λ (n : ℕ). get_or (set seen n true) t false) (sym same)
        ∙ get_or-set_same seen t true false (omega (arith, all, below))
        ∙ sym (or_right (has_made (take i es) t) (list_any (λ (x : Event). x.thread == t) (e ∷ [])) (or_left (e.thread == t) false (eq-eqb e.thread t (sym same))))
    own (inr apart) =
        get_or-set_other seen e.thread t true false apart
        ∙ each t below
        ∙ sym (ap (λ (b : Bool). has_made (take i es) t || (b || false)) (ne_eqb e.thread t (λ same. apart (sym same))) ∙ or-none (has_made (take i es) t))
