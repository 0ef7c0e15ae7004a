-- Numbers of events that are told, as they are pushed.
use Rattle.std.proofs.Common.{◌≡◌, ℕ, suc, ◌+◌, ◌<◌, ◌≤◌, ◌⊎◌, inl, inr, Bool, true, false, List, [], ◌∷◌, ◌++◌, length, refl, sym, subst, ◌∙◌, arith}
use Rattle.std.specs.Prelude.{◌↔◌}
use Rattle.std.proofs.lemmas.Bool.{cases_eq, false≢true}
use Rattle.std.proofs.lemmas.List.{append-nil}
use Rattle.pmt_model.specs.Selections.{IsRising, Has}
use Rattle.pmt_hints.specs.Hints.{AreThose}
use Rattle.pmt_hints.specs.Claiming.{AreUpTo, if_told}

pub has-push : (ks : List ℕ) (n i : ℕ) → Has (ks ++ n ∷ []) i ↔ (Has ks i ⊎ (n ≡ i))
has-push [] n i = (λ h. elim h [ inl e ↦ inr e | inr none ↦ absurd none ], λ h. elim h [ inl none ↦ absurd none | inr e ↦ inl e ])
has-push (k ∷ ks) n i = (
  λ h. elim h [ inl e ↦ inl (inl e) | inr more ↦ elim ((has-push ks n i).0 more) [ inl x ↦ inl (inr x) | inr e ↦ inr e ] ],
  λ h. elim h [ inl first ↦ elim first [ inl e ↦ inl e | inr x ↦ inr ((has-push ks n i).1 (inl x)) ] | inr e ↦ inr ((has-push ks n i).1 (inr e)) ],
)

pub rising-push : (low n : ℕ) (ks : List ℕ) → IsRising low ks → ((k : ℕ) → Has ks k → k < n) → low < n → IsRising low (ks ++ n ∷ [])
rising-push low n [] rising below h = (h, tt)
rising-push low n (k ∷ ks) rising below h = (rising.0, rising-push k n ks rising.1 (λ j has. below j (inr has)) (below k (inl refl)))

pub upto-none : (P : ℕ → Type 0) → ((i : ℕ) → P i → 1 ≤ i) → AreUpTo P 0 []
upto-none P bound = (tt, λ i. (λ h. absurd h, λ h. absurd (omega (arith, h.0, bound i h.1))))

-- one event more
pub upto-more : (P : ℕ → Type 0) (n number : ℕ) (b : Bool) (old new : List ℕ) → number ≡ suc n → new ≡ old ++ if_told b number → (b ≡ true) ↔ P (suc n) → AreUpTo P n old → AreUpTo P (n + 1) new
upto-more P n number true old new same made told x =
    let next : n + 1 ≡ suc n = omega arith in
    rw (made, same, next) (
      rising-push 0 (suc n) old x.0 (λ k h. omega (arith, ((x.1 k).0 h).0)) (omega arith),
      λ i. (
        λ h. elim ((has-push old (suc n) i).0 h) [ inl early ↦ (omega (arith, ((x.1 i).0 early).0), ((x.1 i).0 early).1) | inr e ↦ (omega (arith, e), subst P e (told.0 refl)) ],
        λ h. elim (cases_eq i (suc n)) [ inl e ↦ (has-push old (suc n) i).1 (inr (sym e)) | inr apart ↦ (has-push old (suc n) i).1 (inl ((x.1 i).1 (omega (arith, h.0, apart), h.1))) ],
      ),
    )
upto-more P n number false old new same made told x =
    let next : n + 1 ≡ suc n = omega arith in
    let kept : new ≡ old = made ∙ append-nil old in
    rw (kept, next) (
      x.0,
      λ i. (
        λ h. (omega (arith, ((x.1 i).0 h).0), ((x.1 i).0 h).1),
        λ h. elim (cases_eq i (suc n)) [ inl e ↦ absurd (false≢true (told.1 (subst P e h.1))) | inr apart ↦ (x.1 i).1 (omega (arith, h.0, apart), h.1) ],
      ),
    )

-- after all events
pub upto-those : (P : ℕ → Type 0) (n : ℕ) (numbers : List ℕ) → ((i : ℕ) → P i → i ≤ n) → AreUpTo P n numbers → AreThose P numbers
upto-those P n numbers bound x = record { rising = x.0; just = λ i. (λ h. ((x.1 i).0 h).1, λ p. (x.1 i).1 (bound i p, p)) }

-- none of those that have the property
pub none-those : (P Q : ℕ → Type 0) (numbers : List ℕ) → AreThose P numbers → length numbers ≡ 0 → ((i : ℕ) → Q i → P i) → AreThose Q numbers
none-those P Q [] those none tells = record { rising = tt; just = λ i. (λ h. absurd h, λ q. (those.just i).1 (tells i q)) }
none-those P Q (k ∷ ks) those none tells = absurd (omega (arith, none))
