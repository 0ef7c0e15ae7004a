-- Counting by partners: a list whose members have partners of their own in another list is no longer than that.
use Rattle.std.proofs.Common.{◌≡◌, ◌≢◌, ℕ, suc, ◌<◌, ◌≤◌, inl, inr, Bool, true, false, List, [], ◌∷◌, length, refl, sym, ◌∙◌, subst, arith, eqb-true}
use Rattle.std.proofs.lemmas.Bool.{eqb-false}
use Rattle.std.specs.Prelude.{◌==◌, if◌then◌else◌}
use Rattle.pmt_laws.specs.Prelude.{IsRising, Has, without}
use Rattle.pmt_laws.proofs.CutLemmas.{has-above}

-- a member other than k stays in the list without k
pub has-without : (S : List ℕ) (k s : ℕ) → s ≢ k → Has S s → Has (without S k) s
has-without [] k s other h = h
has-without (j ∷ js) k s other (inl e) = go (j == k) refl
  where
    go : (b : Bool) → (j == k) ≡ b → Has (if b then without js k else j ∷ without js k) s
    go true is = absurd (other (sym e ∙ eqb-true j k is))
    go false is = inl e
has-without (j ∷ js) k s other (inr h) = go (j == k) (has-without js k s other h)
  where
    go : (b : Bool) → Has (without js k) s → Has (if b then without js k else j ∷ without js k) s
    go true rest = rest
    go false rest = inr rest

-- a list is no longer without k
pub length-without : (S : List ℕ) (k : ℕ) → length (without S k) ≤ length S
length-without [] k = omega arith
length-without (j ∷ js) k = go (j == k) (length-without js k)
  where
    go : (b : Bool) → length (without js k) ≤ length js → length (if b then without js k else j ∷ without js k) ≤ suc (length js)
    go true less = omega arith
    go false less = omega arith

-- a list is shorter without a member
pub length-without_member : (S : List ℕ) (k : ℕ) → Has S k → length (without S k) < length S
length-without_member [] k h = absurd h
length-without_member (j ∷ js) k (inl e) = go (j == k) refl
  where
    go : (b : Bool) → (j == k) ≡ b → length (if b then without js k else j ∷ without js k) < suc (length js)
    go true is = omega (arith, length-without js k)
    go false is = absurd (eqb-false j k is e)
length-without_member (j ∷ js) k (inr h) = go (j == k) (length-without_member js k h)
  where
    go : (b : Bool) → length (without js k) < length js → length (if b then without js k else j ∷ without js k) < suc (length js)
    go true less = omega arith
    go false less = omega arith

-- a rising list whose members have partners in S, none of them the partner of two, is no longer than S
pub pigeonhole : (IsPartner : ℕ → ℕ → Type 0) (low : ℕ) (K S : List ℕ) → IsRising low K →
    ((k : ℕ) → Has K k → (s : ℕ) × Has S s × IsPartner k s) → ((j k s : ℕ) → IsPartner j s → IsPartner k s → j ≡ k) → length K ≤ length S
pigeonhole IsPartner low [] S rising partners own = omega arith
pigeonhole IsPartner low (k ∷ ks) S rising partners own =
    let first : (s : ℕ) × Has S s × IsPartner k s = partners k (inl refl) in
    let others : (j : ℕ) → Has ks j → (s : ℕ) × Has (without S first.0) s × IsPartner j s = λ j h. other j h (partners j (inr h)) in
    omega (arith, length-without_member S first.0 first.1, pigeonhole IsPartner k ks (without S first.0) rising.1 others own)
  where
    other : (j : ℕ) → Has ks j → (s : ℕ) × Has S s × IsPartner j s → (s : ℕ) × Has (without S (partners k (inl refl)).0) s × IsPartner j s
    other j h p =
        let first : (s : ℕ) × Has S s × IsPartner k s = partners k (inl refl) in
        let apart : p.0 ≢ first.0 = λ e. absurd (omega (arith, has-above k ks j rising.1 h, own k j first.0 first.2 (subst (IsPartner j) e p.2))) in
        (p.0, has-without S first.0 p.0 apart p.1, p.2)
