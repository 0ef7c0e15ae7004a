-- A list in order is known by its members, so a trace has one list of findings, and one of verdicts.
use Rattle.std.proofs.Common.{◌≡◌, ℕ, ◌<◌, ◌↔◌, inl, inr, ◌⊎◌, List, [], ◌∷◌, refl, sym, ◌∙◌, ap₂, subst, arith}
use Rattle.std.proofs.lemmas.Bool.Decides.{nat_tests}
use Rattle.pmt_laws.specs.Prelude.{Finding, Overwritten, NeverPersisted, Verdict, Recording, ComesFirst, IsReportedBefore, InReportOrder, HasFinding, IsFindings, HasVerdict, InEventOrder, IsVerdicts}
use Rattle.pmt_laws.specs.ModelLaws.{AnalysisIsUnique}
use Rattle.pmt_laws.proofs.KeepLemmas.{keep_is_unique}

-- ---- Lists in order

abbrev Has : {A : Type 0} → List A → A → Type 0
Has [] x = ⊥
Has (y ∷ ys) x = (y ≡ x) ⊎ Has ys x

-- Each member comes before all that follow it.
abbrev Ordered : {A : Type 0} → (A → A → Type 0) → List A → Type 0
Ordered R [] = Unit {0}
Ordered R (x ∷ xs) = ((y : _) → Has xs y → R x y) × Ordered R xs

-- What stands before another never stands after it.
abbrev Apart : {A : Type 0} → (A → A → Type 0) → Type 0
Apart R = (x y : _) → R x y → R y x → ⊥

same_members : {A : Type 0} (R : A → A → Type 0) → Apart R → (xs ys : List A) → Ordered R xs → Ordered R ys → ((x : A) → Has xs x → Has ys x) → ((x : A) → Has ys x → Has xs x) → xs ≡ ys
same_members R apart [] [] o p there back = refl
same_members R apart [] (y ∷ ys) o p there back = absurd (back y (inl refl))
same_members R apart (x ∷ xs) [] o p there back = absurd (there x (inl refl))
same_members {A = A} R apart (x ∷ xs) (y ∷ ys) o p there back =
    let same : x ≡ y = first (there x (inl refl)) (back y (inl refl)) in
    ap₂ (λ z zs. z ∷ zs) same (same_members R apart xs ys o.1 p.1 (λ z h. later_there same z h (there z (inr h))) (λ z h. later_back same z h (back z (inr h))))
  where
    first : Has (y ∷ ys) x → Has (x ∷ xs) y → x ≡ y
    first (inl e) other = sym e
    first (inr h) (inl e) = e
    first (inr h) (inr g) = absurd (apart x y (o.0 y g) (p.0 x h))

    later_there : x ≡ y → (z : A) → Has xs z → Has (y ∷ ys) z → Has ys z
    later_there same z h (inl e) =
        let again : R x x = subst (λ w. R x w) (sym e ∙ sym same) (o.0 z h) in
        absurd (apart x x again again)
    later_there same z h (inr g) = g

    later_back : x ≡ y → (z : A) → Has ys z → Has (x ∷ xs) z → Has xs z
    later_back same z h (inl e) =
        let again : R y y = subst (λ w. R y w) (sym e ∙ same) (p.0 z h) in
        absurd (apart y y again again)
    later_back same z h (inr g) = g

-- ---- Findings

comes_apart : (f g : Finding) → ComesFirst f g → ComesFirst g f → ⊥
comes_apart (Overwritten j i) (Overwritten k m) h b = omega arith
comes_apart (Overwritten j i) (NeverPersisted m w) h b = b
comes_apart a c h b = h

comes_after : (f g h : Finding) → ComesFirst f g → ComesFirst g h → ComesFirst f h
comes_after c d h a b = grind (arith, nat_tests)

reported_apart : Apart IsReportedBefore
reported_apart f g (inl a) (inl b) = omega arith
reported_apart f g (inl a) (inr b) = omega (arith, b.0)
reported_apart f g (inr a) (inl b) = omega (arith, a.0)
reported_apart f g (inr a) (inr b) = comes_apart f g a.1 b.1

reported_after : (f g h : Finding) → IsReportedBefore f g → IsReportedBefore g h → IsReportedBefore f h
reported_after f g h (inl a) (inl b) = inl (omega arith)
reported_after f g h (inl a) (inr b) = inl (omega (arith, b.0))
reported_after f g h (inr a) (inl b) = inl (omega (arith, a.0))
reported_after f g h (inr a) (inr b) = inr (a.0 ∙ b.0, comes_after f g h a.1 b.1)

ordered_findings : (fs : List Finding) → InReportOrder fs → Ordered IsReportedBefore fs
ordered_findings [] o = tt
ordered_findings (f ∷ []) o = (λ g h. absurd h, tt)
ordered_findings (f ∷ g ∷ fs) o = grind (arith, nat_tests, reported_after, ordered_findings (g ∷ fs) o.1)

has_finding : (fs : List Finding) (f : Finding) → Has fs f ↔ HasFinding fs f
has_finding [] f = (λ h. h, λ h. h)
has_finding (hd ∷ tl) f = grind (arith, nat_tests, has_finding tl f)

one_list_of_findings : (T : Recording) (fs gs : List Finding) → IsFindings T fs → IsFindings T gs → fs ≡ gs
one_list_of_findings T fs gs a b =
    same_members IsReportedBefore reported_apart fs gs (ordered_findings fs a.ordered) (ordered_findings gs b.ordered)
    (λ f h. (has_finding gs f).1 ((b.just f).1 ((a.just f).0 ((has_finding fs f).0 h))))
    (λ f h. (has_finding fs f).1 ((a.just f).1 ((b.just f).0 ((has_finding gs f).0 h))))

-- ---- Verdicts

abbrev IsEarlier : Verdict → Verdict → Type 0
IsEarlier v w = v.event < w.event

earlier_apart : Apart IsEarlier
earlier_apart v w a b = omega arith

all_later : (low : ℕ) (vs : List Verdict) (v : Verdict) → InEventOrder low vs → Has vs v → low < v.event
all_later low [] v o h = absurd h
all_later low (w ∷ vs) v o (inl e) = subst (λ (x : Verdict). low < x.event) e o.0
all_later low (w ∷ vs) v o (inr h) = omega (arith, o.0, all_later w.event vs v o.1 h)

ordered_verdicts : (low : ℕ) (vs : List Verdict) → InEventOrder low vs → Ordered IsEarlier vs
ordered_verdicts low [] o = tt
ordered_verdicts low (v ∷ vs) o = (λ w h. all_later v.event vs w o.1 h, ordered_verdicts v.event vs o.1)

has_verdict : (vs : List Verdict) (v : Verdict) → Has vs v ↔ HasVerdict vs v
has_verdict [] v = (λ h. h, λ h. h)
has_verdict (hd ∷ tl) v = grind (arith, nat_tests, has_verdict tl v)

one_list_of_verdicts : (T : Recording) (vs ws : List Verdict) → IsVerdicts T vs → IsVerdicts T ws → vs ≡ ws
one_list_of_verdicts T vs ws a b =
    same_members IsEarlier earlier_apart vs ws (ordered_verdicts 0 vs a.ordered) (ordered_verdicts 0 ws b.ordered)
    (λ v h. (has_verdict ws v).1 ((b.just v).1 ((a.just v).0 ((has_verdict vs v).0 h))))
    (λ v h. (has_verdict vs v).1 ((a.just v).1 ((b.just v).0 ((has_verdict ws v).0 h))))

pub analysis_is_unique : AnalysisIsUnique
analysis_is_unique T m n fs gs vs ws K L a b =
    (a.touched ∙ sym b.touched, one_list_of_findings T fs gs a.found b.found, one_list_of_verdicts T vs ws a.judged b.judged, keep_is_unique T K L a.kept b.kept)
