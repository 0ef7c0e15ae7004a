-- The next entry of a report, and its lines, part by part.
use Rattle.std.proofs.Common.{◌≡◌, ℕ, ◌+◌, ◌≤◌, Bool, true, false, if◌then◌else◌, List, [], ◌∷◌, ◌++◌, length, get_or, drop, take, inl, inr, ◌⊎◌, ◌-◌, ◌<◌, refl, sym, ap, ◌∙◌, subst, append_assoc, arith}
use Rattle.std.proofs.lemmas.List.{drop_all, take_all}
use Rattle.pmt_laws.specs.Prelude.{Finding, Verdict, reported_at, flat_map}
use Rattle.pmt_text.specs.Spelling.{Puts}
use Rattle.pmt_text.proofs.LinePutting.{put-then, put-fewer, whole-line}
use Rattle.pmt_report.specs.Reports.{verdict_entry, finding_entry, is_before, verdicts_before, verdicts_from, entries}

-- the next verdict stands before all findings that are left
pub verdict-next : (v : Verdict) (vs : List Verdict) (fs : List Finding) → is_before v fs ≡ true → entries fs (v ∷ vs) ≡ verdict_entry v ++ entries fs vs
unfolding entries
verdict-next v vs [] before = refl
verdict-next v vs (f ∷ fs) before =
    let n = reported_at f in
    let earlier : List ℕ = flat_map verdict_entry (verdicts_before n vs) in
    let later : List ℕ = entries fs (verdicts_from n vs) in
    ap (λ (b : Bool). flat_map verdict_entry (if b then v ∷ verdicts_before n vs else []) ++ finding_entry f ++ entries fs (if b then verdicts_from n vs else v ∷ vs)) before
    ∙ ap (λ (xs : List ℕ). xs ++ later) (append_assoc (verdict_entry v) earlier (finding_entry f))
    ∙ append_assoc (verdict_entry v) (earlier ++ finding_entry f) later

-- the next finding stands before all verdicts that are left
pub finding-next : (f : Finding) (fs : List Finding) (v : Verdict) (vs : List Verdict) → is_before v (f ∷ fs) ≡ false → entries (f ∷ fs) (v ∷ vs) ≡ finding_entry f ++ entries fs (v ∷ vs)
unfolding entries
finding-next f fs v vs after =
    let n = reported_at f in
    ap (λ (b : Bool). flat_map verdict_entry (if b then v ∷ verdicts_before n vs else []) ++ finding_entry f ++ entries fs (if b then verdicts_from n vs else v ∷ vs)) after

pub finding-alone : (f : Finding) (fs : List Finding) → entries (f ∷ fs) [] ≡ finding_entry f ++ entries fs []
unfolding entries
finding-alone f fs = refl

-- the next verdict was spelled, or the next finding, or nothing is left
pub verdict-told : (fs : List Finding) (vs : List Verdict) (d : Verdict) (line new : List ℕ) (most start : ℕ) → 1 ≤ length vs → is_before (get_or vs 0 d) fs ≡ true → length line ≡ 128
    → Puts line 128 (verdict_entry (get_or vs 0 d)) most start new → entries fs vs ≡ drop start new ++ entries fs (take (length vs - 1) (drop 1 vs))
verdict-told fs [] d line new most start some before long put = absurd (omega (arith, some))
verdict-told fs (v ∷ vs) d line new most start some before long put =
    verdict-next v vs fs before ∙ ap (λ (l : List ℕ). l ++ entries fs vs) (sym (whole-line put long))
    ∙ ap (λ (r : List Verdict). drop start new ++ entries fs r) (sym (take_all (length (v ∷ vs) - 1) vs (omega arith)))

finding-first : (f : Finding) (fs : List Finding) (vs : List Verdict) (d : Verdict) → (length vs < 1) ⊎ (is_before (get_or vs 0 d) (f ∷ fs) ≡ false) → entries (f ∷ fs) vs ≡ finding_entry f ++ entries fs vs
finding-first f fs [] d after = finding-alone f fs
finding-first f fs (v ∷ vs) d (inl none) = absurd (omega (arith, none))
finding-first f fs (v ∷ vs) d (inr after) = finding-next f fs v vs after

pub finding-told : (fs : List Finding) (vs : List Verdict) (e : Finding) (d : Verdict) (line new : List ℕ) (most start : ℕ) → 1 ≤ length fs
    → (length vs < 1) ⊎ (is_before (get_or vs 0 d) fs ≡ false) → length line ≡ 128 → Puts line 128 (finding_entry (get_or fs 0 e)) most start new
    → entries fs vs ≡ drop start new ++ entries (take (length fs - 1) (drop 1 fs)) vs
finding-told [] vs e d line new most start some after long put = absurd (omega (arith, some))
finding-told (f ∷ fs) vs e d line new most start some after long put =
    finding-first f fs vs d after ∙ ap (λ (l : List ℕ). l ++ entries fs vs) (sym (whole-line put long))
    ∙ ap (λ (r : List Finding). drop start new ++ entries r vs) (sym (take_all (length (f ∷ fs) - 1) fs (omega arith)))

pub none-told : (fs : List Finding) (vs : List Verdict) (line : List ℕ) → length line ≡ 128 → entries fs vs ≡ drop 128 line ++ entries fs vs
none-told fs vs line long = ap (λ (l : List ℕ). l ++ entries fs vs) (sym (drop_all 128 line (omega (arith, long))))

pub none-left : (fs : List Finding) (vs : List Verdict) → length fs ≤ 0 → length vs ≤ 0 → entries fs vs ≡ []
unfolding entries
none-left [] [] a b = refl
none-left [] (v ∷ vs) a b = absurd (omega (arith, b))
none-left (f ∷ fs) vs a b = absurd (omega (arith, a))

-- ---- Lines, part by part

-- two to five parts, the last first
pub put-2 : {old s1 s2 : List ℕ} {at p1 p2 m1 m2 : ℕ} {f1 f2 : List ℕ} (most : ℕ) → Puts old at f1 m1 p1 s1 → Puts s1 p1 f2 m2 p2 s2 → m1 + m2 ≤ most → Puts old at (f2 ++ f1) most p2 s2
put-2 {old = old} {s1 = s1} {s2 = s2} {at = at} {p1 = p1} {p2 = p2} {m1 = m1} {m2 = m2} {f1 = f1} {f2 = f2} most a b few =
    put-fewer most (put-then old s1 s2 at p1 p2 (m1 + m2) m1 m2 f1 f2 a b refl) few

pub put-3 : {old s1 s2 s3 : List ℕ} {at p1 p2 p3 m1 m2 m3 : ℕ} {f1 f2 f3 : List ℕ} (most : ℕ) →
    Puts old at f1 m1 p1 s1 → Puts s1 p1 f2 m2 p2 s2 → Puts s2 p2 f3 m3 p3 s3 → m1 + m2 + m3 ≤ most → Puts old at (f3 ++ f2 ++ f1) most p3 s3
put-3 {old = old} {s2 = s2} {s3 = s3} {at = at} {p2 = p2} {p3 = p3} {m1 = m1} {m2 = m2} {m3 = m3} {f1 = f1} {f2 = f2} {f3 = f3} most a b c few =
    subst (λ (xs : List ℕ). Puts old at xs most p3 s3) (sym (append_assoc f3 f2 f1)) (put-2 {at = at} {p1 = p2} {m1 = m1 + m2} {f1 = f2 ++ f1} most (put-2 (m1 + m2) a b (omega arith)) c few)

pub put-4 : {old s1 s2 s3 s4 : List ℕ} {at p1 p2 p3 p4 m1 m2 m3 m4 : ℕ} {f1 f2 f3 f4 : List ℕ} (most : ℕ) →
    Puts old at f1 m1 p1 s1 → Puts s1 p1 f2 m2 p2 s2 → Puts s2 p2 f3 m3 p3 s3 → Puts s3 p3 f4 m4 p4 s4 → m1 + m2 + m3 + m4 ≤ most → Puts old at (f4 ++ f3 ++ f2 ++ f1) most p4 s4
put-4 {old = old} {s3 = s3} {s4 = s4} {at = at} {p3 = p3} {p4 = p4} {m1 = m1} {m2 = m2} {m3 = m3} {f1 = f1} {f2 = f2} {f3 = f3} {f4 = f4} most a b c d few =
    subst (λ (xs : List ℕ). Puts old at xs most p4 s4) (ap (λ (xs : List ℕ). f4 ++ xs) (append_assoc f3 f2 f1) ∙ sym (append_assoc f4 f3 (f2 ++ f1)) ∙ sym (append_assoc (f4 ++ f3) f2 f1))
    (put-2 {at = at} {p1 = p3} {m1 = m1 + m2 + m3} {f1 = f3 ++ f2 ++ f1} most (put-3 (m1 + m2 + m3) a b c (omega arith)) d few)

pub put-5 : {old s1 s2 s3 s4 s5 : List ℕ} {at p1 p2 p3 p4 p5 m1 m2 m3 m4 m5 : ℕ} {f1 f2 f3 f4 f5 : List ℕ} (most : ℕ) →
    Puts old at f1 m1 p1 s1 → Puts s1 p1 f2 m2 p2 s2 → Puts s2 p2 f3 m3 p3 s3 → Puts s3 p3 f4 m4 p4 s4 → Puts s4 p4 f5 m5 p5 s5 → m1 + m2 + m3 + m4 + m5 ≤ most →
    Puts old at (f5 ++ f4 ++ f3 ++ f2 ++ f1) most p5 s5
put-5 {old = old} {s1 = s1} {s5 = s5} {at = at} {p1 = p1} {p5 = p5} {m1 = m1} {m2 = m2} {m3 = m3} {m4 = m4} {m5 = m5} {f1 = f1} {f2 = f2} {f3 = f3} {f4 = f4} {f5 = f5} most a b c d e few =
    put-fewer most (put-then old s1 s5 at p1 p5 (m1 + (m2 + m3 + m4 + m5)) m1 (m2 + m3 + m4 + m5) f1 (f5 ++ f4 ++ f3 ++ f2) a (put-4 (m2 + m3 + m4 + m5) b c d e (omega arith)) refl) (omega (arith, few))
