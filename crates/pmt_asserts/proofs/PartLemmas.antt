-- The bytes of a range in a line.
use Rattle.std.proofs.Common.{◌≡◌, ℕ, ◌+◌, ◌*◌, ◌/◌, ◌<◌, ◌≤◌, ◌↔◌, ap, subst, arith}
use Rattle.std.specs.Prelude.{max, min, Option, None, Some}
use Rattle.std.proofs.lemmas.Nat.{div_below, le-div}
use Rattle.std.proofs.Math.Nat.{lt-div-mul-add, div-mul-le_self}
use Rattle.pmt_laws.specs.Prelude.{Layout, Span, line_of, IsFormat, Recording, InSpan}
use Rattle.pmt_asserts.specs.declared.oldest.Oldest.{Oldest}
use Rattle.pmt_asserts.specs.declared.part.Part.{Part}
use Rattle.pmt_asserts.specs.Tables.{IsOldestOf, IsOldestOfLine}
use Rattle.pmt_lines.proofs.TraceLemmas.{size-some}

-- the bytes of a range in a line are those from the later start to the earlier end
pub part-is :
    (f : Layout) (A : Span) (l : ℕ) → IsFormat f → (b : ℕ) →
    ((max A.addr (l * f.line_size) ≤ b) × (b < min (A.addr + A.len) (l * f.line_size + f.line_size))) ↔ (InSpan A b × (line_of f b ≡ l))
part-is f A l is b = (there, back)
  where
    n : ℕ
    n = f.line_size

    some : 0 < f.line_size
    some = size-some f is

    there : (max A.addr (l * f.line_size) ≤ b) × (b < min (A.addr + A.len) (l * f.line_size + f.line_size)) → InSpan A b × (line_of f b ≡ l)
    there h =
        let low = le-div l b f.line_size some (omega (arith, h.0)) in
        let next : (l + 1) * f.line_size ≡ l * f.line_size + f.line_size = omega arith in
        let high = div_below b f.line_size (l + 1) some (omega (arith, h.1, next)) in
        ((omega (arith, h.0), omega (arith, h.1)), omega (arith, low, high))

    back : InSpan A b × (line_of f b ≡ l) → (max A.addr (l * f.line_size) ≤ b) × (b < min (A.addr + A.len) (l * f.line_size + f.line_size))
    back h =
        let e : b / f.line_size * f.line_size ≡ l * f.line_size = ap (λ q. q * f.line_size) h.1 in
        let low = div-mul-le_self b f.line_size in
        let high = lt-div-mul-add {a = b} {b = f.line_size} some in
        (omega (arith, h.0.0, low, e), omega (arith, h.0.1, high, e))

-- The addresses of p are those of the range in the line.
abbrev pub IsPartOf : Layout → Span → ℕ → Part → Type 0
IsPartOf f A l p = (b : ℕ) → ((p.low ≤ b) × (b < p.high)) ↔ (InSpan A b × (line_of f b ≡ l))

-- the same of an equal format
pub part-moved : (f g : Layout) (A : Span) (l : ℕ) (p : Part) → f ≡ g → IsPartOf f A l p → IsPartOf g A l p
part-moved f g A l p e is = subst (λ (x : Layout). IsPartOf x A l p) e is

-- the first of the last stores to the addresses of the part
pub oldest-in-part : (T : Recording) (i l : ℕ) (A : Span) (p : Part) (o : Option Oldest) → IsPartOf T.format A l p → IsOldestOf T i l p.low p.high o → IsOldestOfLine T i l A o
oldest-in-part T i l A p None part is = λ b j own. let r = (part b).1 (j, own) in is b r.0 r.1
oldest-in-part T i l A p (Some o) part is = record {
  first = λ b j own. let r = (part b).1 (j, own) in is.first b r.0 r.1;
  reached = let r = is.reached in let q = (part r.0).0 (r.1, r.2) in (r.0, q.0, q.1, r.3);
}
