-- Of the lines of a range the places from which their last stores are safe, line by line.
use Rattle.std.proofs.Common.{◌≡◌, ◌≢◌, ℕ, ◌+◌, ◌<◌, ◌≤◌, ◌==◌, ◌⊎◌, inl, inr, Bool, true, false, List, Option, Some, None, refl, sym, ap, subst, ◌∙◌, arith}
use Rattle.std.specs.Prelude.{◌&&◌, ◌||◌, not, if◌then◌else◌, nat_le}
use Rattle.std.proofs.lemmas.Bool.{and_parts, cases_lt, cases_eq, eq-eqb, eqb-true, ne_eqb}
use Rattle.pmt_laws.specs.Prelude.{Span, line_of, InSpan, Recording}
use Rattle.pmt_tables.specs.declared.spanned.Spanned.{Spanned}
use Rattle.pmt_tables.specs.Slots.{IsSpanned}
use Rattle.pmt_sweep.specs.declared.latest.Latest.{Latest}
use Rattle.pmt_sweep.specs.Judged.{IsLatest, Tells, AreSafeFrom, AreSafeFromBelow, IsLineSafeFrom, IsLineTold, no_place}
use Rattle.pmt_sweep.proofs.LineLemmas.{IsLineBare, bare-above, met}

module _ (T : Recording) (n : ℕ) (entries : List ℕ) (A : Span) where
  -- lines without stores
  pub from-skip : (low high : ℕ) (x : Latest) → ((l : ℕ) → low ≤ l → l < high → IsLineBare T n A l) → low ≤ high → AreSafeFromBelow T n entries A low x → AreSafeFromBelow T n entries A high x
  from-skip low high x bare order is = record { told = is.told; latest = is.latest; each = each; beyond = λ l more. is.beyond l (omega (arith, more, order)) }
    where
      each : (l : ℕ) → l < high → IsLineTold T n entries A l (is.told l)
      each l less = elim (cases_lt l low) [
        | inl before ↦ is.each l before
        | inr from ↦ subst (IsLineTold T n entries A l) (sym (is.beyond l from)) (bare l from less)
      ]

  -- one more line
  pub from-add : (line place : ℕ) (old new : Latest) → IsLineSafeFrom T n entries A line place → ((before after : ℕ → Option ℕ) → Tells before after line place → IsLatest before old → IsLatest after new) →
      AreSafeFromBelow T n entries A line old → AreSafeFromBelow T n entries A (line + 1) new
  from-add line place old new safe adds is = record { told = told; latest = adds is.told told tells is.latest; each = each; beyond = beyond }
    where
      told : ℕ → Option ℕ
      told l = if l == line then Some place else is.told l

      own : told line ≡ Some place
      own = ap (λ b. if b then Some place else is.told line) (eq-eqb line line refl)

      other : (l : ℕ) → l ≢ line → told l ≡ is.told l
      other l apart = ap (λ b. if b then Some place else is.told l) (ne_eqb l line apart)

      tells : Tells is.told told line place
      tells = record { fresh = is.beyond line (omega arith); told = own; others = other }

      each : (l : ℕ) → l < line + 1 → IsLineTold T n entries A l (told l)
      each l less = elim (cases_eq l line) [
        | inl same ↦ subst (λ m. IsLineTold T n entries A m (told m)) (sym same) (subst (IsLineTold T n entries A line) (sym own) safe)
        | inr apart ↦ subst (IsLineTold T n entries A l) (sym (other l apart)) (is.each l (go (cases_lt l line) apart))
      ]
        where
          go : (l < line) ⊎ (line ≤ l) → (l ≡ line → ⊥) → l < line
          go (inl before) apart = before
          go (inr from) apart = absurd (apart (omega (arith, less, from)))

      beyond : (l : ℕ) → line + 1 ≤ l → told l ≡ None
      beyond l more = other l (λ same. absurd (omega (arith, same, more))) ∙ is.beyond l (omega (arith, more))

  -- all lines of the range
  pub from-all : (end : ℕ) (B : Span) (s : Spanned) (x : Latest) → IsSpanned T.format A s → s.last < end → AreSafeFromBelow T n entries A end x → AreSafeFrom T n entries A B x
  from-all end B s x spanned past is = record { told = is.told; latest = is.latest; some = λ l p e. subst (IsLineTold T n entries A l) e (each l); all = inr each }
    where
      each : (l : ℕ) → IsLineTold T n entries A l (is.told l)
      each l = elim (cases_lt l end) [
        | inl before ↦ is.each l before
        | inr from ↦ subst (IsLineTold T n entries A l) (sym (is.beyond l from)) (bare-above T n l A s spanned (omega (arith, past, from)))
      ]

  -- a store that is not safe beside each line of the other range
  pub from-pending : (end : ℕ) (B : Span) (s : Spanned) (x : Latest) → IsSpanned T.format B s →
      ((x.first == no_place) && ((x.second == no_place) || not (nat_le s.first x.line && nat_le x.line s.last))) ≡ true → AreSafeFromBelow T n entries A end x → AreSafeFrom T n entries A B x
  from-pending end B s x spanned pending is = record { told = is.told; latest = is.latest; some = some; all = inl (λ b own. apart b own (cases_eq x.line (line_of T.format b))) }
    where
      some : (l p : ℕ) → is.told l ≡ Some p → IsLineSafeFrom T n entries A l p
      some l p e = elim (cases_lt l end) [
        | inl before ↦ subst (IsLineTold T n entries A l) e (is.each l before)
        | inr from ↦ let never : None ≡ Some p = sym (is.beyond l from) ∙ e in absurd (cc)
      ]

      parts : ((x.first == no_place) ≡ true) × (((x.second == no_place) || not (nat_le s.first x.line && nat_le x.line s.last)) ≡ true)
      parts = and_parts (x.first == no_place) ((x.second == no_place) || not (nat_le s.first x.line && nat_le x.line s.last)) pending

      first : is.told x.line ≡ Some no_place
      first = let e = eqb-true x.first no_place parts.0 in elim is.latest.first [ inl none ↦ absurd (omega (arith, none, e)) | inr at ↦ at ∙ ap Some e ]

      apart : (b : ℕ) → InSpan B b → (x.line ≡ line_of T.format b) ⊎ (x.line ≢ line_of T.format b) → (l : ℕ) × (l ≢ line_of T.format b) × (is.told l ≡ Some no_place)
      apart b own (inr other) = (x.line, other, first)
      apart b own (inl same) = go (x.second == no_place) refl (nat_le s.first x.line && nat_le x.line s.last) (met T x.line b B s spanned own (sym same)) parts.1
        where
          go : (t : Bool) → (x.second == no_place) ≡ t → (m : Bool) → m ≡ true → (t || not m) ≡ true → (l : ℕ) × (l ≢ line_of T.format b) × (is.told l ≡ Some no_place)
          go true e m meets all = elim is.latest.second [
            | inl none ↦ absurd (omega (arith, none, eqb-true x.second no_place e))
            | inr k ↦ (k.0, λ there. k.1 (there ∙ sym same), k.2 ∙ ap Some (eqb-true x.second no_place e))
          ]
          go false e true meets all = let never : false ≡ true = all in absurd (cc)
          go false e false meets all = let never : false ≡ true = meets in absurd (cc)
