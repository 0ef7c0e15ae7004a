-- The earliest of the last stores to the bytes of a range, line by line.
use Rattle.std.proofs.Common.{◌≡◌, ℕ, ◌+◌, ◌<◌, ◌≤◌, inl, inr, Option, Some, None, IfSome, not, true, false, sym, ap, subst, ◌∙◌, arith}
use Rattle.std.specs.Prelude.{if◌then◌else◌, MatchOption, nat_eq}
use Rattle.std.proofs.lemmas.Bool.{cases_eq, false≢true, eq-eqb, eqb-true, not-false}
use Rattle.std.proofs.lemmas.Bool.Decides.{leb_tells}
use Rattle.std.proofs.lemmas.Option.{IfSome_then}
use Rattle.pmt_laws.specs.Prelude.{Span, line_of, Recording, history, last_store, up_to_last, InSpan, option_eq}
use Rattle.pmt_asserts.specs.declared.oldest.Oldest.{Oldest}
use Rattle.pmt_asserts.specs.declared.oldest.Earliest.{Earliest}
use Rattle.pmt_asserts.specs.Tables.{IsUnwritten, IsLastAt, IsOldestIn, IsOldestOfLine, IsTaken, ComesNoEarlier, IsEarliestOf, earlier_of}

-- The earliest of those in the lines below end.
pub record EarliestBelow (T : Recording) (i : ℕ) (skipped : Option ℕ) (A : Span) (end : ℕ) (e : Earliest) : Type 0 where
  pub first : (b : ℕ) → InSpan A b → line_of T.format b < end → IsTaken skipped (line_of T.format b) → ComesNoEarlier T i e.number b
  pub taken : IsTaken skipped e.line
  pub reached : (b : ℕ) × (rank : ℕ) × InSpan A b × (line_of T.format b ≡ e.line) × IsLastAt T i e.line rank e.number b

abbrev pub EarliestOfBelow : Recording → ℕ → Option ℕ → Span → ℕ → Option Earliest → Type 0
EarliestOfBelow T i skipped A end o =
    MatchOption o ((b : ℕ) → InSpan A b → line_of T.format b < end → IsTaken skipped (line_of T.format b) → IsUnwritten T i b) (EarliestBelow T i skipped A end)

-- an unwritten byte has no last store
unwritten-comes : (T : Recording) (i place b : ℕ) → IsUnwritten T i b → ComesNoEarlier T i place b
unwritten-comes T i place b none = subst (λ o. IfSome o (λ y. (n : ℕ) × (place ≤ n) × (up_to_last b (history T i) ≡ history T n))) (sym none) tt

-- what comes from a place on comes from an earlier one on
comes-earlier : (T : Recording) (i place other b : ℕ) → other ≤ place → ComesNoEarlier T i place b → ComesNoEarlier T i other b
comes-earlier T i place other b h c = IfSome_then (last_store b (history T i)) c (λ y there. (there.0, omega (arith, h, there.1), there.2))

-- what the first one of a line tells of the line's bytes
oldest-comes : (T : Recording) (i line : ℕ) (A : Span) (o : Oldest) → IsOldestIn T i line A o → (b : ℕ) → InSpan A b → line_of T.format b ≡ line → ComesNoEarlier T i o.number b
oldest-comes T i line A o is b j own = IfSome_then (last_store b (history T i)) (is.first b j own) (λ y r. r.1)

-- whether a line is left out, as it is asked
pub taken-by : (skipped : Option ℕ) (line : ℕ) → not (option_eq nat_eq skipped (Some line)) ≡ true → IsTaken skipped line
taken-by None line other = tt
taken-by (Some s) line other = λ same. false≢true (sym (ap not (eq-eqb s line (sym same))) ∙ other)

pub skipped-by : (skipped : Option ℕ) (line : ℕ) → not (option_eq nat_eq skipped (Some line)) ≡ false → skipped ≡ Some line
skipped-by None line same = absurd (false≢true (sym same))
skipped-by (Some s) line same = ap Some (eqb-true s line (not-false (nat_eq s line) same))

-- a line that is left out
pub earliest-skip : (T : Recording) (i line : ℕ) (A : Span) (o : Option Earliest) → EarliestOfBelow T i (Some line) A line o → EarliestOfBelow T i (Some line) A (line + 1) o
earliest-skip T i line A None is = λ b j below taken. is b j (omega (arith, below, taken)) taken
earliest-skip T i line A (Some e) is = record { first = λ b j below taken. is.first b j (omega (arith, below, taken)) taken; taken = is.taken; reached = is.reached }

-- one more line
pub earliest-more : (T : Recording) (i line : ℕ) (skipped : Option ℕ) (A : Span) (old : Option Earliest) (o : Option Oldest) → IsTaken skipped line → EarliestOfBelow T i skipped A line old → IsOldestOfLine T i line A o → EarliestOfBelow T i skipped A (line + 1) (earlier_of old line o)
earliest-more T i line skipped A None None open' is none = λ b j below taken. elim (cases_eq (line_of T.format b) line) [ inl own ↦ none b j own | inr other ↦ is b j (omega (arith, below, other)) taken ]
earliest-more T i line skipped A (Some e) None open' is none = record {
  first = λ b j below taken. elim (cases_eq (line_of T.format b) line) [ inl own ↦ unwritten-comes T i e.number b (none b j own) | inr other ↦ is.first b j (omega (arith, below, other)) taken ];
  taken = is.taken;
  reached = is.reached;
}
earliest-more T i line skipped A None (Some o) open' is oldest = record {
  first = λ b j below taken. elim (cases_eq (line_of T.format b) line) [ inl own ↦ oldest-comes T i line A o oldest b j own | inr other ↦ unwritten-comes T i o.number b (is b j (omega (arith, below, other)) taken) ];
  taken = open';
  reached = let r = oldest.reached in (r.0, o.rank, r.1, r.2, r.3);
}
earliest-more T i line skipped A (Some e) (Some o) open' is oldest =
    elim (leb_tells e.number o.number) [
      | inl before ↦ subst (λ t. EarliestOfBelow T i skipped A (line + 1) (if t then Some e else Some (record { line = line; number = o.number }))) (sym before.0) (record {
        first = λ b j below taken. elim (cases_eq (line_of T.format b) line) [ inl own ↦ comes-earlier T i o.number e.number b before.1 (oldest-comes T i line A o oldest b j own) | inr other ↦ is.first b j (omega (arith, below, other)) taken ];
        taken = is.taken;
        reached = is.reached;
      })
      | inr after ↦ subst (λ t. EarliestOfBelow T i skipped A (line + 1) (if t then Some e else Some (record { line = line; number = o.number }))) (sym after.0) (record {
        first = λ b j below taken. elim (cases_eq (line_of T.format b) line) [ inl own ↦ oldest-comes T i line A o oldest b j own | inr other ↦ comes-earlier T i e.number o.number b (omega (arith, after.1)) (is.first b j (omega (arith, below, other)) taken) ];
        taken = open';
        reached = let r = oldest.reached in (r.0, o.rank, r.1, r.2, r.3);
      })
    ]

-- after the last line
pub earliest-end : (T : Recording) (i end : ℕ) (skipped : Option ℕ) (A : Span) (o : Option Earliest) → ((b : ℕ) → InSpan A b → line_of T.format b < end) → EarliestOfBelow T i skipped A end o → IsEarliestOf T i skipped A o
earliest-end T i end skipped A None below is = λ b j taken. is b j (below b j) taken
earliest-end T i end skipped A (Some e) below is = record { first = λ b j taken. is.first b j (below b j) taken; taken = is.taken; reached = is.reached }
