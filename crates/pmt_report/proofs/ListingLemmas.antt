-- The entries of a report, one by one.
use Rattle.std.proofs.Common.{◌≡◌, ℕ, ◌<◌, ◌≤◌, inl, inr, Bool, true, false, if◌then◌else◌, List, [], ◌∷◌, ◌++◌, refl, sym, ap, ◌∙◌, append_assoc, arith}
use Rattle.std.specs.Prelude.{nat_lt}
use Rattle.std.proofs.lemmas.Bool.{ltb-true, ltb-false}
use Rattle.std.proofs.lemmas.List.{append-nil}
use Rattle.std.proofs.lemmas.List.Concat.{flat_map-cons}
use Rattle.pmt_laws.specs.Prelude.{Finding, Verdict, reported_at, IsReportedBefore, InReportOrder, InEventOrder, flat_map}
use Rattle.pmt_report.specs.Reports.{finding_entry, verdict_entry, verdicts_before, verdicts_from, entries, Entry, OfFinding, OfVerdict, line_of_entry, findings_in, verdicts_in, GoByEvent, EntriesAreListing}
use Rattle.pmt_report.proofs.EntryLemmas.{entries-finding, entries-end}

-- The verdicts, and then more entries.
abbrev then_entries : List Verdict → List Entry → List Entry
then_entries [] es = es
then_entries (v ∷ vs) es = OfVerdict v ∷ then_entries vs es

-- The entries as a list.
abbrev listing : List Finding → List Verdict → List Entry
listing [] vs = then_entries vs []
listing (f ∷ fs) vs = then_entries (verdicts_before (reported_at f) vs) (OfFinding f ∷ listing fs (verdicts_from (reported_at f) vs))

-- ---- The text

text-then : (vs : List Verdict) (es : List Entry) → flat_map line_of_entry (then_entries vs es) ≡ flat_map verdict_entry vs ++ flat_map line_of_entry es
text-then [] es = refl
text-then (v ∷ vs) es =
    ap (λ (t : List ℕ). verdict_entry v ++ t) (text-then vs es) ∙ sym (append_assoc (verdict_entry v) (flat_map verdict_entry vs) (flat_map line_of_entry es))

text-listing : (fs : List Finding) (vs : List Verdict) → flat_map line_of_entry (listing fs vs) ≡ entries fs vs
text-listing [] vs = text-then vs [] ∙ append-nil (flat_map verdict_entry vs) ∙ sym (entries-end vs)
text-listing (f ∷ fs) vs =
    let later : List Entry = listing fs (verdicts_from (reported_at f) vs) in
    let earlier : List ℕ = flat_map verdict_entry (verdicts_before (reported_at f) vs) in
    let line : flat_map line_of_entry (OfFinding f ∷ later) ≡ finding_entry f ++ flat_map line_of_entry later = flat_map-cons line_of_entry (OfFinding f) later in
    let rest : flat_map line_of_entry later ≡ entries fs (verdicts_from (reported_at f) vs) = text-listing fs (verdicts_from (reported_at f) vs) in
    text-then (verdicts_before (reported_at f) vs) (OfFinding f ∷ later) ∙ ap (λ (t : List ℕ). earlier ++ t) (line ∙ ap (λ (t : List ℕ). finding_entry f ++ t) rest)
    ∙ sym (append_assoc earlier (finding_entry f) (entries fs (verdicts_from (reported_at f) vs))) ∙ sym (entries-finding f fs vs)

-- ---- The findings and the verdicts

findings-then : (vs : List Verdict) (es : List Entry) → findings_in (then_entries vs es) ≡ findings_in es
findings-then [] es = refl
findings-then (v ∷ vs) es = findings-then vs es

findings-listing : (fs : List Finding) (vs : List Verdict) → findings_in (listing fs vs) ≡ fs
findings-listing [] vs = findings-then vs []
findings-listing (f ∷ fs) vs =
    findings-then (verdicts_before (reported_at f) vs) (OfFinding f ∷ listing fs (verdicts_from (reported_at f) vs))
    ∙ ap (λ (gs : List Finding). f ∷ gs) (findings-listing fs (verdicts_from (reported_at f) vs))

verdicts-then : (vs : List Verdict) (es : List Entry) → verdicts_in (then_entries vs es) ≡ vs ++ verdicts_in es
verdicts-then [] es = refl
verdicts-then (v ∷ vs) es = ap (λ (ws : List Verdict). v ∷ ws) (verdicts-then vs es)

-- The verdicts before an event and the others are all.
before_and_from : (n : ℕ) (vs : List Verdict) → verdicts_before n vs ++ verdicts_from n vs ≡ vs
before_and_from n [] = refl
before_and_from n (v ∷ vs) = go (nat_lt v.event n) (before_and_from n vs)
  where
    go : (b : Bool) → verdicts_before n vs ++ verdicts_from n vs ≡ vs →
        (if b then v ∷ verdicts_before n vs else []) ++ (if b then verdicts_from n vs else v ∷ vs) ≡ v ∷ vs
    go true all = ap (λ (ws : List Verdict). v ∷ ws) all
    go false all = refl

verdicts-listing : (fs : List Finding) (vs : List Verdict) → verdicts_in (listing fs vs) ≡ vs
verdicts-listing [] vs = verdicts-then vs [] ∙ append-nil vs
verdicts-listing (f ∷ fs) vs =
    verdicts-then (verdicts_before (reported_at f) vs) (OfFinding f ∷ listing fs (verdicts_from (reported_at f) vs))
    ∙ ap (λ (ws : List Verdict). verdicts_before (reported_at f) vs ++ ws) (verdicts-listing fs (verdicts_from (reported_at f) vs))
    ∙ before_and_from (reported_at f) vs

-- ---- The order

-- The findings from an event on, each no earlier than the one before.
abbrev FindingsFrom : ℕ → List Finding → Type 0
FindingsFrom low [] = Unit {0}
FindingsFrom low (f ∷ fs) = (low ≤ reported_at f) × FindingsFrom (reported_at f) fs

abbrev VerdictsFrom : ℕ → List Verdict → Type 0
VerdictsFrom low [] = Unit {0}
VerdictsFrom low (v ∷ vs) = (low ≤ v.event) × VerdictsFrom v.event vs

findings-rest : (f : Finding) (fs : List Finding) → InReportOrder (f ∷ fs) → FindingsFrom (reported_at f) fs
findings-rest f [] order = tt
findings-rest f (g ∷ fs) (before, order) = (go before, findings-rest g fs order)
  where
    go : IsReportedBefore f g → reported_at f ≤ reported_at g
    go (inl less) = omega arith
    go (inr same) = omega (arith, same.0)

findings-low : (fs : List Finding) → InReportOrder fs → FindingsFrom 0 fs
findings-low [] order = tt
findings-low (f ∷ fs) order = (omega arith, findings-rest f fs order)

verdicts-low : (low : ℕ) (vs : List Verdict) → InEventOrder low vs → VerdictsFrom low vs
verdicts-low low [] order = tt
verdicts-low low (v ∷ vs) (less, order) = (omega arith, verdicts-low v.event vs order)

order-verdicts : (low : ℕ) (vs : List Verdict) → VerdictsFrom low vs → GoByEvent low (then_entries vs [])
order-verdicts low [] order = tt
order-verdicts low (v ∷ vs) (first, order) = (first, order-verdicts v.event vs order)

-- A finding among the verdicts, once what follows it is in order.
order-finding :
    (low : ℕ) (f : Finding) (fs : List Finding) (vs : List Verdict) → low ≤ reported_at f → VerdictsFrom low vs →
    ((ws : List Verdict) → VerdictsFrom (reported_at f) ws → GoByEvent (reported_at f) (listing fs ws)) → GoByEvent low (listing (f ∷ fs) vs)
order-finding low f fs [] first order later = (first, later [] tt)
order-finding low f fs (v ∷ vs) first (least, order) later =
    go (nat_lt v.event (reported_at f)) refl (λ less. order-finding v.event f fs vs less order later)
  where
    go : (b : Bool) → nat_lt v.event (reported_at f) ≡ b → (v.event ≤ reported_at f → GoByEvent v.event (listing (f ∷ fs) vs)) →
        GoByEvent low
        (then_entries (if b then v ∷ verdicts_before (reported_at f) vs else [])
        (OfFinding f ∷ listing fs (if b then verdicts_from (reported_at f) vs else v ∷ vs)))
    go true e next = let less : v.event < reported_at f = ltb-true v.event (reported_at f) e in (least, next (omega arith))
    go false e next = let past : reported_at f ≤ v.event = ltb-false v.event (reported_at f) e in (first, later (v ∷ vs) (past, order))

order-listing : (low : ℕ) (fs : List Finding) (vs : List Verdict) → FindingsFrom low fs → VerdictsFrom low vs → GoByEvent low (listing fs vs)
order-listing low [] vs findings verdicts = order-verdicts low vs verdicts
order-listing low (f ∷ fs) vs (first, findings) verdicts =
    order-finding low f fs vs first verdicts (λ ws order. order-listing (reported_at f) fs ws findings order)

-- Together.
pub entries_are_listing : EntriesAreListing
entries_are_listing findings verdicts in_report_order in_event_order = record {
  listed = listing findings verdicts;
  text_is = text-listing findings verdicts;
  ordered = order-listing 0 findings verdicts (findings-low findings in_report_order) (verdicts-low 0 verdicts in_event_order);
  findings_are = findings-listing findings verdicts;
  verdicts_are = verdicts-listing findings verdicts;
}
