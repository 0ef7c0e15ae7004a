-- A pass over a line's job: what is found so far is what the line has up to the last step.
use Rattle.std.proofs.Common.{◌≡◌, ℕ, suc, ◌+◌, ◌-◌, ◌%◌, ◌<◌, ◌≤◌, ◌⊎◌, inl, inr, List, [], ◌∷◌, ◌++◌, length, get_or, drop, sym, ap, subst, ◌∙◌, arith}
use Rattle.std.specs.Prelude.{◌↔◌, replicate}
use Rattle.std.proofs.lemmas.Bool.{cases_lt}
use Rattle.std.proofs.lemmas.List.{get_or-replicate, drop_more, drop_all}
use Rattle.pmt_laws.specs.Prelude.{Finding, Stores, Flushes, Clflushes, Recording, IsTrace, history, last_flush, reported_at, InReportOrder, HasFinding}
use Rattle.pmt_laws.proofs.Histories.{act-within}
use Rattle.pmt_marks.proofs.FollowLemmas.{follows-start}
use Rattle.pmt_lines.specs.declared.step.StepKind.{StepKind}
use Rattle.pmt_lines.specs.declared.step.StepKind.TheVariants.{Store, Flush, Clflush, Fence}
use Rattle.pmt_lines.specs.declared.step.Step.{Step}
use Rattle.pmt_lines.specs.declared.line_findings.Scan.{Scan}
use Rattle.pmt_lines.specs.declared.line_findings.Ending.{Ending}
use Rattle.pmt_lines.specs.Jobs.{AreSteps, IsKind, IsStepOf, Touches, ByStore, ByFlush, ByClflush, IsWalkFrom, IsJobOf, TakesStep, IsEnding, last_flush_of, flush_after, AreStoresAt, TakesBytes, Reports, ReportsKind, IsLineFinding, AreLineFindings}
use Rattle.pmt_lines.proofs.RunLemmas.{kind-within}
use Rattle.pmt_lines.proofs.ScanLemmas.{IsScan, scan-over, scan-kind, flush-over, flush-kind}
use Rattle.pmt_lines.proofs.FindingLists.{has-append, has-left, has-right, ordered-append}
use Rattle.pmt_lines.proofs.ReportLemmas.{AreFoundAt, HasAct, AStore, AFlush, AClflush, finding-act, found-fence, found-at_flush, found-at_clflush}
use Rattle.pmt_lines.proofs.StoreLemmas.{found-at_store}

-- The findings of line l that are reported at events up to n, in report order, and no others.
pub record AreFoundTo (T : Recording) (l n : ℕ) (found : List Finding) : Type 0 where
  pub ordered : InReportOrder found
  pub just : (f : Finding) → HasFinding found f ↔ (IsLineFinding T l f × (reported_at f ≤ n))

-- a finding of the line is at an event that matters to it
pub finding-touches : (T : Recording) (l : ℕ) (f : Finding) → IsLineFinding T l f → Touches T l (reported_at f)
finding-touches T l f h = go (finding-act T l f h)
  where
    go : HasAct T l (reported_at f) → Touches T l (reported_at f)
    go (AStore w is) = ByStore w is
    go (AFlush t is) = ByFlush t is
    go (AClflush is) = ByClflush is

-- and that has a number from 1 on
pub finding-numbered : (T : Recording) (l : ℕ) (f : Finding) → IsLineFinding T l f → 1 ≤ reported_at f
finding-numbered T l f h = go (finding-act T l f h)
  where
    go : HasAct T l (reported_at f) → 1 ≤ reported_at f
    go (AStore w is) = (act-within T (reported_at f) (Stores l w) is).0
    go (AFlush t is) = (act-within T (reported_at f) (Flushes t l) is).0
    go (AClflush is) = (act-within T (reported_at f) (Clflushes l) is).0

-- what is found at the next event that matters is added
pub found-next : (T : Recording) (l low i : ℕ) (old fs : List Finding) → low < i → ((k : ℕ) → low < k → k < i → ¬ Touches T l k) → AreFoundTo T l low old → AreFoundAt T l i fs → AreFoundTo T l i (old ++ fs)
found-next T l low i old fs later untouched before here = record {
  ordered = ordered-append old fs before.ordered here.ordered (λ x y first second. inl (omega (arith, ((before.just x).0 first).1, ((here.just y).0 second).1)));
  just = λ f. (there f, back f);
}
  where
    there : (f : Finding) → HasFinding (old ++ fs) f → IsLineFinding T l f × (reported_at f ≤ i)
    there f has = elim (has-append old fs f has) [
      | inl first ↦ let x = (before.just f).0 first in (x.0, omega (arith, x.1))
      | inr second ↦ let x = (here.just f).0 second in (x.0, omega (arith, x.1))
    ]

    at : (f : Finding) → IsLineFinding T l f → reported_at f ≤ i → (reported_at f < i) ⊎ (i ≤ reported_at f) → (low < reported_at f) ⊎ (reported_at f ≤ low) → HasFinding (old ++ fs) f
    at f is by_now (inl less) (inl more) = absurd (untouched (reported_at f) more less (finding-touches T l f is))
    at f is by_now (inl less) (inr within) = has-left old fs f ((before.just f).1 (is, within))
    at f is by_now (inr past) side = has-right old fs f ((here.just f).1 (is, omega arith))

    back : (f : Finding) → IsLineFinding T l f × (reported_at f ≤ i) → HasFinding (old ++ fs) f
    back f h = at f h.0 h.1 (cases_lt (reported_at f) i) (cases_lt low (reported_at f))

-- where no event that matters comes any more, all is found
pub found-end : (T : Recording) (l low : ℕ) (found : List Finding) → ((k : ℕ) → low < k → ¬ Touches T l k) → AreFoundTo T l low found → AreLineFindings T l found
found-end T l low found untouched f = record { ordered = f.ordered; just = λ g. (λ has. ((f.just g).0 has).0, λ is. (f.just g).1 (is, by_now g is (cases_lt low (reported_at g)))) }
  where
    by_now : (g : Finding) → IsLineFinding T l g → (low < reported_at g) ⊎ (reported_at g ≤ low) → reported_at g ≤ low
    by_now g is (inl more) = absurd (untouched (reported_at g) more (finding-touches T l g is))
    by_now g is (inr within) = within

-- What is added at event i is what is found there.
abbrev pub Adds : Recording → ℕ → ℕ → List Finding → List Finding → Type 0
Adds T l i old new = (fs : List Finding) × (new ≡ old ++ fs) × AreFoundAt T l i fs

-- what is added at a step
added-kind : (T : Recording) (l n t : ℕ) (kind : StepKind) (scan : Scan) (ending : Ending) (old new : List Finding) → IsTrace T → IsEnding T l ending → IsScan T l n scan → IsKind T l (suc n) t kind → old ≡ old ++ [] → ReportsKind scan ending (suc n) t kind old new → Adds T l (suc n) old new
added-kind T l n t (Store addr len) scan ending old new is_trace end s is same r =
    let at : AreStoresAt scan.stores.numbers is.0.addr (length is.0.bytes) r.numbers = rw (is.2, is.3) r.are_numbers in
    (_, r.pushed, found-at_store T l n is.0 scan ending r.numbers r.above is_trace end s is.1 at r.are_above)
added-kind T l n t Flush scan ending old new is_trace end s is same r = (_, r, found-at_flush T l n t scan.state s.follows is)
added-kind T l n t Clflush scan ending old new is_trace end s is same r = (_, r, found-at_clflush T l n scan.state s.follows is)
added-kind T l n t Fence scan ending old new is_trace end s is same r = ([], r ∙ same, found-fence T l (suc n) t is)

-- A pass after event low, with the rest of the job to come.
pub record Scanned (T : Recording) (l low : ℕ) (steps : List Step) (kept : Scan) (findings : List Finding) : Type 0 where
  pub rest : IsWalkFrom (IsStepOf T l) (Touches T l) low steps
  pub scan : IsScan T l low kept
  pub found : AreFoundTo T l low findings

-- What a step does to what is kept.
pub record TakesScan (s : Step) (old new : Scan) : Type 0 where
  pub takes : TakesStep s old.state new.state
  pub bytes : TakesBytes old.stores.numbers new.stores.numbers s.number s.kind
  pub flush : new.flush ≡ flush_after old.flush s.number s.kind

-- one step more
scanned-next : (T : Recording) (l low : ℕ) (s : Step) (rest : List Step) (ending : Ending) (old new : Scan) (found newer : List Finding) → IsTrace T → IsEnding T l ending → found ≡ found ++ [] → Scanned T l low (s ∷ rest) old found → Reports old ending s found newer → TakesScan s old new → Scanned T l s.number rest new newer
scanned-next T l low s rest ending old new found newer is_trace end same at reports takes = go (s.number - 1) (omega (arith, at.rest.0))
  where
    go : (n : ℕ) → s.number ≡ suc n → Scanned T l s.number rest new newer
    go n is =
        let before = scan-over T l low n old is_trace (omega (arith, at.rest.0)) (λ k a b. at.rest.2 k a (omega arith)) at.scan in
        let kind : IsKind T l (suc n) s.thread s.kind = subst (λ k. IsKind T l k s.thread s.kind) is at.rest.1.kind in
        let bytes : TakesBytes old.stores.numbers new.stores.numbers (suc n) s.kind = subst (λ k. TakesBytes old.stores.numbers new.stores.numbers k s.kind) is takes.bytes in
        let flush : new.flush ≡ flush_after old.flush (suc n) s.kind = subst (λ k. new.flush ≡ flush_after old.flush k s.kind) is takes.flush in
        let added = added-kind T l n s.thread s.kind old ending found newer is_trace end before kind same (subst (λ k. ReportsKind old ending k s.thread s.kind found newer) is reports) in
        let here : AreFoundAt T l s.number added.0 = subst (λ k. AreFoundAt T l k added.0) (sym is) added.2 in
        record {
          rest = at.rest.3;
          scan = subst (λ k. IsScan T l k new) (sym is) (scan-kind T l n s.thread s.kind old new is_trace kind (takes.takes l) bytes flush before);
          found = subst (AreFoundTo T l s.number) (sym added.1) (found-next T l low s.number found added.0 at.rest.0 at.rest.2 at.found here);
        }

-- before the first step
scanned-start : (T : Recording) (l : ℕ) (steps : List Step) (scan : Scan) → scan.state ≡ record { count = 0; front = 0; marks = [] } → scan.stores.numbers ≡ replicate 256 0 → scan.flush ≡ 0 → IsJobOf T l steps → Scanned T l 0 steps scan []
scanned-start T l steps scan state stores flush job = record {
  rest = job;
  scan = record { follows = rw state (follows-start l); table = λ b line. rw stores (empty 0 (b % 256) (omega arith)); flush = flush };
  found = record { ordered = tt; just = λ f. (λ none. absurd none, λ h. absurd (none f h.0 h.1)) };
}
  where
    empty : (z k : ℕ) → k < 256 → get_or (replicate 256 z) k z ≡ z
    empty z k h = get_or-replicate 256 k z z h

    none : (f : Finding) → IsLineFinding T l f → reported_at f ≤ 0 → ⊥
    none f h first = omega (arith, first, finding-numbered T l f h)

-- the last flush of the job is that of the trace
pub ending-flush : (T : Recording) (l low : ℕ) (steps : List Step) → low ≤ length T.events → IsWalkFrom (IsStepOf T l) (Touches T l) low steps → last_flush_of (last_flush l (history T low)) steps ≡ last_flush l (history T (length T.events))
ending-flush T l low [] within walk = sym (flush-over T l low (length T.events) within (λ k a b. walk k a))
ending-flush T l low (s ∷ steps) within walk =
    ap (λ last. last_flush_of last steps) (go (s.number - 1) (omega (arith, walk.0)))
    ∙ ending-flush T l s.number steps (kind-within T l s.number s.thread s.kind walk.1.kind).1 walk.3
  where
    go : (n : ℕ) → s.number ≡ suc n → flush_after (last_flush l (history T low)) s.number s.kind ≡ last_flush l (history T s.number)
    go n is =
        let kind : IsKind T l (suc n) s.thread s.kind = subst (λ k. IsKind T l k s.thread s.kind) is walk.1.kind in
        ap (λ k. flush_after (last_flush l (history T low)) k s.kind) is
        ∙ ap (λ last. flush_after last (suc n) s.kind) (sym (flush-over T l low n (omega (arith, walk.0)) (λ k a b. walk.2 k a (omega arith))))
        ∙ sym (flush-kind T l n s.thread s.kind kind)
        ∙ ap (λ k. last_flush l (history T k)) (sym is)

-- A pass in whatever trace the job is of, with the rest of the job to come.
pub record Scanning (l : ℕ) (steps rest : List Step) (ending : Ending) (scan : Scan) (found : List Finding) : Type 0 where
  pub low : ℕ
  pub rising : AreSteps low rest
  pub counted : scan.state.count ≤ low
  pub ran : (T : Recording) → IsTrace T → IsEnding T l ending → IsJobOf T l steps → Scanned T l low rest scan found

pub scanning-start : (l : ℕ) (steps : List Step) (ending : Ending) (scan : Scan) → AreSteps 0 steps → scan.state ≡ record { count = 0; front = 0; marks = [] } → scan.stores.numbers ≡ replicate 256 0 → scan.flush ≡ 0 → Scanning l steps steps ending scan []
scanning-start l steps ending scan rising state stores flush = record {
  low = 0;
  rising = rising;
  counted = rw state (omega arith);
  ran = λ T is_trace end job. scanned-start T l steps scan state stores flush job;
}

pub scanning-next : (l : ℕ) (steps : List Step) (s : Step) (rest : List Step) (ending : Ending) (old new : Scan) (found newer : List Finding) → found ≡ found ++ [] → new.state.count ≤ old.state.count + 1 → Reports old ending s found newer → TakesScan s old new → Scanning l steps (s ∷ rest) ending old found → Scanning l steps rest ending new newer
scanning-next l steps s rest ending old new found newer same counted reports takes scanning = record {
  low = s.number;
  rising = scanning.rising.3;
  counted = omega (arith, scanning.counted, scanning.rising.0, counted);
  ran = λ T is_trace end job. scanned-next T l scanning.low s rest ending old new found newer is_trace end same (scanning.ran T is_trace end job) reports takes;
}

pub scanning-end : (l : ℕ) (steps : List Step) (ending : Ending) (scan : Scan) (found : List Finding) → Scanning l steps [] ending scan found → (T : Recording) → IsTrace T → IsEnding T l ending → IsJobOf T l steps → AreLineFindings T l found
scanning-end l steps ending scan found scanning T is_trace end job =
    let at = scanning.ran T is_trace end job in
    found-end T l scanning.low found at.rest at.found

-- the step at an index comes next
pub scanning-at : (l : ℕ) (steps : List Step) (i : ℕ) (d : Step) (ending : Ending) (scan : Scan) (found : List Finding) → i < length steps → Scanning l steps (drop i steps) ending scan found → Scanning l steps (get_or steps i d ∷ drop (i + 1) steps) ending scan found
scanning-at l steps i d ending scan found within scanning = subst (λ rest. Scanning l steps rest ending scan found) (drop_more steps i d within) scanning

pub scanning-past : (l : ℕ) (steps : List Step) (i : ℕ) (ending : Ending) (scan : Scan) (found : List Finding) → length steps ≤ i → Scanning l steps (drop i steps) ending scan found → Scanning l steps [] ending scan found
scanning-past l steps i ending scan found past scanning = subst (λ rest. Scanning l steps rest ending scan found) (drop_all i steps past) scanning
