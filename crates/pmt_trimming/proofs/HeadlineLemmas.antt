-- The trace cut to what is kept is trimmed.
use Rattle.std.proofs.Common.{◌≡◌, ℕ, zero, suc, List, refl, sym, ap, ◌∙◌, subst, arith}
use Rattle.pmt_laws.specs.Prelude.{Recording, event, Has, IsSelection, cut, matching_place, IsKeep, HasSameVectors}
use Rattle.pmt_laws.proofs.BoxLemmas.{vectors_are_a_box}
use Rattle.pmt_laws.proofs.Histories.{event-some}
use Rattle.pmt_laws.proofs.CutLemmas.{has-above, place-kept, cut-event}
use Rattle.pmt_laws.proofs.KeepLemmas.{keep_is_faithful, keep_is_selection}
use Rattle.pmt_laws.proofs.NoneCanGoLemmas.{none_can_go}
use Rattle.pmt_laws.proofs.StayLemmas.{verdicts_stay, never_persisted_stays}
use Rattle.pmt_laws.proofs.ShortestLemmas.{keep_shortest}
use Rattle.pmt_laws.proofs.NoWaste.{no_waste}
use Rattle.pmt_laws.proofs.WholeSelections.{trimmed_same}
use Rattle.pmt_trimming.specs.Headline.{IsTrimmed}

-- a selected event stands at its matching place
event-placed : (T : Recording) (K : List ℕ) (k : ℕ) → IsSelection T K → Has K k → event (cut T K) (matching_place K k) ≡ event T k
event-placed T K zero s has = let never = has-above 0 K 0 s.rising has in absurd (omega arith)
event-placed T K (suc n) s has =
    let some = event-some T n (s.within (suc n) has) in
    ap (event (cut T K)) (place-kept K n s.rising has) ∙ cut-event T K n some.0 s has some.1 ∙ sym some.1

-- for the trace that is the cut
cut-is-trimmed : (T : Recording) (K : List ℕ) → IsKeep T K → IsTrimmed T K (cut T K)
cut-is-trimmed T K keep =
    let s = keep_is_selection T K keep in
    record {
      selection = s;
      selected = refl;
      placed = λ k has. event-placed T K k s has;
      keep = keep;
      faithful = λ n within. keep_is_faithful vectors_are_a_box T K n keep;
      none_can_go = λ k a has is stays. none_can_go T K k a keep has is stays;
      persist_stays = λ i A. (verdicts_stay T K i keep).0 A;
      ordered_stays = λ i A B. (verdicts_stay T K i keep).1 A B;
      never_persisted_stays = λ l i w is. never_persisted_stays T K l i w keep is;
      shortest = λ S selects same. keep_shortest T K S keep selects same;
      no_waste = no_waste T K keep;
      trimmed_again = λ J again. trimmed_same T K J keep again;
    }

-- the trace cut to what is kept is trimmed
pub keep-is-trimmed : (T : Recording) (K : List ℕ) (trimmed : Recording) → IsKeep T K → trimmed ≡ cut T K → IsTrimmed T K trimmed
keep-is-trimmed T K trimmed keep is = let P : Recording → Type 0 = λ R. IsTrimmed T K R in subst P (sym is) (cut-is-trimmed T K keep)

-- what is trimmed leaves the counts of persisted stores
pub same_counts : (T : Recording) (K : List ℕ) (trimmed : Recording) → IsTrimmed T K trimmed → HasSameVectors T K
same_counts T K trimmed is n within v = (is.faithful n within).vectors v
