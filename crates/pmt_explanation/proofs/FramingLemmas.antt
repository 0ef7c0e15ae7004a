-- The innermost frames of labels, event by event.
use Rattle.std.proofs.Common.{◌≡◌, ℕ, zero, suc, ◌+◌, ◌-◌, ◌<◌, ◌≤◌, ◌⊎◌, inl, inr, List, [], ◌∷◌, ◌++◌, length, length-append, get_or, Option, None, Some, sym, ap, ◌∙◌, subst, arith}
use Rattle.std.specs.Prelude.{option_map, slice_get, slice_index_or, unwrap_or}
use Rattle.std.proofs.lemmas.Bool.{cases_lt}
use Rattle.std.proofs.lemmas.Option.{slice_get-get_or, slice_get_past}
use Rattle.pmt_causes.specs.Groups.{label_of as number_of}
use Rattle.pmt_explain.proofs.GroupingLemmas.{get-before, get-last}
use Rattle.pmt_explanation.specs.Prelude.{Labels, label_of, frame_of, inner_frame}
use Rattle.pmt_explanation.specs.Summing.{AreLabelNumbers, IsLabelNumber, AreFrameNumbers, IsFrameAmong, IsFrameNumber}

-- an event with the same label has the same frame
pub framed : (labels : Labels) (i : ℕ) (text : List ℕ) → label_of labels i ≡ Some text → frame_of labels i ≡ Some (inner_frame text)
framed labels i text own = ap (option_map inner_frame) own

-- the frame of an event with a label that came before
pub number-again : (labels : Labels) (n j : ℕ) (o : Option ℕ) → IsLabelNumber labels (n + 1) (Some j) → IsFrameNumber labels j o → IsFrameNumber labels (n + 1) o
number-again labels n j None (text, own, first) none = let never : None ≡ Some text = sym none ∙ first.own in absurd (cc)
number-again labels n j (Some k) (text, own, first) (f, has, is) = (f, framed labels (n + 1) text own ∙ sym (framed labels j text first.own) ∙ has, is)

-- one more event with this frame
pub number-new : (labels : Labels) (n : ℕ) (f : List ℕ) (o : Option ℕ) → frame_of labels (n + 1) ≡ Some f → IsFrameAmong labels n f o → IsFrameNumber labels (n + 1) (Some (unwrap_or o (n + 1)))
number-new labels n f None has none = (f, has, record { event = omega arith; own = has; first = λ i past before. none i past (omega arith) })
number-new labels n f (Some j) has (within, is) = (f, has, is)

-- the number of an event's frame, as it stands in a list
number-at : (frames : List (Option ℕ)) (j : ℕ) → 0 < j → j ≤ length frames → number_of frames j ≡ slice_index_or frames (j - 1) None
number-at frames zero past within = absurd (omega (arith, past))
number-at frames (suc k) past within =
    let e : suc k - 1 ≡ k = omega arith in
    ap (λ (o : Option (Option ℕ)). unwrap_or o None) (slice_get-get_or frames k None (omega (arith, within))) ∙ ap (λ m. get_or frames m None) (sym e)

-- the frame of an event whose label came before
pub number-before : (labels : Labels) (n j : ℕ) (frames : List (Option ℕ)) → IsLabelNumber labels (n + 1) (Some j) → AreFrameNumbers labels n frames → length frames ≡ n → j ≤ n →
    IsFrameNumber labels (n + 1) (slice_index_or frames (j - 1) None)
number-before labels n j frames (text, own, first) x size within =
    subst (IsFrameNumber labels (n + 1)) (number-at frames j first.event (omega (arith, size, within)))
    (number-again labels n j (number_of frames j) (text, own, first) (x.each j first.event within))

-- the frame of an event by the text of its label
pub frame-by : (labels : Labels) (n j : ℕ) (bytes : List ℕ) → IsLabelNumber labels (n + 1) (Some j) → label_of labels j ≡ Some bytes → frame_of labels (n + 1) ≡ Some (inner_frame bytes)
frame-by labels n j bytes (text, own, first) at = framed labels (n + 1) text own ∙ sym (framed labels j text first.own) ∙ framed labels j bytes at

-- the numbers of labels, as they stand in a list
pub label-at : (labels : Labels) (n i : ℕ) (numbers : List (Option ℕ)) → AreLabelNumbers labels n numbers → i < length numbers → IsLabelNumber labels (i + 1) (slice_index_or numbers i None)
label-at labels n i numbers x within =
    let next : i + 1 ≡ suc i = omega arith in
    subst (λ m. IsLabelNumber labels m (slice_index_or numbers i None)) (sym next)
    (subst (IsLabelNumber labels (suc i)) (ap (λ (o : Option (Option ℕ)). unwrap_or o None) (slice_get-get_or numbers i None within)) (x.each (suc i) (omega arith) (omega (arith, x.size, within))))

-- one more number
pub frames-more : (labels : Labels) (n : ℕ) (frames : List (Option ℕ)) (o : Option ℕ) → length frames ≡ n → AreFrameNumbers labels n frames → IsFrameNumber labels (n + 1) o → AreFrameNumbers labels (n + 1) (frames ++ o ∷ [])
frames-more labels n frames o size before own = record { size = omega (arith, size, length-append frames (o ∷ [])); each = each }
  where
    at : (k : ℕ) → (k < n) ⊎ (n ≤ k) → k < n + 1 → IsFrameNumber labels (suc k) (unwrap_or (slice_get (frames ++ o ∷ []) k) None)
    at k (inl below) within =
        subst (λ (x : Option (Option ℕ)). IsFrameNumber labels (suc k) (unwrap_or x None)) (sym (get-before frames o k (omega (arith, size, below)))) (before.each (suc k) (omega arith) (omega (arith, below)))
    at k (inr from) within =
        let place : k ≡ length frames = omega (arith, size, from, within) in
        let event : n + 1 ≡ suc k = omega (arith, from, within) in
        subst (λ (x : Option (Option ℕ)). IsFrameNumber labels (suc k) (unwrap_or x None)) (sym (ap (slice_get (frames ++ o ∷ [])) place ∙ get-last frames o)) (subst (λ (i : ℕ). IsFrameNumber labels i o) event own)

    each : (i : ℕ) → 0 < i → i ≤ n + 1 → IsFrameNumber labels i (number_of (frames ++ o ∷ []) i)
    each zero past within = absurd (omega (arith, past))
    each (suc k) past within = at k (cases_lt k n) (omega (arith, within))

-- events past the last number have no label
pub frames-all : (labels : Labels) (n m : ℕ) (numbers frames : List (Option ℕ)) → AreLabelNumbers labels n numbers → length frames ≡ m → length numbers ≤ m → m ≤ n → AreFrameNumbers labels m frames → AreFrameNumbers labels n frames
frames-all labels n m numbers frames x size long within before = record { size = omega (arith, size, within); each = each }
  where
    past : (k : ℕ) → m ≤ k → suc k ≤ n → IsFrameNumber labels (suc k) (unwrap_or (slice_get frames k) None)
    past k from upto =
        let none : slice_get numbers k ≡ None = slice_get_past numbers k (omega (arith, long, from)) in
        let empty : slice_get frames k ≡ None = slice_get_past frames k (omega (arith, size, from)) in
        subst (λ (o : Option (Option ℕ)). IsFrameNumber labels (suc k) (unwrap_or o None)) (sym empty)
        (subst (λ (o : Option (Option ℕ)). IsLabelNumber labels (suc k) (unwrap_or o None)) none (x.each (suc k) (omega arith) upto))

    at : (k : ℕ) → (k < m) ⊎ (m ≤ k) → suc k ≤ n → IsFrameNumber labels (suc k) (number_of frames (suc k))
    at k (inl below) upto = before.each (suc k) (omega arith) (omega (arith, below))
    at k (inr from) upto = past k from upto

    each : (i : ℕ) → 0 < i → i ≤ n → IsFrameNumber labels i (number_of frames i)
    each zero some upto = absurd (omega (arith, some))
    each (suc k) some upto = at k (cases_lt k m) upto
