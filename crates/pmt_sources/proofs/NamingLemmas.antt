-- Which place the label of an event names.
use Rattle.std.proofs.Common.{◌≡◌, ℕ, ◌==◌, Bool, false, List, length, Option, None, Some, sym, ap, subst, ◌∙◌, arith}
use Rattle.std.specs.Prelude.{Decides, MatchOption}
use Rattle.std.specs.List.{position_or_len}
use Rattle.std.proofs.lemmas.List.{take_all}
use Rattle.pmt_asked.specs.Choosing.{frame_of}
use Rattle.pmt_asked.specs.declared.labels.Labels.{Labels}
use Rattle.pmt_sources.specs.declared.place.SourcePlace.{SourcePlace}
use Rattle.pmt_sources.specs.Places.{AreSame, IsPlace, Names, first_word}
use Rattle.pmt_sources.proofs.PlaceLemmas.{read-as}

-- a frame of one word
pub one-word : (frame : List ℕ) → position_or_len (λ b. b == 32) frame ≡ length frame → frame ≡ first_word frame
one-word frame all = sym (take_all (position_or_len (λ b. b == 32) frame) frame (omega (arith, all)))

-- the frame of an event is one
same-frame : (labels : Labels) (i : ℕ) (one other : List ℕ) → frame_of labels i ≡ Some one → frame_of labels i ≡ Some other → one ≡ other
same-frame labels i one other a b = let both : Some one ≡ Some other = sym a ∙ b in cc

-- what the first word of the frame names, the event names
pub named-by : (labels : Labels) (i : ℕ) (frame word : List ℕ) (o : Option SourcePlace) → frame_of labels i ≡ Some frame → word ≡ first_word frame →
    MatchOption o ((f : List ℕ) (l : ℕ) → ¬ IsPlace word f l) (λ p. IsPlace word p.file.now p.line) →
    MatchOption o ((f : List ℕ) (l : ℕ) → ¬ Names labels i f l) (λ p. Names labels i p.file.now p.line)
named-by labels i frame word None own is none = λ f l n.
    let same : frame ≡ n.frame = same-frame labels i frame n.frame own n.own in
    none f l (subst (λ w. IsPlace w f l) (ap first_word (sym same) ∙ sym is) n.place)
named-by labels i frame word (Some p) own is place = record { frame = frame; own = own; place = subst (λ w. IsPlace w p.file.now p.line) is place }

-- a word names one place
one-place : (word f g : List ℕ) (l m : ℕ) → IsPlace word f l → IsPlace word g m → (f ≡ g) × (l ≡ m)
one-place word f g l m p q =
    let read = read-as word g q.digits f l (q.whole, q.last) p in
    let both : Some l ≡ Some m = sym read.1 ∙ q.number in
    (read.0, cc)

-- an event names one place
pub names-one : (labels : Labels) (i : ℕ) (f g : List ℕ) (l m : ℕ) → Names labels i f l → Names labels i g m → (f ≡ g) × (l ≡ m)
names-one labels i f g l m p q =
    let same : p.frame ≡ q.frame = same-frame labels i p.frame q.frame p.own q.own in
    one-place (first_word q.frame) f g l m (subst (λ x. IsPlace (first_word x) f l) same p.place) q.place

-- what names one place that this event names, names all of its places
pub names-too : (labels : Labels) (here event : ℕ) (f g : List ℕ) (l m : ℕ) → Names labels here g m → Names labels here f l → Names labels event g m → Names labels event f l
names-too labels here event f g l m p q r =
    let same = names-one labels here g f m l p q in
    subst (λ x. Names labels event x l) same.0 (subst (λ y. Names labels event g y) same.1 r)

-- whether the place that an event names is this one
pub decided : (labels : Labels) (i : ℕ) (other place : SourcePlace) (b : Bool) → Names labels i other.file.now other.line → Decides b (AreSame other place) → Decides b (Names labels i place.file.now place.line)
decided labels i other place b own decides = (
  λ yes. let same = decides.0 yes in subst (λ f. Names labels i f place.line) same.0 (subst (λ l. Names labels i other.file.now l) same.1 own),
  λ names. decides.1 (names-one labels i other.file.now place.file.now other.line place.line own names),
)

pub undecided : (P : Type 0) → (P → ⊥) → Decides false P
undecided P none = (λ yes. absurd cc, λ p. absurd (none p))
