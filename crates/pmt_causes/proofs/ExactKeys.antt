-- Keys that their tests take for the same are the same.
use Rattle.std.proofs.Common.{◌≡◌, true, refl, ap, ◌∙◌}
use Rattle.std.specs.Prelude.{nat_eq, ◌&&◌}
use Rattle.std.proofs.lemmas.Bool.{eqb-true, and_parts, false≢true}
use Rattle.pmt_causes.specs.declared.dropping.Spot.{Spot}
use Rattle.pmt_causes.specs.declared.dropping.Spot.TheVariants as spot
use Rattle.pmt_causes.specs.declared.dropping.DropWord.{DropWord}
use Rattle.pmt_causes.specs.declared.dropping.DropWord.TheVariants.{Clwb, ClflushOpt, Clflush, Sfence, Mfence}
use Rattle.pmt_causes.specs.declared.dropping.ReasonKind.{ReasonKind}
use Rattle.pmt_causes.specs.declared.dropping.ReasonKind.TheVariants.{Safe, Unfenced, Repeated, Overtaken, Empty, Useless}
use Rattle.pmt_causes.specs.declared.dropping.DroppedKey.{DroppedKey}
use Rattle.pmt_causes.specs.Dropped.{key_of_parts}
use Rattle.pmt_causes.specs.contracts.dropping.SpotPartialEq.TheImpl as spot_eq
use Rattle.pmt_causes.specs.contracts.dropping.DropWordPartialEq.TheImpl as word_eq
use Rattle.pmt_causes.specs.contracts.dropping.ReasonKindPartialEq.TheImpl as reason_eq
use Rattle.pmt_causes.specs.contracts.dropping.DroppedKeyPartialEq.TheImpl as dropped_eq

spot-exact : (x y : Spot) → (spot_eq.ghosts).eq x y ≡ true → x ≡ y
spot-exact (spot.Label a) (spot.Label b) e = ap spot.Label (eqb-true a b e)
spot-exact (spot.Label a) (spot.Line t l) e = absurd (false≢true e)
spot-exact (spot.Label a) (spot.Thread t) e = absurd (false≢true e)
spot-exact (spot.Line t l) (spot.Label b) e = absurd (false≢true e)
spot-exact (spot.Line t l) (spot.Line u m) e =
    let both = and_parts (nat_eq t u) (nat_eq l m) e in
    let thread : t ≡ u = eqb-true t u both.0 in
    let line : l ≡ m = eqb-true l m both.1 in
    cc
spot-exact (spot.Line t l) (spot.Thread u) e = absurd (false≢true e)
spot-exact (spot.Thread t) (spot.Label b) e = absurd (false≢true e)
spot-exact (spot.Thread t) (spot.Line u m) e = absurd (false≢true e)
spot-exact (spot.Thread t) (spot.Thread u) e = ap spot.Thread (eqb-true t u e)

word-exact : (x y : DropWord) → (word_eq.ghosts).eq x y ≡ true → x ≡ y
word-exact Clwb Clwb e = refl
word-exact Clwb ClflushOpt e = absurd (false≢true e)
word-exact Clwb Clflush e = absurd (false≢true e)
word-exact Clwb Sfence e = absurd (false≢true e)
word-exact Clwb Mfence e = absurd (false≢true e)
word-exact ClflushOpt Clwb e = absurd (false≢true e)
word-exact ClflushOpt ClflushOpt e = refl
word-exact ClflushOpt Clflush e = absurd (false≢true e)
word-exact ClflushOpt Sfence e = absurd (false≢true e)
word-exact ClflushOpt Mfence e = absurd (false≢true e)
word-exact Clflush Clwb e = absurd (false≢true e)
word-exact Clflush ClflushOpt e = absurd (false≢true e)
word-exact Clflush Clflush e = refl
word-exact Clflush Sfence e = absurd (false≢true e)
word-exact Clflush Mfence e = absurd (false≢true e)
word-exact Sfence Clwb e = absurd (false≢true e)
word-exact Sfence ClflushOpt e = absurd (false≢true e)
word-exact Sfence Clflush e = absurd (false≢true e)
word-exact Sfence Sfence e = refl
word-exact Sfence Mfence e = absurd (false≢true e)
word-exact Mfence Clwb e = absurd (false≢true e)
word-exact Mfence ClflushOpt e = absurd (false≢true e)
word-exact Mfence Clflush e = absurd (false≢true e)
word-exact Mfence Sfence e = absurd (false≢true e)
word-exact Mfence Mfence e = refl

reason-exact : (x y : ReasonKind) → (reason_eq.ghosts).eq x y ≡ true → x ≡ y
reason-exact Safe Safe e = refl
reason-exact Safe Unfenced e = absurd (false≢true e)
reason-exact Safe Repeated e = absurd (false≢true e)
reason-exact Safe Overtaken e = absurd (false≢true e)
reason-exact Safe Empty e = absurd (false≢true e)
reason-exact Safe Useless e = absurd (false≢true e)
reason-exact Unfenced Safe e = absurd (false≢true e)
reason-exact Unfenced Unfenced e = refl
reason-exact Unfenced Repeated e = absurd (false≢true e)
reason-exact Unfenced Overtaken e = absurd (false≢true e)
reason-exact Unfenced Empty e = absurd (false≢true e)
reason-exact Unfenced Useless e = absurd (false≢true e)
reason-exact Repeated Safe e = absurd (false≢true e)
reason-exact Repeated Unfenced e = absurd (false≢true e)
reason-exact Repeated Repeated e = refl
reason-exact Repeated Overtaken e = absurd (false≢true e)
reason-exact Repeated Empty e = absurd (false≢true e)
reason-exact Repeated Useless e = absurd (false≢true e)
reason-exact Overtaken Safe e = absurd (false≢true e)
reason-exact Overtaken Unfenced e = absurd (false≢true e)
reason-exact Overtaken Repeated e = absurd (false≢true e)
reason-exact Overtaken Overtaken e = refl
reason-exact Overtaken Empty e = absurd (false≢true e)
reason-exact Overtaken Useless e = absurd (false≢true e)
reason-exact Empty Safe e = absurd (false≢true e)
reason-exact Empty Unfenced e = absurd (false≢true e)
reason-exact Empty Repeated e = absurd (false≢true e)
reason-exact Empty Overtaken e = absurd (false≢true e)
reason-exact Empty Empty e = refl
reason-exact Empty Useless e = absurd (false≢true e)
reason-exact Useless Safe e = absurd (false≢true e)
reason-exact Useless Unfenced e = absurd (false≢true e)
reason-exact Useless Repeated e = absurd (false≢true e)
reason-exact Useless Overtaken e = absurd (false≢true e)
reason-exact Useless Empty e = absurd (false≢true e)
reason-exact Useless Useless e = refl

-- the key of a dropped event
pub dropped-exact : (x y : DroppedKey) → (dropped_eq.ghosts).eq x y ≡ true → x ≡ y
dropped-exact x y e =
    let first = and_parts ((spot_eq.ghosts).eq x.spot y.spot) ((word_eq.ghosts).eq x.word y.word && (reason_eq.ghosts).eq x.reason y.reason) e in
    let others = and_parts ((word_eq.ghosts).eq x.word y.word) ((reason_eq.ghosts).eq x.reason y.reason) first.1 in
    ap (λ s. key_of_parts s x.word x.reason) (spot-exact x.spot y.spot first.0)
    ∙ ap (λ w. key_of_parts y.spot w x.reason) (word-exact x.word y.word others.0)
    ∙ ap (λ r. key_of_parts y.spot y.word r) (reason-exact x.reason y.reason others.1)
