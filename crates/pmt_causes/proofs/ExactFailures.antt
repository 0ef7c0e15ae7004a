-- Keys of failed assertions and of lost stores that their tests take for the same are the same.
use Rattle.std.proofs.Common.{◌≡◌, true, refl, ap, ◌∙◌}
use Rattle.std.specs.Prelude.{◌&&◌}
use Rattle.std.proofs.lemmas.Bool.{eqb-true, and_parts, false≢true}
use Rattle.pmt_causes.specs.declared.failure_keys.Origin.{Origin}
use Rattle.pmt_causes.specs.declared.failure_keys.Origin.TheVariants.{Label, Thread}
use Rattle.pmt_causes.specs.declared.failure_keys.AssertionKind.{AssertionKind}
use Rattle.pmt_causes.specs.declared.failure_keys.AssertionKind.TheVariants.{Persist, Ordered}
use Rattle.pmt_causes.specs.declared.failure_keys.CauseKind.{CauseKind}
use Rattle.pmt_causes.specs.declared.failure_keys.CauseKind.TheVariants.{Later, Unflushed, Unfenced}
use Rattle.pmt_causes.specs.declared.failure_keys.FailureKey.{FailureKey}
use Rattle.pmt_causes.specs.declared.lost.LostKey.{LostKey}
use Rattle.pmt_causes.specs.contracts.failure_keys.OriginPartialEq.TheImpl as origin_eq
use Rattle.pmt_causes.specs.contracts.failure_keys.AssertionKindPartialEq.TheImpl as kind_eq
use Rattle.pmt_causes.specs.contracts.failure_keys.CauseKindPartialEq.TheImpl as cause_eq
use Rattle.pmt_causes.specs.contracts.failure_keys.FailureKeyPartialEq.TheImpl as failure_eq
use Rattle.pmt_causes.specs.contracts.lost.LostKeyPartialEq.TheImpl as lost_eq

abbrev key_of_parts : AssertionKind → CauseKind → Origin → FailureKey
key_of_parts k c o = record { kind = k; cause = c; origin = o }

pub origin-exact : (x y : Origin) → (origin_eq.ghosts).eq x y ≡ true → x ≡ y
origin-exact (Label a) (Label b) e = ap Label (eqb-true a b e)
origin-exact (Label a) (Thread t) e = absurd (false≢true e)
origin-exact (Thread t) (Label b) e = absurd (false≢true e)
origin-exact (Thread t) (Thread u) e = ap Thread (eqb-true t u e)

kind-exact : (x y : AssertionKind) → (kind_eq.ghosts).eq x y ≡ true → x ≡ y
kind-exact Persist Persist e = refl
kind-exact Persist Ordered e = absurd (false≢true e)
kind-exact Ordered Persist e = absurd (false≢true e)
kind-exact Ordered Ordered e = refl

cause-exact : (x y : CauseKind) → (cause_eq.ghosts).eq x y ≡ true → x ≡ y
cause-exact Later Later e = refl
cause-exact Later Unflushed e = absurd (false≢true e)
cause-exact Later Unfenced e = absurd (false≢true e)
cause-exact Unflushed Later e = absurd (false≢true e)
cause-exact Unflushed Unflushed e = refl
cause-exact Unflushed Unfenced e = absurd (false≢true e)
cause-exact Unfenced Later e = absurd (false≢true e)
cause-exact Unfenced Unflushed e = absurd (false≢true e)
cause-exact Unfenced Unfenced e = refl

-- the key of a failed assertion
pub failure-exact : (x y : FailureKey) → (failure_eq.ghosts).eq x y ≡ true → x ≡ y
failure-exact x y e =
    let first = and_parts ((kind_eq.ghosts).eq x.kind y.kind) ((cause_eq.ghosts).eq x.cause y.cause && (origin_eq.ghosts).eq x.origin y.origin) e in
    let second = and_parts ((cause_eq.ghosts).eq x.cause y.cause) ((origin_eq.ghosts).eq x.origin y.origin) first.1 in
    ap (λ k. key_of_parts k x.cause x.origin) (kind-exact x.kind y.kind first.0)
    ∙ ap (λ c. key_of_parts y.kind c x.origin) (cause-exact x.cause y.cause second.0)
    ∙ ap (λ o. key_of_parts y.kind y.cause o) (origin-exact x.origin y.origin second.1)

abbrev lost_of_parts : CauseKind → Origin → LostKey
lost_of_parts c o = record { cause = c; origin = o }

-- the key of stores that are never persisted
pub lost-exact : (x y : LostKey) → (lost_eq.ghosts).eq x y ≡ true → x ≡ y
lost-exact x y e =
    let both = and_parts ((cause_eq.ghosts).eq x.cause y.cause) ((origin_eq.ghosts).eq x.origin y.origin) e in
    ap (λ c. lost_of_parts c x.origin) (cause-exact x.cause y.cause both.0) ∙ ap (λ o. lost_of_parts y.cause o) (origin-exact x.origin y.origin both.1)
