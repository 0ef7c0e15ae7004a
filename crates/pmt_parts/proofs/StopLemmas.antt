-- Why a run over a text ends before the text does.
use Rattle.pmt_parts.proofs.Prelude.{◌≡◌, ℕ, List, ◌++◌, Option, Result, Ok, Err, sym, subst, IfErr, Layout, ended, header, Part, IsPiece, IsRefusedBehind, IsRefusedPast, IsRefusedText, RefusedAs, StopsAs}
use Rattle.pmt_parts.specs.declared.taker.PartError.{PartError}
use Rattle.pmt_parts.specs.declared.taker.PartError.TheVariants.{Refused}
use Rattle.pmt_parts.specs.declared.taker.Refusal.{Refusal}
use Rattle.pmt_parts.specs.declared.taker.Stop.{Stop}
use Rattle.pmt_parts.specs.declared.taker.Stop.TheVariants as stops

-- what is refused in one way is refused in another
pub refused-as : (P Q : Refusal → Type 0) (e : PartError) → ((r : Refusal) → P r → Q r) → RefusedAs P e → RefusedAs Q e
refused-as P Q (Refused r) so is = so r is
refused-as P Q e so is = tt

pub refused-was : {A : Type 0} (P Q : Refusal → Type 0) (r : Result A PartError) (e : PartError) → r ≡ Err e → ((x : Refusal) → P x → Q x) → RefusedAs P e → IfErr r (RefusedAs Q)
refused-was {A = A} P Q r e told so is = subst (λ (x : Result A PartError). IfErr x (RefusedAs Q)) (sym told) (refused-as P Q e so is)

-- no piece was
pub refused-none : {A : Type 0} (Q : Refusal → Type 0) (r : Result A PartError) → IfErr r (RefusedAs (λ x. ⊥)) → IfErr r (RefusedAs Q)
refused-none Q (Ok x) none = tt
refused-none Q (Err e) none = refused-as (λ x. ⊥) Q e (λ x is. absurd is) none

-- a piece was, behind these bytes
pub refused-behind : (head text piece : List ℕ) (bytes left : Option (List ℕ)) (before most : ℕ) → text ≡ head ++ piece → IsPiece bytes most piece left → (r : Refusal) → IsRefusedText text before r → IsRefusedBehind head bytes before r
refused-behind head text piece bytes left before most is next r refused = record {
  piece = piece;
  most = most;
  left = left;
  next = next;
  refused = subst (λ t. IsRefusedText t before r) is refused;
}

-- or the one after a part, which the next part begins with
pub refused-past : (part next : Part) (bytes : Option (List ℕ)) → next.trace.format ≡ part.trace.format → next.end ≡ part.end → (r : Refusal) → IsRefusedPast next bytes r → IsRefusedPast part bytes r
refused-past part next bytes format end r is =
    subst (λ (f : Layout). IsRefusedBehind (ended (header f)) bytes part.end r) format (subst (λ (n : ℕ). IsRefusedBehind (ended (header next.trace.format)) bytes n r) end is)

-- so it is where the run stops
stops-for : {F : Type 0} (P Q : PartError → Type 0) (s : Stop F) → ((e : PartError) → P e → Q e) → StopsAs P s → StopsAs Q s
stops-for P Q (stops.Taker fault) so h = tt
stops-for P Q (stops.Text e) so h = so e h

pub stops-in : {A F : Type 0} (P Q : PartError → Type 0) (r : Result A (Stop F)) (s : Stop F) → r ≡ Err s → ((e : PartError) → P e → Q e) → StopsAs P s → IfErr r (StopsAs Q)
stops-in {A = A} {F = F} P Q r s is so h = subst (λ (x : Result A (Stop F)). IfErr x (StopsAs Q)) (sym is) (stops-for P Q s so h)
