-- Keys of losses that their test takes for the same are the same.
use Rattle.std.proofs.Common.{◌≡◌, ℕ, Bool, true, false, refl, sym, ap, ◌∙◌}
use Rattle.std.specs.Prelude.{nat_eq, ◌&&◌}
use Rattle.std.specs.Bool.{beq}
use Rattle.std.proofs.lemmas.Bool.{and_parts, eqb-true}
use Rattle.pmt_entries.specs.contracts.losses.LossKeyPartialEq.TheImpl as key_eq
use Rattle.pmt_entries.specs.declared.losses.LossKey.{LossKey}

bool-exact : (a b : Bool) → beq a b ≡ true → a ≡ b
bool-exact true true e = refl
bool-exact true false e = sym e
bool-exact false true e = e
bool-exact false false e = refl

abbrev key_of : Bool → Bool → ℕ → ℕ → LossKey
key_of loses is_meant thread fence = record { loses = loses; is_meant = is_meant; thread = thread; fence = fence }

pub key-exact : (x y : LossKey) → (key_eq.ghosts).eq x y ≡ true → x ≡ y
key-exact x y e =
    let first = and_parts (beq x.loses y.loses) (beq x.is_meant y.is_meant && (nat_eq x.thread y.thread && nat_eq x.fence y.fence)) e in
    let second = and_parts (beq x.is_meant y.is_meant) (nat_eq x.thread y.thread && nat_eq x.fence y.fence) first.1 in
    let third = and_parts (nat_eq x.thread y.thread) (nat_eq x.fence y.fence) second.1 in
    ap (λ l. key_of l x.is_meant x.thread x.fence) (bool-exact x.loses y.loses first.0)
    ∙ ap (λ m. key_of y.loses m x.thread x.fence) (bool-exact x.is_meant y.is_meant second.0)
    ∙ ap (λ t. key_of y.loses y.is_meant t x.fence) (eqb-true x.thread y.thread third.0)
    ∙ ap (λ f. key_of y.loses y.is_meant y.thread f) (eqb-true x.fence y.fence third.1)
