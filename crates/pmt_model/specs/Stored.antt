-- How a payload lies in memory.
use Rattle.std.specs.Prelude.{◌≡◌, ℕ, ◌-◌, ◌≤◌, List, ◌++◌, length, take, drop}
use lib.ListN.{replicate}
use Rattle.std.proofs.Common.{sym, ◌∙◌, ap, arith}
use Rattle.std.proofs.lemmas.List.{take-append-drop, length-take}
use Rattle.pmt_model.specs.Values.{AreBytes}
use Rattle.pmt_model.specs.declared.store.Payload.TheInside.{Inside}

-- the unused bytes are zero
pub record IsStored (p : Inside) : Type 0 where
  pub some : 1 ≤ p.len
  pub within : p.len ≤ 8
  pub eight : length p.held ≡ 8
  pub each : AreBytes (take p.len p.held)
  pub rest : drop p.len p.held ≡ replicate (8 - p.len) 0

abbrev pub stored_of : List ℕ → Inside
stored_of bytes = record { held = bytes ++ replicate (8 - length bytes) 0; len = length bytes }

pub stored_back : (p : Inside) → IsStored p → stored_of (take p.len p.held) ≡ p
stored_back p h =
    let len : length (take p.len p.held) ≡ p.len = omega (arith, length-take p.len p.held, h.eight, h.within) in
    let bytes : take p.len p.held ++ replicate (8 - p.len) 0 ≡ p.held = ap (λ (r : List ℕ). take p.len p.held ++ r) (sym h.rest) ∙ take-append-drop p.len p.held in
    let by_len : ℕ → Inside = λ n. record { held = take p.len p.held ++ replicate (8 - n) 0; len = n } in
    let by_bytes : List ℕ → Inside = λ b. record { held = b; len = p.len } in
    ap by_len len ∙ ap by_bytes bytes
