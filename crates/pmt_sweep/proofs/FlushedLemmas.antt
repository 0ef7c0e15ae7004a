-- The threads that have flushed a line, as a set with the store after which they did: a slot more.
use Rattle.std.proofs.Common.{◌≡◌, ℕ, suc, ◌⊎◌, zero, ◌+◌, ◌-◌, max, ◌<◌, ◌≤◌, inl, inr, ◌==◌, Bool, true, false, List, [], ◌∷◌, ◌++◌, length, get_or, refl, sym, ap, ◌∙◌, arith}
use Rattle.std.specs.Prelude.{◌&&◌}
use Rattle.std.proofs.lemmas.Bool.{cases_order}
use Rattle.std.proofs.lemmas.List.{length-append, get_or_past, get_or-append_right}
use Rattle.pmt_rows.specs.Threads.{has_thread}
use Rattle.pmt_sweep.specs.declared.flushed.SinceStore.{SinceStore}
use Rattle.pmt_sweep.specs.Known.{IsAlike, none_since, tells_flush}

and-off : (b : Bool) → (b && false) ≡ false
and-off true = refl
and-off false = refl

-- nobody has flushed by no line's set
none-tells : (last t : ℕ) → tells_flush last none_since t ≡ false
none-tells last t = go (0 == last)
  where
    go : (b : Bool) → (b && false) ≡ false
    go true = refl
    go false = refl

-- ---- A slot more

-- lines have been given a slot, up to this one
pub record IsReaching (slot : ℕ) (old new : List SinceStore) : Type 0 where
  pub many : (new ≡ old) ⊎ ((length old ≤ length new) × (length new ≤ suc slot))
  pub alike : (p : ℕ) → IsAlike old new p

pub reaching-none : (slot : ℕ) (old : List SinceStore) → IsReaching slot old old
reaching-none slot old = record { many = inl refl; alike = λ p. record { store = refl; tells = λ last t small. refl } }

get_or_left : (xs ys : List SinceStore) (p : ℕ) → p < length xs → get_or (xs ++ ys) p none_since ≡ get_or xs p none_since
get_or_left [] ys p within = absurd (omega (arith, within))
get_or_left (x ∷ xs) ys zero within = refl
get_or_left (x ∷ xs) ys (suc p) within = get_or_left xs ys p (omega (arith, within))

pub reaching-more : (slot : ℕ) (old new : List SinceStore) (s : SinceStore) → s.store ≡ 0 → ((t : ℕ) → t < 256 → has_thread s.threads t ≡ false) → length new ≤ slot → IsReaching slot old new → IsReaching slot old (new ++ s ∷ [])
reaching-more slot old new s zero_store empty within is = record {
  many = inr (elim is.many [
    | inl same ↦ (omega (arith, ap length same, length-append new (s ∷ [])), omega (arith, within, length-append new (s ∷ [])))
    | inr more ↦ (omega (arith, more.0, length-append new (s ∷ [])), omega (arith, within, length-append new (s ∷ [])))
  ]);
  alike = λ p. alike p (is.alike p) (cases_order p (length new));
}
  where
    off : (last t : ℕ) → t < 256 → tells_flush last s t ≡ false
    off last t small = ap (λ b. (s.store == last) && b) (empty t small) ∙ and-off (s.store == last)

    alike : (p : ℕ) → IsAlike old new p → (p ≡ length new) ⊎ ((p < length new) ⊎ (length new < p)) → IsAlike old (new ++ s ∷ []) p
    alike p old_is (inl last) =
        let read : get_or (new ++ s ∷ []) p none_since ≡ s = ap (λ q. get_or (new ++ s ∷ []) q none_since) last ∙ get_or-append_right new (s ∷ []) (length new) (length new) none_since refl (omega arith) ∙ here (length new) in
        let past : get_or new p none_since ≡ none_since = get_or_past new p none_since (omega (arith, last)) in
        record {
          store = ap (λ (x : SinceStore). x.store) read ∙ zero_store ∙ ap (λ (x : SinceStore). x.store) (sym past) ∙ old_is.store;
          tells = λ m t small. ap (λ x. tells_flush m x t) read ∙ off m t small ∙ sym (none-tells m t) ∙ ap (λ x. tells_flush m x t) (sym past) ∙ old_is.tells m t small;
        }
      where
        here : (m : ℕ) → get_or (s ∷ []) (m - m) none_since ≡ s
        here m = let e : m - m ≡ 0 = omega arith in rw e refl
    alike p old_is (inr (inl before)) =
        let read : get_or (new ++ s ∷ []) p none_since ≡ get_or new p none_since = get_or_left new (s ∷ []) p before in
        record {
          store = ap (λ (x : SinceStore). x.store) read ∙ old_is.store;
          tells = λ m t small. ap (λ x. tells_flush m x t) read ∙ old_is.tells m t small;
        }
    alike p old_is (inr (inr after)) =
        let read : get_or (new ++ s ∷ []) p none_since ≡ get_or new p none_since =
        get_or_past (new ++ s ∷ []) p none_since (omega (arith, after, length-append new (s ∷ []))) ∙ sym (get_or_past new p none_since (omega (arith, after))) in
        record {
          store = ap (λ (x : SinceStore). x.store) read ∙ old_is.store;
          tells = λ m t small. ap (λ x. tells_flush m x t) read ∙ old_is.tells m t small;
        }

pub reached : (slot : ℕ) (old new : List SinceStore) → slot < length new → IsReaching slot old new → length new ≡ max (length old) (slot + 1)
reached slot old new there is = elim is.many [
  | inl same ↦ omega (arith, ap length same, there)
  | inr more ↦ omega (arith, more.0, more.1, there)
]
