-- Where no range is ignored.
use Rattle.pmt_parts.proofs.Prelude.{◌≡◌, ℕ, zero, suc, ◌≤◌, inl, inr, false, List, [], ◌∷◌, length, refl, arith, slice_get, Event, Op, Recording, IsEventIn, IsOp, AllByRecursion, are_ignored, is_op_ignored, is_event_ignored, is_ignored, IsWellFormed, PartOfAll}
use Rattle.pmt_model.specs.declared.event.Op.TheVariants as ops

none-ignored : (a : ℕ) (bytes : List ℕ) → 1 ≤ length bytes → are_ignored [] a bytes ≡ false
none-ignored a [] some = absurd (omega (arith, some))
none-ignored a (b ∷ bytes) some = refl

op-told : (op : Op) → IsOp op → is_op_ignored [] op ≡ false
op-told (ops.Store w) is = none-ignored w.addr w.bytes is.some
op-told op is = refl

get-told : (T : Recording) (es : List Event) (i : ℕ) → AllByRecursion (IsEventIn T.format) es → is_event_ignored [] (slice_get es i) ≡ false
get-told T [] i all = refl
get-told T (e ∷ es) zero all = op-told e.op all.0.event.op
get-told T (e ∷ es) (suc i) all = get-told T es i all.1

told : (T : Recording) (k : ℕ) → IsWellFormed T → is_ignored T [] k ≡ false
told T zero well = refl
told T (suc i) well = get-told T T.events i well.each

pub part_of_all : PartOfAll
part_of_all T q r K well = (
  λ part. record {
    order = part.order;
    within = part.within;
    rising = part.rising;
    just = λ k. (
      λ has. elim ((part.just k).0 has) [ inl taken ↦ inl taken.0 | inr x ↦ inr x ],
      λ x. (part.just k).1 (elim x [ inl carried ↦ inl (carried, told T k well) | inr late ↦ inr late ]),
    );
  },
  λ part. record {
    order = part.order;
    within = part.within;
    rising = part.rising;
    just = λ k. (
      λ has. elim ((part.just k).0 has) [ inl carried ↦ inl (carried, told T k well) | inr x ↦ inr x ],
      λ x. (part.just k).1 (elim x [ inl taken ↦ inl taken.0 | inr late ↦ inr late ]),
    );
  },
)
