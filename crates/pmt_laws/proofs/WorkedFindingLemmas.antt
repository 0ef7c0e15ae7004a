-- What the definitions say of the worked traces with findings, of the order within a line, and of lines of other sizes.
use Rattle.std.proofs.Common.{◌≡◌, ℕ, ◌≤◌, ◌⊎◌, [], ◌∷◌, true, inl, inr, refl, lit<, lit≤, arith}
use Rattle.pmt_laws.specs.Prelude.{writes, Overwritten, history, IsFinding}
use Rattle.pmt_laws.specs.Worked.{store, clwb, clflush, double_flush, DoubleFlush, overwritten_before_flush, OverwrittenBeforeFlush, order_within_a_line, OrderWithinALine, flushed_further_on, WideLine, NarrowLine, clflush_twice, ClflushTwice}
use Rattle.pmt_laws.proofs.Histories.{act-unique}
use Rattle.pmt_laws.proofs.RedundantLemmas.{redundant_flush_by_fronts, redundant_clflush_by_fronts}
use Rattle.pmt_laws.proofs.OverwrittenLemmas.{overwritten_by_numbers}
use Rattle.pmt_laws.proofs.ByteAssertions.{keeps, covered-passes, passes-covered, no_later-passes, passes-no_later}
use Rattle.std.proofs.lemmas.Bool.Decides.{nat_tests}
use Rattle.pmt_laws.proofs.WorkedLemmas.{unredundant_flush, unredundant_clflush}

-- The first flush marks the store, and the second one alone is kept.
pub double_flush_says : DoubleFlush
double_flush_says = record {
  second_is_redundant = inl (0, 64, (redundant_flush_by_fronts double_flush 0 64 3 (clwb 0 0x1000, refl, refl)).1 (lit≤ tt));
  first_is_not = unredundant_flush double_flush 0 64 2 (clwb 0 0x1000, refl, refl) (λ above. omega arith);
  kept = keeps double_flush (1 ∷ 3 ∷ 4 ∷ []) refl;
}

-- A store of one byte writes at its address alone.
writes-one : (a value byte : ℕ) → writes (record { addr = a; bytes = value ∷ [] }) byte ≡ true → byte ≡ a
writes-one a value byte e = grind (arith, nat_tests)

-- No byte is written by both of the last two stores.
not_beside : IsFinding overwritten_before_flush (Overwritten 2 3) → ⊥
not_beside o = grind (arith, nat_tests, act-unique, writes-one)

-- The last store overwrites the first one, and not the one beside it.
pub overwritten_before_flush_says : OverwrittenBeforeFlush
overwritten_before_flush_says = record {
  same_byte =
      (overwritten_by_numbers overwritten_before_flush 1 3).1 (
        64,
        record { addr = 0x1000; bytes = 1 ∷ [] },
        record { addr = 0x1000; bytes = 3 ∷ [] },
        0x1000,
        record {
          is_earlier = (store 0 0x1000 1, refl, refl);
          is_later = (store 1 0x1000 3, refl, refl);
          writes_later = refl;
          last = refl;
          unflushed = lit< tt;
        },
      );
  byte_beside = not_beside;
  kept = keeps overwritten_before_flush (1 ∷ 2 ∷ 3 ∷ []) refl;
}

-- The earlier store of the line has the smaller rank.
pub order_within_a_line_says : OrderWithinALine
order_within_a_line_says = record {
  passes = no_later-passes (history order_within_a_line 3) 0x1000 0x1008 (inl (refl, lit≤ tt));
  fails = λ passes. go (passes-no_later (history order_within_a_line 4) 0x1008 0x1000 passes);
  kept = keeps order_within_a_line (1 ∷ 2 ∷ 3 ∷ 4 ∷ []) refl;
}
  where
    go : (◌≡◌ {A = ℕ} 64 64 × (2 ≤ 1)) ⊎ (2 ≤ 0) → ⊥
    go (inl same) = omega (arith, same.1)
    go (inr above) = omega arith

-- The flush is of the line of the store.
pub wide_line_says : WideLine
wide_line_says = record {
  fenced = (refl, refl);
  passes = covered-passes (history (flushed_further_on 128) 4) 0x1000 (lit≤ tt);
  kept = keeps (flushed_further_on 128) (1 ∷ 2 ∷ 3 ∷ 4 ∷ []) refl;
}

-- The flush is of a line without stores.
pub narrow_line_says : NarrowLine
narrow_line_says = record {
  fenced = (refl, refl);
  next_line = (refl, refl);
  fails = λ passes. let above : 1 ≤ 0 = passes-covered (history (flushed_further_on 64) 4) 0x1000 passes in omega arith;
  redundant = inl (0, 65, (redundant_flush_by_fronts (flushed_further_on 64) 0 65 2 (clwb 0 0x1040, refl, refl)).1 (lit≤ tt));
  kept = keeps (flushed_further_on 64) (1 ∷ 4 ∷ []) refl;
}

-- The second clflush comes when the store is safe.
pub clflush_twice_says : ClflushTwice
clflush_twice_says = record {
  second_is_redundant = inr (64, (redundant_clflush_by_fronts clflush_twice 64 3 (clflush 0 0x1000, refl, refl)).1 (lit≤ tt));
  first_is_not = unredundant_clflush clflush_twice 64 2 (clflush 0 0x1000, refl, refl) (λ above. omega arith);
  kept = keeps clflush_twice (1 ∷ 2 ∷ []) refl;
}
