-- The names that the files here cite of std, of the crates below and of specs/. Declares nothing.
pub use Rattle.std.proofs.Common.{ℕ, ◌+◌, ◌≤◌, List, arith, ◌≡◌, zero, suc, [], ◌∷◌, Some, refl, true, subst, inl, inr, ◌<◌, length, ◌-◌, Bool, false, ◌==◌, sym, ap, ◌∙◌, eqb-true, None, ◌++◌, filter_map, le_antisymm, max, Option, unwrap_or, subst₂}
pub use Rattle.std.specs.Prelude.{◌↔◌, slice_get, ◌⊎◌, if◌then◌else◌, nat_lt, nat_le}
pub use Rattle.std.proofs.lemmas.Bool.{cases_lt, cases_eq, and_parts, ltb-true, lt-ltb, false_from_ne_true, le-leb}
pub use Rattle.pmt_laws.specs.Prelude.{Vectors, InBox, Recording, history, count_at, VectorsAt, front_at, Written, line_of, Stores, writes, IsTrace, IsEventIn, IsAct, AllByRecursion, Flushes, Fences, Has, cut, matching_place, Act, Clflushes, Asserts, IsEmptyFence, count, mark, front, Image, image_of, CrashAt, ByFlush, IsRising, Event, event, IsNeverPersisted, IsFlushedAfter, IsFlushOf, ByClflush, IsOverwritten, Span, PersistPasses, OrderedPasses, open_mark, IsRedundantFlush, IsRedundantClflush, act}
pub use Rattle.pmt_laws.proofs.Histories.{front-mono, front-le-count, act-unique, act-within, history-step, history-act, count-mono, event-some}
pub use Rattle.pmt_part_laws.specs.Parts.{IsPart, PartVectors, IsWellFormed, IsPending, IsLastOpen, IsCarried, PartCarries, PartEmptyFence, PartFronts, upon, safe_image, PartImages, IsDecidedBy, PartKeeps, stretch, PartIsMade, PartNeverPersists, PartFlushedAfter, PartOverwrites, PartPersists, PartOrders, PartAsideFails, PartRedundantFlush, PartRedundantClflush}
pub use Rattle.pmt_laws.proofs.CutLemmas.{place-mono, has-above, place-kept, has-dec, place-low, place-dropped}
pub use Rattle.pmt_slices.specs.Slices.{IsSubsequence}
pub use Rattle.pmt_slices.proofs.CuttingLemmas.{kept-act, act-origin, placed-later, later-origin, placed-by, IsOrigin}
pub use Rattle.pmt_laws.proofs.FrontLemmas.{IsMarkOf, mark-reached, mark-greatest, completed-le_front, IsFrontOf, front-reached}
pub use Rattle.pmt_laws.proofs.LastFlushes.{IsLastFlush, last-flush}
pub use Rattle.pmt_safety.proofs.StoreLemmas.{count-at_store, store-by}
