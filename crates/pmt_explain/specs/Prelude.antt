-- The names of the model, of causes and of failures that the crates above cite, types too. Declares nothing.
pub use Rattle.pmt_laws.specs.Prelude.{Recording, ByFlush, Event, Op, Store, Clwb, ClflushOpt, Clflush, Sfence, Mfence, IsPersist, IsOrderedBefore, Span, Stores, event, history, count_at, front_at, PersistPasses, OrderedPasses, option_map, Layout, line_of, All, Act, Flushes, Clflushes, Fences, Asserts, IsTrace, IsAct, act, IsFlushOf, ByClflush, Written, count, act_of, front, IsRising, Has, IsKeep, IsKept, IsFormat, last_store_number, writes, image_of, IsStrictlyIncreasing, dedup, always_stays, Stays, with_line, lines_of, Ends, IsSafe, option_eq, AllByRecursion, Vectors, has_line, InBox, cut, matching_place, Verdict, InSpan, IsVerdictOf, VectorsAt, last_store, list_any, filter_map, range_with_len}
pub use Rattle.pmt_reasons.specs.Causes.{IsCause, IsFirstFence, IsUnfenced, IsPending, IsUnflushed, IsFirstFenceAt}
pub use Rattle.pmt_reasons.specs.Reasons.{HasFlushed, IsReason, OfFlush, OfClflush, OfFence, IsFlushReason, IsFenceReason, IsMarking, IsNextFence, IsOvertaken}
pub use Rattle.pmt_reasons.specs.Failures.{IsLost, IsFailureOf, IsFailureAt, IsPersistFailure, IsOrderedFailure, persisted_at, IsLastIn, IsFirstLost, IsKeptWithout, IsNoLater}
pub use Rattle.pmt_reasons.specs.Mends.{mend_of, KeepsInLine, MendsFailure}
pub use Rattle.pmt_reasons.specs.declared.cause.Cause.{Cause}
pub use Rattle.pmt_reasons.specs.declared.cause.Cause.TheVariants.{Later, Unflushed, Unfenced}
pub use Rattle.pmt_reasons.specs.declared.failure.ByteStore.{ByteStore}
pub use Rattle.pmt_reasons.specs.declared.failure.Failure.{Failure}
pub use Rattle.pmt_reasons.specs.declared.mend.Mend.{Mend}
pub use Rattle.pmt_reasons.specs.declared.reason.Reason.{Reason}
