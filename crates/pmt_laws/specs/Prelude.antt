-- The names of the model, and of lists, that the crates above cite, types too, passed on from one place. Declares nothing.
pub use Rattle.pmt_model.specs.Values.{Span, line_of, Written, Layout, IsRange, IsStore, IsAddress, IsFormat, is_line_size, first_version}
pub use Rattle.pmt_model.specs.Machine.{Act, Stores, Flushes, Clflushes, Fences, Asserts, count, writes, image_of, Ends, Image, Vectors, write, State, IsMoment, Crash, Outstanding}
pub use Rattle.pmt_model.specs.Traces.{Recording, history, IsTrace, IsAct, count_at, lines_of, has_line, with_line, act, event, IsEventIn, IsOp, act_of, in_format, event_limit, VectorsAt, CrashAt, with_event, with_events, empty}
pub use Rattle.pmt_model.specs.Fronts.{front, front_at, IsCompleted, mark, open_mark, IsFront, InBox}
pub use Rattle.pmt_model.specs.Selections.{IsRising, Has, always_stays, IsSelection, cut, matching_place, IsFaithful, first_fall}
pub use Rattle.pmt_model.specs.Keeping.{IsKeep, IsKept, Stays, IsUsefulFlush, without, IsUsefulClflush, HasSameVectors, HasNoWaste}
pub use Rattle.pmt_model.specs.Assertions.{last_store, up_to_last, InSpan, Placed, PersistPasses, OrderedPasses, NoLater, IsPersisted}
pub use Rattle.pmt_model.specs.Findings.{ByFlush, IsFlushOf, ByClflush, last_store_number, IsSafe, IsEmptyFence, IsNeverPersisted, IsCovered, IsRedundantFlush, IsRedundantClflush, IsOverwritten, OverwritesBefore, last_flush, IsFlushedAfter}
pub use Rattle.pmt_model.specs.Analyses.{IsVerdictOf, OfPersist, OfOrdered, HasVerdict, InEventOrder, IsVerdicts, IsFindings, ComesFirst, IsReportedBefore, InReportOrder, HasFinding, reported_at, IsFinding, IsAnalysis}
pub use Rattle.pmt_model.specs.declared.event.Event.{Event}
pub use Rattle.pmt_model.specs.declared.event.Op.{Op}
pub use Rattle.pmt_model.specs.declared.event.Op.TheVariants.{Store, Clwb, ClflushOpt, Clflush, Sfence, Mfence, IsPersist, IsOrderedBefore}
pub use Rattle.pmt_model.specs.declared.finding.Finding.{Finding}
pub use Rattle.pmt_model.specs.declared.finding.Finding.TheVariants.{Overwritten, NeverPersisted, RedundantFlush, FenceWithoutFlush}
pub use Rattle.pmt_model.specs.declared.finding.Verdict.{Verdict}
pub use Rattle.std.specs.List.{AllByRecursion, AllZip, count_by, All, filter, list_any, position_from, enumerate_from, filter_map, range_with_len, position, IsDistinct, dedup, starts_with, cons_option, sum_by, prefix_len, sum, take_while, find, flat_map, Any, Contains, join_with_byte, insert, refill, remove, onto_first}
pub use Rattle.std.specs.List.Sorted.{IsPermutation, IsNonDecreasingBy, IsPartitionPoint, IsPartitionedBy, IsSortedByKey, IsStableByKey, IsStrictlyIncreasing, ties, IsSearchInRange, IsBinarySearchResult}
pub use Rattle.std.specs.Option.{option_eq, option_map, option_to_list}
