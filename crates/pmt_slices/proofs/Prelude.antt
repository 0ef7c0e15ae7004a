-- The names that the files here cite of std, of the crates below and of specs/. Declares nothing.
pub use Rattle.std.proofs.Common.{◌≡◌, ℕ, ◌≤◌, List, Option, Some, None, refl, arith, zero, suc, ◌<◌, ◌⊎◌, inl, inr, Bool, true, false, length, [], ◌∷◌, get_or, sym, subst, ◌∙◌, true≢false, ◌≢◌, min, filter_map, ap, ◌==◌, ◌+◌, ◌*◌, ◌^◌, set, get_or-set_same, get_or-set_other, ◌-◌, max}
pub use Rattle.std.specs.Prelude.{◌↔◌, slice_get, if◌then◌else◌, MatchOption, replicate, nat_eq, nat_le, nat_lt}
pub use Rattle.std.proofs.lemmas.Bool.{cases_lt, le-leb, lt-leb, cases_eq, false≢true, eq-eqb, leb-true, lt-ltb, and_from}
pub use Rattle.std.proofs.lemmas.Option.{same_Some, none-some, slice_get-get_or, get_or_from_slice_get, slice_get_within}
pub use Rattle.std.proofs.lemmas.List.{length-set, get_or-replicate, length-replicate, append-nil, drop_all, take_all}
pub use Rattle.std.proofs.lemmas.Grind.{elements, common_steps, moves}
pub use Rattle.pmt_laws.specs.Prelude.{Written, Stores, Flushes, Clflushes, Fences, Recording, IsAct, IsSafe, Has, cut, matching_place, Span, Event, IsPersist, IsOrderedBefore, event, IsRising, Act, count_at, front_at, history, last_store_number, Op, Store, Sfence, Mfence, act, IsFormat, IsStore, line_of, InSpan, Layout, act_of, IsVerdictOf, OfPersist, OfOrdered, AllByRecursion, Asserts, writes, refill, PersistPasses, OrderedPasses}
pub use Rattle.pmt_explain.specs.Prelude.{IsFlushOf, ByFlush, ByClflush, option_map, Cause, Later, Unflushed, Unfenced, IsUnfenced, IsFirstFenceAt, IsFirstFence, IsCause, ByteStore, Failure, persisted_at, IsLost, IsNoLater, IsFirstLost, IsPersistFailure, IsOrderedFailure, IsFailureOf, IsFailureAt, option_eq}
pub use Rattle.pmt_laws.proofs.CutLemmas.{place-mono, has-above, place-low, place-kept}
pub use Rattle.pmt_reasons.proofs.CauseLemmas.{cause-unsafe, rank-above, marks-later}
pub use Rattle.pmt_safety.proofs.SafetyLemmas.{front-covers, safe-up_to, safe-later, front-below, safe-later as safe_store-later}
pub use Rattle.pmt_slices.specs.Slices.{IsSubsequence, IsFirstFlush, Tells, Itself, FirstFlush, FirstFence, cause_in, SliceTells, Speaks, IsRangeOf, IsInSlice, TheAssertion, OfStore, IsSlice, IsComing, IsChosen, HasChosen, Chooses, IsOfStore, IsFirstFlushBy, Completes, Covers, IsFlushAfter, IsAnyFenceAfter, IsCompletion, OfFence, OfClflush, TheStore, TheFlush, TheCompletion, TheCover, TheFence, HasCover, HasGrounds, store_in, failure_in, SliceFails, IsScan, IsGoneBack, TakesStore, ByFlush as ByFlushAndFence, ByClflush as ByOneClflush, IsAssertion, SliceJudges, verdict_in, IsStoreBy, line_in, IsLateStore, IsLostOrLate, IsLate, IsEarlyFence, IsInStoreSlice, OwnFence, IsStoreSlice, StoreSliceTells, is_fence, IsFate, IsOfFate, TheAssertion as TheAsserted, IsOfFailure, IsUnwritten, AreUnwritten, is_free, TakesBytes, HasLastStores, VerdictBySelection}
pub use Rattle.pmt_laws.proofs.Histories.{act-unique, act-within, count-mono, event-some, history-step}
pub use Rattle.pmt_safety.specs.Safety.{IsLastIn, IsSafeFrom, safe_store_at, IsLastIn as IsLast}
pub use Rattle.pmt_slices.specs.declared.coming.Coming.{Coming}
pub use Rattle.pmt_explain.specs.Following.{IsFirst, IsFenceAfter, IsCompleteBy, ByFence, ByItself, IsCompletedAfter, past_of}
pub use Rattle.pmt_explain.proofs.FirstLemmas.{first-same, first-either, first-here, first-over}
pub use Rattle.pmt_explain.proofs.FollowingLemmas.{own-flush, event-at}
pub use Rattle.pmt_laws.proofs.OverwrittenLemmas.{IsLastWriter, LastWriter, last_store_number-tells, last_store_number-from, last_store_number-is}
pub use Rattle.pmt_slices.specs.declared.scan.Scan.{Scan}
pub use Rattle.pmt_slices.specs.declared.unwritten.Unwritten.{Unwritten}
pub use Rattle.pmt_tables.specs.Slots.{IsSpanned, LinesAreMet}
pub use Rattle.pmt_slices.specs.Stories.{turn_of, IsTurn, IsOther, AreOthers, IsOfOthers, IsOfStory, IsNextFence, IsStorePart, IsStoreTold, IsInStoreStory, OfOthers, IsStoreStory, IsPart, IsTold, IsInStory, TheKept, OfLost, IsStory, StoryTells}
pub use Rattle.pmt_tables.proofs.LineLemmas.{size-of_format, IsSize, Bytes32, Bytes64, Bytes128, Bytes256, same-line, byte-from_writes}
