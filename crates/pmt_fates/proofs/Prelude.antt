-- The names that the files here cite of std, of the crates below and of specs/. Declares nothing.
pub use Rattle.std.proofs.Common.{◌≡◌, ◌≢◌, ℕ, ◌*◌, ◌<◌, ◌≤◌, ◌⊎◌, inl, inr, Bool, true, false, ◌==◌, cond, List, [], ◌∷◌, ◌++◌, length, set, refl, sym, ap, ◌∙◌, arith, get_or-set_same, get_or-set_other, suc, ◌+◌, length-append, Some, not, subst, zero, map, take, get_or, ◌||◌, ◌&&◌, Option, None, ◌-◌, ◌^◌, rules}
pub use Rattle.std.proofs.lemmas.Bool.{cases_eq, eq-eqb, ne_eqb, cases_lt, lt-ltb, le-ltb, false≢true}
pub use Rattle.std.proofs.lemmas.List.{append-nil, length_push, length-take, length-set, reverse-append, length-replicate, get_or-replicate, length-reverse, take_all, take_more}
pub use Rattle.std.proofs.lemmas.List.Elements.{filter-append, All-from_recursion}
pub use Rattle.std.proofs.lemmas.List.Sums.{count_by-le-length, sum_by_push, sum_by-cons, take_while-cons, length-filter, sum_by-take-le}
pub use Rattle.std.specs.Prelude.{slice_get, slice_index, if◌then◌else◌, nat_lt, nat_le, ⊤, reverse, unwrap_or, nat_eq, replicate}
pub use Rattle.std.proofs.lemmas.Option.{same_Some, slice_get-get_or, get_or_from_slice_get, slice_get_within, slice_get_past, none-some, slice_get-map}
pub use Rattle.std.specs.Ordering.{nat_cmp}
pub use Rattle.std.specs.List.Sorted.{IsPermutation, IsSortedByKey, IsStableByKey}
pub use Rattle.std.proofs.lemmas.List.Sorted.{IsPermutation-trans, IsNonDecreasingBy-from_sort, ties_still_rise, All-permutation, sum_by-IsPermutation, IsPermutation-cons, IsPermutation-insert, IsPermutation-map, IsPermutation-refl, IsPermutation-sym, answers_always}
pub use Rattle.std.proofs.lemmas.Grind.{elements, moves}
pub use Rattle.pmt_laws.specs.Prelude.{Event, event_limit, sum_by, Recording, event, count_by, prefix_len, sum, take_while, filter, list_any, Op, Store, Clwb, ClflushOpt, Clflush, Sfence, Mfence, IsPersist, IsOrderedBefore, AllByRecursion, find, option_map, Layout, Written, line_of, Act, Stores, Flushes, Clflushes, Fences, Asserts, IsAct, act_of, IsEventIn, IsOp, IsTrace}
pub use Rattle.pmt_fates.specs.declared.counts.Counts.{Counts}
unfoldable pub use Rattle.pmt_fates.specs.Counting.{thread_rows}
pub use Rattle.pmt_fates.specs.Counting.{by_thread, counts_of, is_store, is_clwb, is_clflushopt, is_clflush, is_sfence, is_mfence, is_persist, is_ordered, stored, with_op, counts_in, bar_of, fence_sizes, is_fence, is_fence_of, is_flush_of, waiting, with_size, less, paid, wasted, row_of, rows_below, sizes_after, waiting_after, AreFew, AreSizes, IsTally}
pub use Rattle.pmt_explain.proofs.GroupingLemmas.{get-before, get-last, IsGathered, gathered-join, gathered-new, groups-told, places-within}
pub use Rattle.pmt_fates.specs.declared.fate.Fate.{Fate}
pub use Rattle.pmt_fates.specs.Fates.{event_fate, is_listed, op_fate, AreMarks, with_mark, AreFates, fence_fate, flush_fate, IsOwnFence, IsSavedAt, TellsSaved, AreLast, AreSavers, IsLastBefore, IsSaver, saved_by, saved_if, with_saver}
pub use Rattle.pmt_fates.specs.declared.fences.FenceSizes.{FenceSizes}
pub use Rattle.pmt_explain.specs.Dropping.{event_of}
pub use Rattle.pmt_fates.specs.declared.place_row.PlaceRow.{PlaceRow}
pub use Rattle.pmt_fates.specs.Places.{AreInOrder, ComesBefore, rank, AreLeftPaths, AreLeftPathsIf, ArePaths, ArePathsIf, is_left_alone, is_partly_left, may_differ, misses, needs_paths, ArePlaces, AddUp, count_in, fate_at, is_fence_fate, is_flush_fate, is_in_time, is_same, is_store_fate, origin_in, place_items, row_in, AreRows, find_in, find_last_in, is_missed, saved_at, Finds, IsThere, IsNew, same_place, AreSmall, else_first, else_saved, more, row_at, with_fate, before, place_number, row_place, ArePlacesBy, AreSaved}
pub use Rattle.pmt_laws.proofs.Histories.{event-some, event-none, act-unique, act-within}
pub use Rattle.pmt_explain.specs.Grouping.{Picks, AreGroups}
pub use Rattle.pmt_causes.specs.declared.failure_keys.Origin.{Origin}
pub use Rattle.pmt_causes.specs.declared.grouping.Group.{Group}
pub use Rattle.pmt_causes.specs.declared.grouping.Keyed.{Keyed}
pub use Rattle.pmt_causes.specs.Groups.{IsIn, Tells, first_in, origin_of}
pub use Rattle.pmt_fates.specs.declared.saved_before.SavedBefore.{SavedBefore}
pub use Rattle.pmt_causes.specs.declared.failure_keys.Origin.TheVariants.{Label, Thread}
pub use Rattle.pmt_causes.proofs.ExactFailures.{origin-exact}
pub use Rattle.pmt_causes.proofs.GroupLemmas.{map-length}
pub use Rattle.pmt_explain.specs.Following.{IsFenceAfter, IsFirst, past_of, AreSafePlaces, IsSafePlace, TellsSafe, AreOwnFences}
pub use Rattle.pmt_fates.specs.declared.fate.Fate.TheVariants.{Claim, Left}
