-- The names of explain's parts that entries, explanations and their JSON cite, types too. Declares nothing.
pub use Rattle.pmt_explain.specs.Grouping.{Picks, AreGroups, AreLostGroups}
pub use Rattle.pmt_explain.specs.OverwrittenGroups.{AreOverwrittenGroups}
pub use Rattle.pmt_explain.specs.Following.{IsFenceAfter, IsFirst, past_of, AreOwnFences}
pub use Rattle.pmt_explain.specs.Dropping.{AreDropped, event_of}
pub use Rattle.pmt_explain.specs.Prelude.{Cause, ByteStore, Reason, Mend, mend_of}
pub use Rattle.pmt_explain.specs.declared.bytes.CrashByte.{CrashByte}
pub use Rattle.pmt_explain.specs.declared.bytes.StoredByte.{StoredByte}
pub use Rattle.pmt_explain.specs.declared.dropped_event.Dropped.{Dropped}
pub use Rattle.pmt_explain.specs.declared.lines.LineCount.{LineCount}
pub use Rattle.pmt_explain.specs.declared.lost_grouping.LostGroup.{LostGroup}
pub use Rattle.pmt_explain.specs.declared.overwritten_grouping.Overwriting.{Overwriting}
pub use Rattle.pmt_explain.specs.declared.overwritten_grouping.OverwrittenGroup.{OverwrittenGroup}
pub use Rattle.pmt_causes.specs.Groups.{AreGrouped, first_in, AreFailureGroups, IsKeyed, IsIn, Tells, lost_item, label_of}
pub use Rattle.pmt_causes.specs.Late.{AreWaited, AreLateItems}
pub use Rattle.pmt_causes.specs.Dropped.{dropped_item}
pub use Rattle.pmt_causes.specs.declared.failure_keys.AssertionKind.{AssertionKind}
pub use Rattle.pmt_causes.specs.declared.failure_keys.AssertionKind.TheVariants.{Persist, Ordered}
pub use Rattle.pmt_causes.specs.declared.failure_keys.CauseKind.{CauseKind}
pub use Rattle.pmt_causes.specs.declared.failure_keys.CauseKind.TheVariants.{Later, Unflushed, Unfenced}
pub use Rattle.pmt_causes.specs.declared.failure_keys.FailureKey.{FailureKey}
pub use Rattle.pmt_causes.specs.declared.failure_keys.Origin.{Origin}
pub use Rattle.pmt_causes.specs.declared.grouping.Group.{Group}
pub use Rattle.pmt_causes.specs.declared.grouping.Keyed.{Keyed}
pub use Rattle.pmt_causes.specs.declared.late.LateSpot.{LateSpot}
pub use Rattle.pmt_causes.specs.declared.late.LateSpot.TheVariants.{Label, Line}
pub use Rattle.pmt_fates.specs.Places.{misses, standing, same_place, least_events, origin_in, AreLeftPaths, ArePaths, ArePlaces}
pub use Rattle.pmt_fates.specs.declared.place_row.PlaceRow.{PlaceRow}
pub use Rattle.pmt_fates.specs.declared.places.PlaceTable.{PlaceTable}
pub use Rattle.pmt_fates.specs.declared.saved_before.SavedBefore.{SavedBefore}
pub use Rattle.pmt_fates.specs.declared.standing.Standing.{Standing}
pub use Rattle.pmt_fates.specs.declared.standing.Standing.TheVariants.{LosesAll}
pub use Rattle.pmt_hints.specs.Claiming.{Claims, claim_at, has_line, is_claimed_line}
pub use Rattle.pmt_hints.specs.Contrasts.{nothing, AreContrasts}
pub use Rattle.pmt_hints.specs.Hints.{AreClaimedStores, IsSplitWord, IsStoredAfterMark, AreHintsOf, ArePathHintsOf, AreThose, IsOneLineShort, IsStoredAfterFlush, IsToldOnPath, IsToldOpen}
pub use Rattle.pmt_hints.specs.Numbers.{fence_by}
pub use Rattle.pmt_hints.specs.declared.contrast.Contrast.{Contrast}
pub use Rattle.pmt_hints.specs.declared.hint.Hint.{Hint}
pub use Rattle.pmt_hints.specs.declared.hint.HintKind.{HintKind}
pub use Rattle.pmt_hints.specs.declared.hint.HintKind.TheVariants.{StoredAfterFlush, OneLineShort, OpenAtStore, SplitWord, StoredAfterMark}
