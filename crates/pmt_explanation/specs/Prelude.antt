-- The names that explanations and their JSON cite of the crates below, types too. Declares nothing.
pub use Rattle.pmt_explain.specs.Following.{past_of, IsSafePlace, IsUpcoming, TellsSafe}
pub use Rattle.pmt_explain.specs.Prelude.{Stores, Ends, Recording, IsAct, history, count_at, Written, IsSafe, IsPending}
pub use Rattle.pmt_entries.specs.Entries.{AreEntries, is_any_with}
pub use Rattle.pmt_entries.specs.Prelude.{Cause, ByteStore, Reason, Mend, mend_of, StoredByte, CrashByte, Dropped, LostGroup, OverwrittenGroup, FailureKey, Group, LateSpot, first_in, Origin, PlaceRow, SavedBefore, Hint, HintKind, LineCount, Label, Line, AssertionKind, Persist, Ordered, CauseKind, Later, Unflushed, Unfenced, OneLineShort, OpenAtStore, SplitWord, StoredAfterFlush, StoredAfterMark, Picks, AreGroups, Keyed, AreFailureGroups, IsKeyed, AreGrouped, IsIn, Tells, AreDropped, AreWaited, lost_item, AreLostGroups, Overwriting, AreLateItems, AreThose, IsOneLineShort, IsSplitWord, IsStoredAfterFlush, IsStoredAfterMark, IsToldOnPath, IsToldOpen, AreHintsOf, ArePathHintsOf, event_of, AreOverwrittenGroups, dropped_item, AreLeftPaths, ArePaths, ArePlaces, PlaceTable}
pub use Rattle.pmt_entries.specs.declared.entries.Entries.{Entries}
pub use Rattle.pmt_entries.specs.declared.entries.Entry.{Entry}
pub use Rattle.pmt_entries.specs.declared.entries.Subject.{Subject}
pub use Rattle.pmt_entries.specs.declared.losses.LossKey.{LossKey}
pub use Rattle.pmt_entries.specs.declared.sites.Site.{Site}
pub use Rattle.pmt_entries.specs.declared.verdict.Verdict.{Verdict}
pub use Rattle.pmt_entries.specs.declared.verdict.Verdict.TheVariants.{Nothing, Fail, Lost, Suspect, Check, ProbablyOk, Ok, OkSoFar}
pub use Rattle.pmt_entries.specs.declared.weight.Weight.{Weight}
pub use Rattle.pmt_failures.specs.Showing.{AreShownCrashes, IsShownCrash, Fails, AreShown, failing_events, IsShown, unwritten_of}
pub use Rattle.pmt_failures.specs.declared.failures.RangeAfter.{RangeAfter}
pub use Rattle.pmt_failures.specs.declared.failures.ShownCrash.{ShownCrash}
pub use Rattle.pmt_failures.specs.declared.failures.ShownFailure.{ShownFailure}
pub use Rattle.pmt_failures.specs.declared.unwritten.Unwritten.{Unwritten}
pub use Rattle.pmt_asked.specs.Choosing.{label_of, kind_name, tells_all, frame_of, inner_frame, is_asked_for, is_left_out}
pub use Rattle.pmt_asked.specs.declared.choosing.Choice.{Choice}
pub use Rattle.pmt_asked.specs.declared.choosing.Kind.{Kind}
pub use Rattle.pmt_asked.specs.declared.choosing.Kind.TheVariants.{Late, Failure, NeverPersisted}
pub use Rattle.pmt_asked.specs.declared.ignoring.ByteRange.{ByteRange}
pub use Rattle.pmt_asked.specs.declared.ignoring.Ignored.{Ignored}
pub use Rattle.pmt_asked.specs.declared.labels.Labels.{Labels}
pub use Rattle.pmt_asked.specs.declared.options.Options.{Options}
