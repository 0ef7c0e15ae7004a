-- The names that the files here cite of std, of the crates below and of specs/. Declares nothing.
pub use Rattle.std.proofs.Common.{◌≡◌, ℕ, zero, suc, ◌+◌, ◌-◌, ◌<◌, ◌≤◌, inl, inr, List, [], ◌∷◌, length, take, drop, slice_range, filter_map, Some, refl, sym, ap, ap₂, subst, ◌∙◌, arith, Bool, true, false, min, get_or, set, get_or-set_same, get_or-set_other, map, reverse, true≢false, ◌++◌, filter, append_assoc, ◌⊎◌, Option, None, ◌≢◌, eq-eqb, if◌then◌else◌, le_antisymm, ◌==◌, length-append, append-nil, Result, Ok, Err, lt-ltb, cond, nat_lt, rules}
pub use Rattle.std.specs.Prelude.{slice_get, ◌↔◌, not, nat_eq, replicate, IfSome, IfErr}
pub use Rattle.std.proofs.lemmas.Bool.{cases_lt, cases_eq, ne_eqb, not_from_false}
pub use Rattle.std.proofs.lemmas.List.{take_all, length-set, get_or-replicate, length-replicate, length-take, take-append-drop, append_cancel_left, drop_at, drop-drop}
pub use Rattle.std.proofs.Math.Seq.{take-suc, take-add}
pub use Rattle.std.proofs.lemmas.Option.{slice_get-get_or, slice_get_within}
pub use Rattle.std.specs.Io.KnownBytes.{Consumes, Keeps, prepend_known, IsAtEnd}
pub use Rattle.std.proofs.lemmas.Grind.{flat_map-append, elements}
pub use Rattle.std.proofs.lemmas.Result.{on_ok_weaker, IfOk-weaker}
pub use Rattle.pmt_laws.specs.Prelude.{Event, Recording, event, IsRising, Has, matching_place, Stores, cut, Flushes, Fences, act, history, front, front_at, AllByRecursion, with_event, Op, IsEventIn, IsOp, Written, Act, Clflushes, Asserts, IsAct, count_at, list_any, Span, Layout, line_of, writes, act_of, InSpan, IsTrace, flat_map, onto_first, event_limit}
pub use Rattle.pmt_laws.proofs.Histories.{event-some, act-within, act-unique, front-mono}
pub use Rattle.pmt_laws.proofs.CutLemmas.{has-above, place-low, place-mono}
pub use Rattle.pmt_asked.specs.declared.ignoring.ByteRange.{ByteRange}
pub use Rattle.pmt_part_laws.specs.Parts.{stretch, IsCarried, IsCarry, IsWellFormed, IsPending, IsLastOpen}
pub use Rattle.pmt_parts.specs.declared.part.Part.{Part}
pub use Rattle.pmt_parts.specs.Making.{IsPartOf, IsPartBut, IsOlderOrdered, AsideByWhole, AsideIsAll, IsTaken, AreChosen, through, ComesNext, PartOfAll, IsOrderedWith, HasByte, HasOp, IsWritten, IsMet, PartCarriesAt, number_in}
pub use Rattle.pmt_parts.specs.Runs.{answered, FollowOn, AreAllParts, IsCutText, KeepsTo, BeginsWith, IsCutSoFar, Extends, ReadsOn, IsRefusedBehind, IsRefusedPast, IsRefusedText, RefusedAs, StopsAs}
pub use Rattle.pmt_slices.specs.Slices.{IsUnwritten, IsSubsequence}
pub use Rattle.pmt_slices.proofs.CuttingLemmas.{kept-event, kept-act, act-origin, placed-later, placed-by, later-origin, place-in, place-out}
pub use Rattle.pmt_tables.specs.Flags.{is_kept_at}
pub use Rattle.pmt_parts.specs.Meeting.{TellsCarried, AreCarried, Since, IsOpenAt, flush_key, HasKey, IsLater}
pub use Rattle.pmt_asked.specs.Choosing.{is_ignored, are_ignored, is_op_ignored, is_event_ignored}
pub use Rattle.pmt_safety.specs.Safety.{safe_store_at}
pub use Rattle.pmt_safety.proofs.SafetyLemmas.{front-below}
pub use Rattle.pmt_explain.specs.Following.{IsCompleteBy, ByFence, ByItself, IsCompletedAfter}
pub use Rattle.pmt_slices.proofs.CoverLemmas.{completed-safe}
unfoldable pub use Rattle.pmt_parts.specs.Cutting.{long_coming}
pub use Rattle.pmt_parts.specs.Cutting.{line_count, EndsLine, long_item, items_then, EventsOfPieces, FaultsOfPieces, IsFront, IsPiece}
unfoldable pub use Rattle.pmt_text.specs.Coming.{lines_coming}
pub use Rattle.pmt_text.specs.Coming.{judged, whole, ends_with, fault_at, item_then, rest_fault, text_lines, header_then, Refuses, Coming, Items}
unfoldable pub use Rattle.pmt_text.specs.Spelling.{event_line, event_text, header, spelling}
pub use Rattle.pmt_text.specs.Spelling.{ended}
pub use Rattle.pmt_parts.specs.Reading.{coming, held}
pub use Rattle.std.proofs.KnownBytes.{Consumes-trans, Consumes-kept}
pub use Rattle.pmt_part_laws.proofs.MakingLemmas.{has-both, rising-both, stretch-rising, stretch-has}
