-- The names that the files here cite of std, of the crates below and of specs/. Declares nothing.
pub use Rattle.std.proofs.Common.{◌≡◌, ℕ, zero, suc, ◌+◌, ◌-◌, ◌<◌, ◌≤◌, ◌⊎◌, ◌==◌, inl, inr, Bool, true, false, List, [], ◌∷◌, ◌++◌, length, map, refl, sym, ap, subst, ◌∙◌, arith, length-append, ltb-true, true≢false, if◌then◌else◌, nat_lt, ne_eqb, lt-ltb, take, Option, ap₂, reverse, Result, Ok, Err, Some, None, get_or, set, max, min, length-set, get_or-set_same, get_or-set_other, leb-true, drop, append_assoc, ◌*◌, ◌/◌, ◌^◌, codes, append-nil, mul-div_cancel, option_map, rules, add-one}
pub use Rattle.std.specs.Prelude.{◌||◌, nat_le, slice_get, unwrap_or, ◌&&◌, not}
pub use Rattle.std.proofs.lemmas.Bool.{cases_eq, eq-eqb, cases_lt, le-leb, and_parts, and_from, eqb-true, ltb-false, le-ltb}
pub use Rattle.std.proofs.lemmas.List.{take_all, length-take, take_more, reverse-append, length-map, drop_more, flat_map_more, map-append, map_push, get_or_append_left, get_or_push, take-take, drop_all}
pub use Rattle.std.specs.Io.KnownBytes.{Consumes, Appends}
pub use Rattle.std.proofs.lemmas.Option.{slice_get-get_or, slice_get_within}
pub use Rattle.std.specs.List.{join_with_byte, position_or_len, before_first, after_first}
pub use Rattle.std.proofs.lemmas.List.Splits.{join_with_byte-slice_split, slice_split_first}
pub use Rattle.std.proofs.lemmas.List.Elements.{filter-append}
pub use Rattle.std.proofs.lemmas.Grind.{elements}
pub use Rattle.std.proofs.lemmas.Fn.{filter_same}
pub use Rattle.pmt_laws.specs.Prelude.{AllByRecursion, flat_map, has_line, Written, Image, Recording, history, Act, Stores, Flushes, Clflushes, Fences, count, Vectors, count_at, with_line, front_at, InBox, writes, write, IsAct, VectorsAt, front, Any, filter, Event, Layout, line_of, act, act_of}
pub use Rattle.pmt_image.specs.declared.crash.LineStores.{LineStores}
pub use Rattle.pmt_image.specs.Crashes.{with_counts, IsOffBy, set_to, settings, written_by, persisted_entry, stored_entry, IsBetween, IsNear, AreSame, AllDiffer, AreNear, left_by, low_of, grown, chosen, fronts_off, Table, AreFound, left_by_all, count_in, asked_count, persisted_by}
pub use Rattle.pmt_image.specs.declared.pool.Pool.{Pool}
pub use Rattle.pmt_image.specs.declared.persisting.StoreFault.{StoreFault}
pub use Rattle.pmt_image.specs.Pools.{FindsFault, over, AllInside, IsInside, IsOpFault}
pub use Rattle.pmt_image.specs.Copying.{IsRefused, refusal_of, IsCopied, IsEndedBy, Copies, WritesImage, copy_result, image_after, copy_reads, copy_writes, image_reads, image_writes}
pub use Rattle.pmt_laws.proofs.BoxLemmas.{box-ends, same_fronts-vectors, vectors_are_a_box}
pub use Rattle.pmt_laws.proofs.Histories.{front-le-count, event-none, event-some, history-act, count-grows, history-step, act-unique}
pub use Rattle.pmt_explain.specs.declared.lines.LineCount.{LineCount}
pub use Rattle.pmt_explain.specs.Crashes.{line_count, full_line}
pub use Rattle.pmt_image.specs.Listing.{is_kind, is_kind_of, stores_act, raises_act, turns, AreAlike, HaveAllCrashes, all_words, crash_words, line_words, Asks, line_word, all_arguments, line_arguments, crash_arguments, CrashesAreReadBack}
unfoldable pub use Rattle.pmt_text.specs.Spelling.{address, numeral}
pub use Rattle.pmt_text.specs.Spelling.{ended}
pub use Rattle.pmt_text.specs.Judging.{address_in, number_in, fields_of, capped, digit_of}
pub use Rattle.pmt_text.proofs.NumeralLemmas.{AreDigits, AreDigits-numeral, number_in-numeral, no_digit-space, numeral-number_in}
pub use Rattle.pmt_text.proofs.FieldLemmas.{address_in-address, address-address_in}
pub use Rattle.pmt_text.proofs.LineLemmas.{parts, IsFree, parts-append, parts-join}
pub use Rattle.pmt_explain.specs.Following.{TellsSafe}
pub use Rattle.pmt_image.specs.declared.spans.StoreSpan.{StoreSpan}
pub use Rattle.pmt_image.specs.Spans.{AreSpans, IsSpan, line_by, lines_of_spans, span_by, stored_by, with_span, exposed_by, IsAt}
pub use Rattle.pmt_text.specs.Counting.{inner_device, failure_count}
