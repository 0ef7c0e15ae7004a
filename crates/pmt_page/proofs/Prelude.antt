-- The names that the files here cite of std, of the crates below and of specs/. Declares nothing.
pub use Rattle.std.proofs.Common.{◌≡◌, ℕ, ◌-◌, ◌==◌, ◌||◌, Bool, true, false, List, [], ◌∷◌, ◌++◌, length, take, codes, refl, sym, ap, ap₂, ◌∙◌, arith, append_assoc, append-nil, length-append, true≢false, if◌then◌else◌, zero, suc, ◌<◌, map, get_or, Some, slice_get, subst, ◌/◌, ◌%◌, ◌+◌, ◌≤◌, drop, drop-cons, add-one, Result, Ok, Err, OnOk, ◌⊎◌, inl, inr, nat_lt, rules, IfOk}
pub use Rattle.std.specs.List.{AllByRecursion, flat_map, list_any, IsDistinct}
pub use Rattle.std.proofs.Math.Seq.{take-append_seam, drop-append_seam}
pub use Rattle.std.proofs.lemmas.Bool.{cond-false, cases_lt, cond-true, or_parts}
pub use Rattle.std.proofs.lemmas.Grind.{flat_map-append, elements}
pub use Rattle.std.specs.Borrow.{Bor}
pub use Rattle.std.proofs.lemmas.List.{map-append, length-map, get_or-map, drop_all, take_all, take_more}
pub use Rattle.std.specs.Int.Digits.{digits_of, AllBelowBase}
pub use Rattle.std.proofs.lemmas.Int.Digits.{digits_of_step, all_below_base_digits_of, same_from_digits_of}
pub use Rattle.std.proofs.lemmas.Bool.Decides.{nat_tests}
unfoldable pub use Rattle.pmt_page.specs.Pages.{filled, page}
pub use Rattle.pmt_page.specs.Pages.{separated_byte, array_of_lines, has_lf, LinesBecomeArray, embedded, embedded_byte, ColumnsTellEvents, html_byte, quoted_byte, quoted, source_file, source_part, AreTexts, Parts}
unfoldable pub use Rattle.pmt_page.specs.Columns.{columns_with}
pub use Rattle.pmt_page.specs.Columns.{listed, digit, short, op_letter, op_column, numbers_of, first_address, first_length, second_address, second_length, stored_bytes, step, steps, number_column, value_column, found_columns, dropped_letter, dropped_letters, safe_field, verdict_letter}
pub use Rattle.pmt_text.specs.Prelude.{Event, Op, Store, Clwb, ClflushOpt, Clflush, Sfence, Mfence, IsPersist, IsOrderedBefore, Verdict, IsEvent, IsOp}
pub use Rattle.pmt_page.specs.declared.events.NumberColumn.TheVariants.{Thread, Address, Length, SecondAddress, SecondLength}
unfoldable pub use Rattle.pmt_text.specs.Spelling.{hex_bytes}
pub use Rattle.pmt_text.specs.Spelling.{glyph, hex_pair}
pub use Rattle.pmt_page.specs.declared.labels.Label.{Label}
