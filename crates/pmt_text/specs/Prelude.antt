-- The names of the model that the files here cite, its types too. Declares nothing.
pub use Rattle.pmt_model.specs.Values.{Span, Layout, IsRange, IsFormat, first_version, address_of, AreBytes, is_line_size}
pub use Rattle.pmt_model.specs.Ops.{store_of}
pub use Rattle.pmt_model.specs.Traces.{Recording, event, IsEvent, IsOp, IsEventIn, event_limit, in_format, IsTrace, with_events, empty, with_event}
pub use Rattle.pmt_model.specs.declared.event.Event.{Event}
pub use Rattle.pmt_model.specs.declared.event.Op.{Op}
pub use Rattle.pmt_model.specs.declared.event.Op.TheVariants.{Store, Clwb, ClflushOpt, Clflush, Sfence, Mfence, IsPersist, IsOrderedBefore}
pub use Rattle.pmt_model.specs.declared.fault.OpError.{OpError}
pub use Rattle.pmt_model.specs.declared.finding.Verdict.{Verdict}
