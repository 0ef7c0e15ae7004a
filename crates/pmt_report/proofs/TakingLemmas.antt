-- What is known after calls of a source.
use Rattle.std.proofs.Common.{◌≡◌, ℕ, List, Option, Some, None, Ok, add-zero}
use Rattle.pmt_model.specs.declared.event.Event.{Event}
use Rattle.pmt_text.specs.declared.source.SourceState.{SourceState}
use Rattle.pmt_text.specs.declared.source.SourceState.TheVariants.{Open, Ended, Failed}
use Rattle.pmt_text.specs.Coming.{Coming}
use Rattle.pmt_text.specs.Sources.{Gives, TellsNext, TakesNext, CountsReads}
use Rattle.pmt_text.proofs.SourceLemmas.{Gives-over}
use Rattle.pmt_report.specs.Checks.{EndsAfter, KeepsCount}

-- an event leaves an open source open
pub open-some : (s new : SourceState) (e : Event) → s ≡ Open → TellsNext s (Ok (Some e)) new → new ≡ Open
open-some Open new e h t = t
open-some Ended new e h t = cc
open-some (Failed f) new e h t = cc

-- what was given leaves the count of failed reads
pub count-ok : {T : Type 0} (a b d : Option ℕ) (x : T) → KeepsCount a b → CountsReads b (Ok x) d → KeepsCount a d
count-ok None b d x k r = tt
count-ok (Some n) None d x k r = cc
count-ok (Some n) (Some m) d x k r = cc (add-zero m)

-- at the end all that was given is all that came
pub ends-after : (a b d : Option Coming) (es : List Event) → Gives a es b → TakesNext b (Ok None) d → EndsAfter a es
ends-after a b d es given taken = Gives-over a b es None given taken.0
