-- A stream under way, and what it tells when it ends.
use Rattle.std.proofs.Common.{◌≡◌, ◌≢◌, ℕ, ◌+◌, ◌<◌, ◌^◌, inl, inr, ⊎_elim, List, [], ◌∷◌, ◌++◌, length, take, Option, Some, None, Result, Ok, Err, refl, sym, ap, ◌∙◌, subst, arith, length-append}
use Rattle.std.specs.Prelude.{IfSome}
use Rattle.std.proofs.lemmas.List.{take_all}
use Rattle.std.proofs.Math.Seq.{take-append-add}
use Rattle.std.specs.Io.KnownBytes.{Keeps, Appends}
use Rattle.std.proofs.KnownBytes.{Appends-kept, Appends-trans}
use Rattle.pmt_laws.specs.Prelude.{Event, Layout, Recording, IsTrace, IsEventIn, empty, with_event, AllByRecursion}
use Rattle.pmt_text.specs.declared.kind.SourceError.{SourceError}
use Rattle.pmt_text.specs.declared.kind.SourceError.TheVariants as sources
use Rattle.pmt_text.specs.declared.source.SourceState.{SourceState}
use Rattle.pmt_text.specs.declared.source.SourceState.TheVariants as states
use Rattle.pmt_text.specs.Coming.{Coming, ComesWhole}
use Rattle.pmt_text.specs.Sources.{Gives, IsOver, Faults, HasFormat, TellsNext, KeepsFormat, IsGivenIn, IsOfLaterLine, CountsReads}
use Rattle.pmt_text.proofs.SourceLemmas.{Gives-trans, Gives-over}
use Rattle.pmt_taking.specs.Sourcing.{Shown}
use Rattle.pmt_taking.proofs.SourceRunLemmas.{SoFar, SameReads}
use Rattle.pmt_trimming.specs.declared.stream.Stream.{Stream}
use Rattle.pmt_trimming.specs.declared.stream_error.StreamError.{StreamError}
use Rattle.pmt_trimming.specs.declared.stream_error.StreamError.TheVariants.{Source, OutOfMemory, Write}
use Rattle.pmt_trimming.specs.Streaming.{IsOut, ComesFirst, ComesBefore, AreGiven, AreTaken, SourceRun, CameFirst, WritesFirst, Streams, TellsStream, CountsStream, IsSoFar, IsStreamOf, WritesPiece, WritesRest, Closes}
use Rattle.pmt_trimming.proofs.FlowLemmas.{out-short}

-- what the source showed at first, as far as it matters later
abbrev pub showed : Option Coming → SourceState → Option ℕ → Shown
showed first old reads = record { coming = first; state = old; format = None; failures = reads; room = 0 }

-- what it shows now
abbrev pub shows : Option Coming → SourceState → Option Layout → Option ℕ → ℕ → Shown
shows now new known reads room = record { coming = now; state = new; format = known; failures = reads; room = room }

-- So much has come and is out.
pub record Flow (first now : Option Coming) (old new : SourceState) (known : Option Layout) (had has : ℕ) (reads new_reads : Option ℕ) (room : ℕ) (before after : Option (List ℕ)) (faults new_faults : ℕ) (s : Stream) (written : ℕ) : Type 0 where
  pub trace : Recording
  pub text : List ℕ
  pub source : SoFar (showed first old reads) (shows now new known new_reads room) trace
  pub given : AreGiven had has trace
  pub stream : IsSoFar trace s text written
  pub out : Appends before after text
  pub unfailed : new_faults ≡ faults

all-append : (P : Event → Type 0) (es : List Event) (e : Event) → AllByRecursion P es → P e → AllByRecursion P (es ++ e ∷ [])
all-append P [] e all is = (is, tt)
all-append P (x ∷ es) e all is = (all.0, all-append P es e all.1 is)

-- ---- What came

comes-first : (first now : Option Coming) (T : Recording) → Gives first T.events now → HasFormat first (Some T.format) → ComesFirst first T
comes-first None now T given format = tt
comes-first (Some c) now T given format = (format, (given.0, given.1))

pub comes-over : (first now : Option Coming) (T : Recording) (fault : Option SourceError) → Gives first T.events now → HasFormat first (Some T.format) → IsOver now fault →
    IfSome first (λ c. c ≡ record { format = Some T.format; events = T.events; fault = fault })
comes-over first now T fault given format over = go first format (Gives-over first now T.events fault given over)
  where
    go : (o : Option Coming) → HasFormat o (Some T.format) → IfSome o (λ c. (c.events ≡ T.events) × (c.fault ≡ fault)) →
        IfSome o (λ c. c ≡ record { format = Some T.format; events = T.events; fault = fault })
    go None f x = tt
    go (Some c) f x = λ i. record { format = f i; events = x.0 i; fault = x.1 i }

comes-before : (first now : Option Coming) (T : Recording) (e : SourceError) → Gives first T.events now → HasFormat first (Some T.format) → Faults now e → ComesBefore first e T
comes-before first now T (sources.Text f) given format faults = comes-over first now T (Some (sources.Text f)) given format faults
comes-before first now T sources.TooMany given format faults = comes-over first now T (Some sources.TooMany) given format faults
comes-before first now T sources.Read given format faults = comes-first first now T given format
comes-before first now T sources.OutOfMemory given format faults = comes-first first now T given format
comes-before first now T sources.Failed given format faults = comes-first first now T given format

-- ---- What was told

-- after the end
tells-end : (old mid new : SourceState) → mid ≡ old → ((told : SourceError) → old ≢ states.Failed told) → TellsNext mid (Ok None) new →
    TellsStream old (Ok tt) new × TellsStream old (Err OutOfMemory) new × ((w : ℕ) → TellsStream old (Err (Write w)) new)
tells-end old mid new same unfailed told = go old unfailed (subst (λ s. TellsNext s (Ok None) new) same told)
  where
    go : (s : SourceState) → ((told : SourceError) → s ≢ states.Failed told) → TellsNext s (Ok None) new →
        TellsStream s (Ok tt) new × TellsStream s (Err OutOfMemory) new × ((w : ℕ) → TellsStream s (Err (Write w)) new)
    go states.Open free t = (t, inr t, λ w. tt)
    go states.Ended free t = (t.1, t.1, λ w. t.1)
    go (states.Failed f) free t = absurd (free f refl)

-- a fault that comes after the format is no second one
first-fault : (old mid new : SourceState) (e : SourceError) → mid ≡ old → ((told : SourceError) → old ≢ states.Failed told) → TellsNext mid (Err e) new → e ≢ sources.Failed
first-fault old mid new e same unfailed told = go old unfailed (subst (λ s. TellsNext s (Err e) new) same told)
  where
    go : (s : SourceState) → ((told : SourceError) → s ≢ states.Failed told) → TellsNext s (Err e) new → e ≢ sources.Failed
    go states.Open free t = t.1
    go states.Ended free t = let ended : ◌≡◌ {A = Result (Option Event) SourceError} (Err e) (Ok None) = t.0 in λ same. cc
    go (states.Failed f) free t = absurd (free f refl)

-- ---- Failed reads

counts-memory : (reads new : Option ℕ) → SameReads reads new → CountsStream reads (Err OutOfMemory) new
counts-memory None new same = tt
counts-memory (Some n) new same = same

counts-write : (reads new : Option ℕ) (w : ℕ) → SameReads reads new → CountsStream reads (Err (Write w)) new
counts-write None new w same = tt
counts-write (Some n) new w same = inl same

counts-ok : (reads new : Option ℕ) → SameReads reads new → CountsStream reads (Ok tt) new
counts-ok None new same = tt
counts-ok (Some n) new same = same

same-end : (reads mid new : Option ℕ) → SameReads reads mid → CountsReads {T = Option Event} mid (Ok None) new → SameReads reads new
same-end None mid new same counts = tt
same-end (Some n) mid new same counts =
    let counted = subst (λ m. CountsReads {T = Option Event} m (Ok None) new) same counts in
    let e : n + 0 ≡ n = omega arith in counted ∙ ap (λ (k : ℕ). Some k) e

-- ---- One more event, and the ends

module _ {first now : Option Coming} {old mid : SourceState} {known : Option Layout} {had has : ℕ} {reads mid_reads : Option ℕ} {room : ℕ} {before after : Option (List ℕ)} {faults mid_faults : ℕ} {s : Stream} {written : ℕ} (f : Flow first now old mid known had has reads mid_reads room before after faults mid_faults s written) where
  come : ComesFirst first f.trace
  come = comes-first first now f.trace f.source.given f.source.format

  -- what the source shows once it has given so many
  abbrev run : ℕ → Option Layout → SourceRun
  run many format = record { coming = first; before = had; after = many; format = format }

  same-given : (many : ℕ) → many ≡ has → AreGiven had many f.trace
  same-given many same = same ∙ f.given

  -- what is out stays
  out-first : (many : ℕ) (format : Option Layout) → AreTaken had many f.trace → (later : Option (List ℕ)) → Keeps after later → WritesFirst (CameFirst (run many format)) IsOut before later written
  out-first many format taken later keeps =
      let all : take (length f.text) f.text ≡ f.text = take_all (length f.text) f.text (omega arith) in
      let P : ℕ → Type 0 = λ n. WritesFirst (CameFirst (run many format)) IsOut before later n in
      subst P f.stream.many
      (record {
        trace = f.trace;
        come = record { come = come; given = taken };
        text = f.text;
        right = f.stream.out;
        out = subst (Appends before later) (sym all) (Appends-kept before after later f.text f.out keeps);
        within = omega arith;
      })

  -- memory was refused
  pub memory-streams : (many : ℕ) (format : Option Layout) → many ≡ has + 1 → (later : Option (List ℕ)) (count then_count : ℕ) (result : Result (Unit {0}) StreamError) → Keeps after later → Closes (Err OutOfMemory) written count result then_count →
      Streams (run many format) before later result
  memory-streams many format more later count then_count result keeps closes = ⊎_elim told failed closes
    where
      taken : AreTaken had many f.trace
      taken = let g = f.given in inr (omega (arith, more, g))

      told : (result ≡ Err OutOfMemory) × (then_count ≡ count) → Streams (run many format) before later result
      told x =
          subst (Streams (run many format) before later) (sym x.0)
          (inr (record { trace = f.trace; come = record { come = come; given = taken }; text = f.text; right = f.stream.out; out = Appends-kept before after later f.text f.out keeps }))

      failed : (result ≡ Err (Write written)) × (then_count ≡ count + 1) → Streams (run many format) before later result
      failed x = subst (Streams (run many format) before later) (sym x.0) (inl (out-first many format taken later keeps))

  later-line : (e : SourceError) → IsOfLaterLine known e → IsOfLaterLine (Some f.trace.format) e
  later-line e line = subst (λ k. IsOfLaterLine k e) f.source.in_format line

  -- the source told a fault
  pub source-streams : (many : ℕ) (format : Option Layout) → many ≡ has → KeepsFormat known format → (later : Option (List ℕ)) (count then_count : ℕ) (e : SourceError) (new : SourceState) (result : Result (Unit {0}) StreamError) → Faults now e → IsOfLaterLine known e → TellsNext mid (Err e) new →
      Keeps after later → Closes (Err (Source e)) written count result then_count → Streams (run many format) before later result
  source-streams many format same kept later count then_count e new result faulty line tells keeps closes = ⊎_elim told failed closes
    where
      told : (result ≡ Err (Source e)) × (then_count ≡ count) → Streams (run many format) before later result
      told x =
          subst (Streams (run many format) before later) (sym x.0)
          (inr (record {
            trace = f.trace;
            come = record {
              come = comes-before first now f.trace e f.source.given f.source.format faulty;
              given = same-given many same;
              format = subst (λ k. KeepsFormat k format) f.source.in_format kept;
              line = later-line e line;
              first = first-fault old mid new e f.source.same_state f.source.unfailed tells;
            };
            text = f.text;
            right = f.stream.out;
            out = Appends-kept before after later f.text f.out keeps;
          }))

      failed : (result ≡ Err (Write written)) × (then_count ≡ count + 1) → Streams (run many format) before later result
      failed x = subst (Streams (run many format) before later) (sym x.0) (inl (out-first many format (inl (same-given many same)) later keeps))

  -- the source told its end
  whole-came : IsOver now None → ComesWhole first f.trace
  whole-came over = comes-over first now f.trace None f.source.given f.source.format over

  longer : (rest : List ℕ) (k w : ℕ) → w ≡ written + k → take w (f.text ++ rest) ≡ f.text ++ take k rest
  longer rest k w is = ap (λ n. take n (f.text ++ rest)) (is ∙ ap (λ n. n + k) (sym f.stream.many)) ∙ take-append-add f.text rest k

  pub rest-streams : (many : ℕ) (format : Option Layout) → many ≡ has → (later : Option (List ℕ)) (result : Result (Unit {0}) StreamError) → IsOver now None → WritesRest f.trace f.text written after later result → Streams (run many format) before later result
  rest-streams many format same later (Ok u) over rest =
      record { trace = f.trace; come = record { come = whole-came over; given = same-given many same }; text = f.text ++ rest.0; right = rest.1; out = Appends-trans before after later f.text rest.0 f.out rest.2 }
  rest-streams many format same later (Err OutOfMemory) over rest =
      inr (record { trace = f.trace; come = record { come = come; given = inl (same-given many same) }; text = f.text; right = f.stream.out; out = Appends-kept before after later f.text f.out rest })
  rest-streams many format same later (Err (Write w)) over (inl rest) =
      let P : ℕ → Type 0 = λ n. Streams (run many format) before later (Err (Write n)) in subst P (sym rest.1) (inl (out-first many format (inl (same-given many same)) later rest.0))
  rest-streams many format same later (Err (Write w)) over (inr rest) =
      inr (record {
        trace = f.trace;
        come = record { come = whole-came over; given = same-given many same };
        text = f.text ++ rest.0;
        right = rest.2;
        out = subst (Appends before later) (sym (longer rest.0 rest.1 w rest.5)) (Appends-trans before after later f.text (take rest.1 rest.0) f.out rest.3);
        within = let size = length-append f.text rest.0 in let many = f.stream.many in omega (arith, size, many, rest.4, rest.5);
      })
  rest-streams many format same later (Err (Source e)) over rest = absurd rest

  pub rest-told : (later : Option (List ℕ)) (new : SourceState) (result : Result (Unit {0}) StreamError) → TellsNext mid (Ok None) new → WritesRest f.trace f.text written after later result → TellsStream old result new
  rest-told later new (Ok u) tells rest = (tells-end old mid new f.source.same_state f.source.unfailed tells).0
  rest-told later new (Err OutOfMemory) tells rest = (tells-end old mid new f.source.same_state f.source.unfailed tells).1
  rest-told later new (Err (Write w)) tells rest = (tells-end old mid new f.source.same_state f.source.unfailed tells).2 w
  rest-told later new (Err (Source e)) tells rest = absurd rest

  pub rest-counts : (later : Option (List ℕ)) (new_reads : Option ℕ) (result : Result (Unit {0}) StreamError) → CountsReads {T = Option Event} mid_reads (Ok None) new_reads →
      WritesRest f.trace f.text written after later result → CountsStream reads result new_reads
  rest-counts later new_reads (Ok u) counts rest = counts-ok reads new_reads (same-end reads mid_reads new_reads f.source.same_reads counts)
  rest-counts later new_reads (Err OutOfMemory) counts rest = counts-memory reads new_reads (same-end reads mid_reads new_reads f.source.same_reads counts)
  rest-counts later new_reads (Err (Write w)) counts rest = counts-write reads new_reads w (same-end reads mid_reads new_reads f.source.same_reads counts)
  rest-counts later new_reads (Err (Source e)) counts rest = absurd rest

  -- one more event has come
  event-trace : (e : Event) (less : ℕ) → IsEventIn f.trace.format e → less < room → IsTrace (with_event f.trace e)
  event-trace e less is fewer = record {
    format = f.stream.trace.format;
    few = let size = length-append f.trace.events (e ∷ []) in let roomy = f.source.roomy in omega (arith, size, roomy);
    each = all-append (IsEventIn f.trace.format) f.trace.events e f.stream.trace.each is;
  }

  -- it is of the format
  pub event-in : (e : Event) (new_known : Option Layout) → KeepsFormat known new_known → IsGivenIn new_known (Ok (Some e)) → IsEventIn f.trace.format e
  event-in e new_known kept given =
      let same : new_known ≡ Some f.trace.format = subst (λ k. KeepsFormat k new_known) f.source.in_format kept in
      subst (λ k. IsGivenIn k (Ok (Some e))) same given

  module _ (e : Event) (less : ℕ) (is : IsEventIn f.trace.format e) (fewer : less < room) (t : Stream) (piece : List ℕ) (out : IsOut (with_event f.trace e) (f.text ++ t.queue.text)) (same : piece ≡ t.queue.text) where
    out' : IsOut (with_event f.trace e) (f.text ++ piece)
    out' = let P : List ℕ → Type 0 = λ bytes. IsOut (with_event f.trace e) (f.text ++ bytes) in subst P (sym same) out

    pub piece-fits : written + length piece < 2 ^ 64
    piece-fits =
        let short = out-short (with_event f.trace e) (f.text ++ piece) (event-trace e less is fewer) out' in
        let size = length-append f.text piece in
        let many = f.stream.many in
        omega (arith, short, size, many)

    given-more : (many : ℕ) → many ≡ has + 1 → AreGiven had many (with_event f.trace e)
    given-more many more = let g = f.given in let size = length-append f.trace.events (e ∷ []) in omega (arith, g, size, more)

    -- of its text the first bytes are out
    pub piece-streams : (many : ℕ) (format : Option Layout) → many ≡ has + 1 → (next : Option Coming) (later : Option (List ℕ)) (fault : StreamError) → Gives now (e ∷ []) next → WritesPiece after later piece written (Err fault) → Streams (run many format) before later (Err fault)
    piece-streams many format more next later (Write w) given writes =
        inl (record {
          trace = with_event f.trace e;
          come = record {
            come = comes-first first next (with_event f.trace e) (Gives-trans first now next f.trace.events (e ∷ []) f.source.given given) f.source.format;
            given = inl (given-more many more);
          };
          text = f.text ++ piece;
          right = out';
          out = subst (Appends before later) (sym (longer piece writes.0 w writes.3)) (Appends-trans before after later f.text (take writes.0 piece) f.out writes.1);
          within = let size = length-append f.text piece in let many = f.stream.many in omega (arith, size, many, writes.2, writes.3);
        })
    piece-streams many format more next later OutOfMemory given writes = absurd writes
    piece-streams many format more next later (Source x) given writes = absurd writes

    pub flow-more : (many : ℕ) → many ≡ has + 1 → (next : Option Coming) (new : SourceState) (new_known : Option Layout) (new_reads : Option ℕ) (later : Option (List ℕ)) (new_faults more : ℕ) →
        SoFar (showed first old reads) (shows next new new_known new_reads less) (with_event f.trace e) → IsStreamOf (with_event f.trace e) t (f.text ++ t.queue.text) → Appends after later piece × (more ≡ written + length piece) →
        new_faults ≡ mid_faults + 0 → Flow first next old new new_known had many reads new_reads less before later faults new_faults t more
    flow-more many one next new new_known new_reads later new_faults more source stream writes unfailed = record {
      trace = with_event f.trace e;
      text = f.text ++ piece;
      source = source;
      given = given-more many one;
      stream = record {
        trace = event-trace e less is fewer;
        stream = (let P : List ℕ → Type 0 = λ bytes. IsStreamOf (with_event f.trace e) t (f.text ++ bytes) in subst P (sym same) stream);
        out = out';
        many = let size = length-append f.text piece in let many = f.stream.many in omega (arith, size, many, writes.1);
      };
      out = Appends-trans before after later f.text piece f.out writes.0;
      unfailed = let u = f.unfailed in omega (arith, u, unfailed);
    }

-- of the header the first bytes are out
pub first-streams : (first now : Option Coming) (before after : ℕ) (known : Option Layout) (f : Layout) (old new : Option (List ℕ)) (text piece : List ℕ) (fault : StreamError) → after ≡ before → Gives first [] now → HasFormat first (Some f) →
    IsOut (empty f) text → piece ≡ text → WritesPiece old new piece 0 (Err fault) → Streams (record { coming = first; before = before; after = after; format = known }) old new (Err fault)
first-streams first now before after known f old new text piece (Write w) none given format out same writes =
    let same_count : w ≡ writes.0 = omega (arith, writes.3) in
    let P : List ℕ → Type 0 = λ bytes. IsOut (empty f) bytes in
    inl (record {
      trace = empty f;
      come = record { come = comes-first first now (empty f) given format; given = inl (omega (arith, none)) };
      text = piece;
      right = subst P (sym same) out;
      out = subst (λ n. Appends old new (take n piece)) (sym same_count) writes.1;
      within = omega (arith, writes.2, writes.3);
    })
first-streams first now before after known f old new text piece OutOfMemory none given format out same writes = absurd writes
first-streams first now before after known f old new text piece (Source e) none given format out same writes = absurd writes
