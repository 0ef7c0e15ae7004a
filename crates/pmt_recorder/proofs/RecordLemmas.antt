-- What the recorders of all scripts have done.
use Rattle.std.proofs.Common.{◌≡◌, ◌↔◌, ℕ, zero, suc, ◌+◌, ◌<◌, ◌≤◌, ◌⊎◌, inl, inr, Bool, true, false, List, [], ◌∷◌, ◌++◌, length, map, get_or, Some, None, Result, Ok, Err, OnOk, IfOk, IfErr, refl, sym, ap, subst, ◌∙◌, arith}
use Rattle.std.specs.Prelude.{◌==◌, ◌||◌}
use Rattle.std.specs.List.{AllByRecursion}
use Rattle.std.proofs.lemmas.List.{length-append, length-map}
use Rattle.std.proofs.lemmas.Bool.{eq-eqb, ne_eqb, eqb-false}
use Rattle.std.proofs.lemmas.Option.{none-some, same_Some}
use Rattle.pmt_model.specs.declared.event.Event.{Event}
use Rattle.pmt_model.specs.declared.event.Op.{Op}
use Rattle.pmt_model.specs.Values.{Layout}
use Rattle.pmt_model.specs.Traces.{Recording}
use Rattle.pmt_model.specs.Selections.{part}
use Rattle.pmt_book.specs.declared.fault.BookError.{BookError}
use Rattle.pmt_book.specs.declared.fault.BookError.TheVariants.{NotInFormat, Full, OutOfMemory}
use Rattle.pmt_recorder.specs.Strips.{Strip, strip, empty_tapes, has_thread, IsOneOfEach, entries_of, ops_of, IsSealed}
use Rattle.pmt_recorder.specs.Scripts.{IsRecorded, Plays, PlaysEach, AtScript, IsInFormat, AreInFormatBelow, HaveOpsOf, IsTornOf, first_fault, RecordFails, RecordFailsIf}
use Rattle.pmt_recorder.specs.declared.fault.RecordError.{RecordError}
use Rattle.pmt_recorder.specs.declared.fault.RecordError.TheVariants.{BadCount, NotInFormat as NotInFormatAt, Full as FullAt, OutOfMemory as NoMemory, Torn}
use Rattle.pmt_recorder.proofs.SealLemmas.{length-by_thread, slice_get-by_thread}

-- What a recorder hands back.
abbrev pub Played : Type 0
Played = Strip × Result (Unit {0}) BookError

pub length-empty_tapes : (n : ℕ) → length (empty_tapes n) ≡ n
length-empty_tapes zero = refl
length-empty_tapes (suc n) = omega (arith, length-append (empty_tapes n) (strip n [] ∷ []), length-empty_tapes n)

-- what stands before the end of a list, and at it
get_or-before : {X : Type 0} (xs ys : List X) (k : ℕ) (d : X) → k < length xs → get_or (xs ++ ys) k d ≡ get_or xs k d
get_or-before [] ys k d h = absurd (omega arith)
get_or-before (x ∷ xs) ys zero d h = refl
get_or-before (x ∷ xs) ys (suc k) d h = get_or-before xs ys k d (omega arith)

get_or-last : {X : Type 0} (xs : List X) (x : X) (k : ℕ) (d : X) → length xs ≡ k → get_or (xs ++ x ∷ []) k d ≡ x
get_or-last [] x zero d e = refl
get_or-last [] x (suc k) d e = absurd (omega arith)
get_or-last (y ∷ xs) x zero d e = absurd (omega arith)
get_or-last (y ∷ xs) x (suc k) d e = get_or-last xs x k d (omega arith)

last_or_before : (t n : ℕ) → t < suc n → (t < n) ⊎ (n ≡ t)
last_or_before t n h = grind arith

-- tape t is of thread t, and empty
pub get_or-empty_tapes : (n t : ℕ) (d : Strip) → t < n → get_or (empty_tapes n) t d ≡ strip t []
get_or-empty_tapes zero t d h = absurd (omega arith)
get_or-empty_tapes (suc n) t d h = go (last_or_before t n h) (get_or-empty_tapes n t d)
  where
    go : (t < n) ⊎ (n ≡ t) → (t < n → get_or (empty_tapes n) t d ≡ strip t []) → get_or (empty_tapes n ++ strip n [] ∷ []) t d ≡ strip t []
    go (inl less) before = get_or-before (empty_tapes n) (strip n [] ∷ []) t d (omega (arith, length-empty_tapes n)) ∙ before less
    go (inr same) before = get_or-last (empty_tapes n) (strip n []) t d (length-empty_tapes n ∙ same) ∙ ap (λ (u : ℕ). strip u []) same

-- a tape that a recorder is given
pub given-tape : (n i : ℕ) (tapes : List Strip) (x : Strip) → tapes ≡ empty_tapes n → i < length tapes → x ≡ get_or tapes i x → (x.thread < n) × (x.entries ≡ [])
given-tape n i tapes x e h read =
    let within : i < n = omega (arith, length-empty_tapes n, ap length e) in
    let is : x ≡ strip i [] = read ∙ ap (λ (xs : List Strip). get_or xs i x) e ∙ get_or-empty_tapes n i x within in
    (subst (λ (t : ℕ). t < n) (sym (ap (λ (s : Strip). s.thread) is)) within, ap (λ (s : Strip). s.entries) is)

-- and its thread
pub thread-given : (n i : ℕ) (tapes : List Strip) (x d : Strip) → tapes ≡ empty_tapes n → i < length tapes → get_or tapes i d ≡ x → x.thread ≡ i
thread-given n i tapes x d e h at =
    let within : i < n = omega (arith, length-empty_tapes n, ap length e) in
    ap (λ (s : Strip). s.thread) (sym at ∙ ap (λ (xs : List Strip). get_or xs i d) e ∙ get_or-empty_tapes n i d within)

-- The recorders from number n on have played their scripts.
abbrev pub PlaysFrom : Layout → List (List Op) → ℕ → List Played → Type 0
PlaysFrom f scripts n rest =
    (k t : ℕ) (d : Played) → t ≡ n + k → k < length rest → AtScript scripts t (λ script. Plays f script t (get_or rest k d).0 (get_or rest k d).1)

plays-from_next : (f : Layout) (scripts : List (List Op)) (n : ℕ) (x : Played) (rest : List Played) → PlaysFrom f scripts n (x ∷ rest) → PlaysFrom f scripts (suc n) rest
plays-from_next f scripts n x rest plays k t d e h = plays (suc k) t d (omega arith) (omega arith)

pub plays-from_each : (f : Layout) (scripts : List (List Op)) (played : List Played) → length played ≡ length scripts → PlaysEach f scripts played → PlaysFrom f scripts 0 played
plays-from_each f scripts played len each k t d e h =
    let same : t ≡ k = omega arith in
    let within : k < length scripts = omega (arith, len) in
    let P : ℕ → Type 0 = λ u. AtScript scripts u (λ script. Plays f script u (get_or played k d).0 (get_or played k d).1) in
    subst P (sym same) (each k d within)

-- what held of the scripts below a number holds of one more
below-next : (f : Layout) (scripts : List (List Op)) (n : ℕ) → AreInFormatBelow f scripts n → AtScript scripts n (IsInFormat f) → AreInFormatBelow f scripts (suc n)
below-next f scripts n below here u h = go (last_or_before u n h)
  where
    go : (u < n) ⊎ (n ≡ u) → AtScript scripts u (IsInFormat f)
    go (inl less) = below u less
    go (inr same) = let P : ℕ → Type 0 = λ t. AtScript scripts t (IsInFormat f) in subst P same here

-- the script of a recorder that came to the end
script-known : (f : Layout) (scripts : List (List Op)) (n : ℕ) (s : Strip) (u : Unit {0}) (rest : List Played) → PlaysFrom f scripts n ((s, Ok u) ∷ rest) → AtScript scripts n (IsInFormat f)
script-known f scripts n s u rest plays = let at = plays 0 n (s, Ok u) (omega arith) (omega arith) in (at.0, at.1, at.2.known)

-- a fault that is told fits the scripts
pub fault_fits :
    (f : Layout) (scripts : List (List Op)) (n : ℕ) (rest : List Played) (e : RecordError) → AreInFormatBelow f scripts n → PlaysFrom f scripts n rest →
    first_fault n rest ≡ Some e → RecordFailsIf (Unit {0}) f scripts e
fault_fits f scripts n [] e below plays is = absurd (none-some e is)
fault_fits f scripts n ((s, Ok u) ∷ rest) e below plays is =
    fault_fits f scripts (suc n) rest e (below-next f scripts n below (script-known f scripts n s u rest plays)) (plays-from_next f scripts n (s, Ok u) rest plays) is
fault_fits f scripts n ((s, Err NotInFormat) ∷ rest) e below plays is =
    let at = plays 0 n (s, Err NotInFormat) (omega arith) (omega arith) in
    let P : RecordError → Type 0 = λ x. RecordFailsIf (Unit {0}) f scripts x in
    subst P (same_Some (NotInFormatAt n) e is) ((at.0, at.1, at.2.stopped), below)
fault_fits f scripts n ((s, Err (Full events)) ∷ rest) e below plays is =
    let at = plays 0 n (s, Err (Full events)) (omega arith) (omega arith) in
    let P : RecordError → Type 0 = λ x. RecordFailsIf (Unit {0}) f scripts x in
    subst P (same_Some (FullAt n events) e is) (at.2.stopped.0, (at.0, at.1, at.2.stopped.1), below, tt)
fault_fits f scripts n ((s, Err OutOfMemory) ∷ rest) e below plays is =
    let P : RecordError → Type 0 = λ x. RecordFailsIf (Unit {0}) f scripts x in
    subst P (same_Some NoMemory e is) tt

-- no recorder tells that the number of scripts is wrong
fault-not_count : (n : ℕ) (rest : List Played) → first_fault n rest ≡ Some BadCount → ⊥
fault-not_count n [] is = absurd (none-some BadCount is)
fault-not_count n ((s, Ok u) ∷ rest) is = fault-not_count (suc n) rest is
fault-not_count n ((s, Err NotInFormat) ∷ rest) is = let e : NotInFormatAt n ≡ BadCount = same_Some (NotInFormatAt n) BadCount is in cc
fault-not_count n ((s, Err (Full events)) ∷ rest) is = let e : FullAt n events ≡ BadCount = same_Some (FullAt n events) BadCount is in cc
fault-not_count n ((s, Err OutOfMemory) ∷ rest) is = let e : NoMemory ≡ BadCount = same_Some NoMemory BadCount is in cc

-- where no fault is told, each recorder came to the end
pub all_whole : (n : ℕ) (rest : List Played) → first_fault n rest ≡ None → (k : ℕ) (d : Played) → k < length rest → (get_or rest k d).1 ≡ Ok tt
all_whole n [] none k d h = absurd (omega arith)
all_whole n ((s, Ok u) ∷ rest) none zero d h = refl
all_whole n ((s, Ok u) ∷ rest) none (suc k) d h = all_whole (suc n) rest none k d (omega arith)
all_whole n ((s, Err NotInFormat) ∷ rest) none k d h = absurd (none-some (NotInFormatAt n) (sym none))
all_whole n ((s, Err (Full events)) ∷ rest) none k d h = absurd (none-some (FullAt n events) (sym none))
all_whole n ((s, Err OutOfMemory) ∷ rest) none k d h = absurd (none-some NoMemory (sym none))

-- The tapes are of the threads n, n + 1 and so on.
abbrev pub IsInOrder : ℕ → List Strip → Type 0
IsInOrder n [] = Unit {0}
IsInOrder n (s ∷ strips) = (s.thread ≡ n) × IsInOrder (suc n) strips

pub in_order-from_plays : (f : Layout) (scripts : List (List Op)) (n : ℕ) (rest : List Played) → PlaysFrom f scripts n rest → IsInOrder n (map (λ (p : Played). p.0) rest)
in_order-from_plays f scripts n [] plays = tt
in_order-from_plays f scripts n (x ∷ rest) plays =
    ((plays 0 n x (omega arith) (omega arith)).2.thread, in_order-from_plays f scripts (suc n) rest (plays-from_next f scripts n x rest plays))

-- so each of these threads has a tape
has_thread-in_order : (n t : ℕ) (strips : List Strip) → IsInOrder n strips → n ≤ t → t < n + length strips → has_thread t strips ≡ true
has_thread-in_order n t [] o low high = absurd (omega arith)
has_thread-in_order n t (s ∷ strips) o low high = go (s.thread == t) refl (has_thread-in_order (suc n) t strips o.1)
  where
    go : (b : Bool) → (s.thread == t) ≡ b → (suc n ≤ t → t < suc n + length strips → has_thread t strips ≡ true) → (b || has_thread t strips) ≡ true
    go true e later = refl
    go false e later = later (next (n == t) refl) (omega arith)
      where
        next : (b : Bool) → (n == t) ≡ b → suc n ≤ t
        next true q = absurd (let no : true ≡ false = sym (ap (λ (m : ℕ). m == t) o.0 ∙ q) ∙ e in cc)
        next false q = let apart : n ≡ t → ⊥ = eqb-false n t q in omega (arith, apart)

pub one_of_each-in_order : (n : ℕ) (strips : List Strip) → length strips ≡ n → IsInOrder 0 strips → IsOneOfEach n strips
one_of_each-in_order n strips len o = record { count = len; each = λ t h. has_thread-in_order 0 t strips o (omega arith) (omega (arith, len)) }

-- and its entries are those of the tape at its place
entries_of-in_order : (n t k : ℕ) (strips : List Strip) (d : Strip) → IsInOrder n strips → t ≡ n + k → k < length strips → entries_of t strips ≡ (get_or strips k d).entries
entries_of-in_order n t k [] d o e h = absurd (omega arith)
entries_of-in_order n t zero (s ∷ strips) d o e h = let same : s.thread ≡ t = o.0 ∙ omega arith in rw (eq-eqb s.thread t same) refl
entries_of-in_order n t (suc k) (s ∷ strips) d o e h =
    let apart : s.thread ≡ t → ⊥ = λ q. omega (arith, o.0, q) in
    rw (ne_eqb s.thread t apart) (entries_of-in_order (suc n) t k strips d o.1 (omega arith) (omega arith))

get_or-map : {X Y : Type 0} (g : X → Y) (xs : List X) (k : ℕ) (d : X) → k < length xs → get_or (map g xs) k (g d) ≡ g (get_or xs k d)
get_or-map g [] k d h = absurd (omega arith)
get_or-map g (x ∷ xs) zero d h = refl
get_or-map g (x ∷ xs) (suc k) d h = get_or-map g xs k d (omega arith)

-- a value that is there has the ops of its script
whole-of_plays : (script : List Op) (s : Strip) (end : Result (Unit {0}) BookError) → end ≡ Ok tt → OnOk end (ops_of s.entries ≡ script) → ops_of s.entries ≡ script
whole-of_plays script s end e whole = let P : Result (Unit {0}) BookError → Type 0 = λ r. OnOk r (ops_of s.entries ≡ script) in subst P e whole

-- the tapes have the ops of the scripts, where each recorder came to the end
pub have_ops :
    (f : Layout) (scripts : List (List Op)) (played : List Played) (strips : List Strip) → length played ≡ length scripts →
    strips ≡ map (λ (p : Played). p.0) played → PlaysFrom f scripts 0 played → first_fault 0 played ≡ None → HaveOpsOf scripts strips
have_ops f scripts played strips same_len is plays none t h =
    let d : Played = (strip 0 [], Ok tt) in
    let here : t < length played = omega (arith, same_len) in
    let at = plays t t d (omega arith) here in
    let tapes : List Strip = map (λ (p : Played). p.0) played in
    let entries : entries_of t strips ≡ (get_or played t d).0.entries =
    ap (entries_of t) is
    ∙ entries_of-in_order 0 t t tapes d.0 (in_order-from_plays f scripts 0 played plays) (omega arith) (omega (arith, length-map played (λ (p : Played). p.0)))
    ∙ ap (λ (s : Strip). s.entries) (get_or-map (λ (p : Played). p.0) played t d here) in
    let whole = whole-of_plays at.0 (get_or played t d).0 (get_or played t d).1 (all_whole 0 played none t d here) at.2.whole in
    at.1 ∙ ap Some (sym whole ∙ ap ops_of (sym entries))

-- and all their ops are in the format
pub all_known : (f : Layout) (scripts : List (List Op)) (played : List Played) → length played ≡ length scripts → PlaysFrom f scripts 0 played → first_fault 0 played ≡ None →
    AreInFormatBelow f scripts (length scripts)
all_known f scripts played same_len plays none t h =
    let d : Played = (strip 0 [], Ok tt) in
    let here : t < length played = omega (arith, same_len) in
    let at = plays t t d (omega arith) here in
    let P : Result (Unit {0}) BookError → Type 0 = λ r. OnOk r (IsInFormat f at.0) in
    (at.0, at.1, subst P (all_whole 0 played none t d here) at.2.known)

-- a sealed trace of tapes that have the ops of the scripts is a recording of them
pub recorded :
    (n : ℕ) (f layout : Layout) (scripts : List (List Op)) (strips : List Strip) (T : Recording) → length scripts ≡ n → layout ≡ f →
    HaveOpsOf scripts strips → IsSealed n f strips T → IsRecorded layout scripts T
recorded n f layout scripts strips T len lay have sealed = record {
  format = sealed.format ∙ sym lay;
  whose = subst (λ (m : ℕ). AllByRecursion (λ (x : Event). x.thread < m) T.events) (length-by_thread n strips ∙ sym len) sealed.interleaving.whose;
  parts = λ t h.
      let within : t < n = omega (arith, len) in
      let own : part t T.events ≡ entries_of t strips =
      same_Some (part t T.events) (entries_of t strips) (sym (sealed.interleaving.parts t (omega (arith, length-by_thread n strips))) ∙ slice_get-by_thread n strips t within) in
      have t h ∙ ap (λ (es : List (ℕ × Op)). Some (ops_of es)) (sym own);
}

-- the fault that is told fits the scripts
pub told_fits :
    (f layout : Layout) (scripts : List (List Op)) (played shown : List Played) (e : RecordError) → layout ≡ f → length played ≡ length scripts →
    PlaysEach f scripts played → shown ≡ played → Some e ≡ first_fault 0 shown → RecordFailsIf (Unit {0}) layout scripts e
told_fits f layout scripts played shown e lay len each same told =
    let P : Layout → Type 0 = λ g. RecordFailsIf (Unit {0}) g scripts e in
    subst P (sym lay) (fault_fits f scripts 0 played e (λ u h. absurd (omega arith)) (plays-from_each f scripts played len each) (sym (told ∙ ap (first_fault 0) same)))

-- and is no fault of their number
pub told-not_count : (shown : List Played) (e : RecordError) → Some e ≡ first_fault 0 shown → e ≡ BadCount → ⊥
told-not_count shown e told is = fault-not_count 0 shown (sym told ∙ ap Some is)

-- where something was made, no fault was told
pub made-not_told : {X E : Type 0} {P : Type 0} (r : Result X E) (x : X) (e : E) → r ≡ Ok x → ((r ≡ Err e) ↔ P) → P → ⊥
made-not_told r x e made told p = let is : Ok x ≡ Err e = sym made ∙ told.1 p in cc

-- all tapes are there
pub all_there :
    (n : ℕ) (f : Layout) (scripts : List (List Op)) (played : List Played) (strips : List Strip) → length scripts ≡ n → length played ≡ length scripts →
    PlaysEach f scripts played → strips ≡ map (λ (p : Played). p.0) played → IsOneOfEach n strips
all_there n f scripts played strips len same_len each is =
    let P : List Strip → Type 0 = λ s. IsOneOfEach n s in
    subst P (sym is) (one_of_each-in_order n (map (λ (p : Played). p.0) played) (omega (arith, length-map played (λ (p : Played). p.0), len, same_len))
    (in_order-from_plays f scripts 0 played (plays-from_each f scripts played same_len each)))

-- the trace is a recording of the scripts
pub recorded_all :
    (n : ℕ) (f layout : Layout) (scripts : List (List Op)) (played shown : List Played) (strips : List Strip) (T : Recording) → length scripts ≡ n →
    length played ≡ length scripts → layout ≡ f → strips ≡ map (λ (p : Played). p.0) played → PlaysEach f scripts played → shown ≡ played →
    None ≡ first_fault 0 shown → IsSealed n f strips T → IsRecorded layout scripts T
recorded_all n f layout scripts played shown strips T len same_len lay is each same none sealed =
    recorded n f layout scripts strips T len lay
    (have_ops f scripts played strips same_len is (plays-from_each f scripts played same_len each) (sym (none ∙ ap (first_fault 0) same))) sealed

-- tapes that did not seal are those of scripts whose recorders all came to the end
pub torn_fits :
    (n : ℕ) (f layout : Layout) (scripts : List (List Op)) (played shown : List Played) (strips : List Strip) (e : RecordError) → length scripts ≡ n →
    length played ≡ length scripts → layout ≡ f → strips ≡ map (λ (p : Played). p.0) played → PlaysEach f scripts played → shown ≡ played →
    None ≡ first_fault 0 shown → IsTornOf n strips e → RecordFails layout scripts e
torn_fits n f layout scripts played shown strips BadCount len same_len lay is each same none torn = absurd torn
torn_fits n f layout scripts played shown strips (NotInFormatAt t) len same_len lay is each same none torn = absurd torn
torn_fits n f layout scripts played shown strips (FullAt t events) len same_len lay is each same none torn = absurd torn
torn_fits n f layout scripts played shown strips NoMemory len same_len lay is each same none torn = absurd torn
torn_fits n f layout scripts played shown strips (Torn t) len same_len lay is each same none torn =
    let plays = plays-from_each f scripts played same_len each in
    let whole : first_fault 0 played ≡ None = sym (none ∙ ap (first_fault 0) same) in
    let P : Layout → Type 0 = λ g. AreInFormatBelow g scripts (length scripts) in
    let Q : ℕ → Type 0 = λ m. IsTornOf m strips (Torn t) in
    (subst P (sym lay) (all_known f scripts played same_len plays whole), (strips, have_ops f scripts played strips same_len is plays whole, subst Q (sym len) torn))

-- what sealing answers, of the scripts
pub recorded_or_torn :
    (n : ℕ) (f layout : Layout) (scripts : List (List Op)) (played shown : List Played) (strips : List Strip) (r : Result Recording RecordError) →
    length scripts ≡ n → length played ≡ length scripts → layout ≡ f → strips ≡ map (λ (p : Played). p.0) played → PlaysEach f scripts played → shown ≡ played →
    None ≡ first_fault 0 shown → IfOk r (IsSealed n f strips) → IfErr r (IsTornOf n strips) → IfOk r (IsRecorded layout scripts) × IfErr r (RecordFails layout scripts)
recorded_or_torn n f layout scripts played shown strips (Ok T) len same_len lay is each same none sealed torn =
    (recorded_all n f layout scripts played shown strips T len same_len lay is each same none sealed, tt)
recorded_or_torn n f layout scripts played shown strips (Err e) len same_len lay is each same none sealed torn =
    (tt, torn_fits n f layout scripts played shown strips e len same_len lay is each same none torn)

-- and that is no fault of their number
pub torn-not_count : (n : ℕ) (strips : List Strip) (r : Result Recording RecordError) → IfErr r (IsTornOf n strips) → r ≡ Err BadCount → ⊥
torn-not_count n strips r torn is = let P : Result Recording RecordError → Type 0 = λ x. IfErr x (IsTornOf n strips) in subst P is torn

-- the thread of a tape is its place
pub plays_at : (f : Layout) (scripts : List (List Op)) (t u : ℕ) (r : Played) → u ≡ t → AtScript scripts u (λ script. Plays f script u r.0 r.1) → AtScript scripts t (λ script. Plays f script t r.0 r.1)
plays_at f scripts t u r e plays = let P : ℕ → Type 0 = λ v. AtScript scripts v (λ script. Plays f script v r.0 r.1) in subst P e plays
