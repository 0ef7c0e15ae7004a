-- A run from the first part to the last.
use Rattle.pmt_parts.proofs.Prelude.{◌≡◌, ℕ, ◌+◌, ◌-◌, ◌≤◌, ◌⊎◌, inl, inr, List, [], ◌∷◌, ◌++◌, length, length-append, append-nil, append_assoc, take, drop, slice_range, min, Option, None, Some, refl, sym, ap, ap₂, subst, ◌∙◌, arith, IfSome, Consumes, IsAtEnd, Keeps, cases_lt, flat_map-append, append_cancel_left, drop_at, drop-drop, take_all, take-add, Event, Layout, Recording, IsTrace, IsEventIn, AllByRecursion, flat_map, Coming, judged, whole, ended, event_line, event_text, header, spelling, ByteRange, IsWellFormed, Part, line_count, IsPartOf, ComesNext, answered, FollowOn, AreAllParts, IsCutText, KeepsTo, BeginsWith, IsCutSoFar, Extends, ReadsOn, Consumes-trans, Consumes-kept}
use Rattle.std.proofs.lemmas.List.Concat.{flat_map-cons}
use Rattle.pmt_text.proofs.WholeLemmas.{read_is_spelled}
use Rattle.pmt_parts.proofs.PieceLemmas.{line_count-append}
use Rattle.pmt_parts.proofs.AnsweredLemmas.{answered-is}

-- ---- Parts that follow on

-- the last of them is a part
follow-last : (T : Recording) (ranges : List ByteRange) (overlap place end last : ℕ) (parts : List Part) (p : Part) → FollowOn T ranges overlap place end last (parts ++ p ∷ []) → IsPartOf T ranges p
follow-last T ranges overlap place end last [] p chain = chain.0
follow-last T ranges overlap place end last (x ∷ parts) p chain = follow-last T ranges overlap x.place x.end last parts p chain.3

-- one part more
follow-more : (T : Recording) (ranges : List ByteRange) (overlap place end : ℕ) (parts : List Part) (p q : Part) → FollowOn T ranges overlap place end p.end (parts ++ p ∷ []) →
    IsPartOf T ranges q → q.before ≡ p.end → q.place ≡ p.end - min overlap (p.end - p.place) → FollowOn T ranges overlap place end q.end ((parts ++ p ∷ []) ++ q ∷ [])
follow-more T ranges overlap place end [] p q chain is before from = (chain.0, chain.1, chain.2, (is, before, from, refl))
follow-more T ranges overlap place end (x ∷ parts) p q chain is before from = (chain.0, chain.1, chain.2, follow-more T ranges overlap x.place x.end parts p q chain.3 is before from)

slice-joined : (xs : List Event) (a b c : ℕ) → a ≤ b → b ≤ c → slice_range xs a b ++ slice_range xs b c ≡ slice_range xs a c
slice-joined xs a b c first second =
    let at : a + (b - a) ≡ b = omega (arith, first) in
    let long : (b - a) + (c - b) ≡ c - a = omega (arith, first, second) in
    sym (take-add (b - a) (c - b) (drop a xs) ∙ ap (λ ys. slice_range xs a b ++ take (c - b) ys) (drop-drop (b - a) a xs ∙ ap (λ n. drop n xs) at)) ∙ ap (λ n. take n (drop a xs)) long

-- what they answer for, part by part
follow-answers : (T : Recording) (ranges : List ByteRange) (overlap place end last : ℕ) (parts : List Part) → FollowOn T ranges overlap place end last parts →
    (end ≤ last) × (flat_map answered parts ≡ slice_range T.events end last)
follow-answers T ranges overlap place end last [] chain = (omega (arith, chain), sym (let none : last - end ≡ 0 = omega (arith, chain) in ap (λ n. take n (drop end T.events)) none))
follow-answers T ranges overlap place end last (p ∷ parts) chain =
    let rest = follow-answers T ranges overlap p.place p.end last parts chain.3 in
    let within : p.before ≤ p.end = chain.0.answers in (
      omega (arith, chain.1, within, rest.0),
      flat_map-cons answered p parts ∙ ap (λ es. es ++ flat_map answered parts) (answered-is T ranges p chain.0) ∙ ap (λ es. slice_range T.events p.before p.end ++ es) rest.1
          ∙ slice-joined T.events p.before p.end last within rest.0 ∙ ap (λ n. slice_range T.events n last) chain.1,
    )

slice-whole : (xs : List Event) → slice_range xs 0 (length xs) ≡ xs
slice-whole xs = take_all (length xs - 0) xs (omega arith)

pub all-parts : (T : Recording) (ranges : List ByteRange) (overlap : ℕ) (parts : List Part) → FollowOn T ranges overlap 0 0 (length T.events) parts → AreAllParts T ranges overlap parts
all-parts T ranges overlap parts chain = record {
  follow = chain;
  answers = (follow-answers T ranges overlap 0 0 (length T.events) parts chain).1 ∙ slice-whole T.events;
}

-- ---- The run

well-trace : (T : Recording) → IsTrace T → IsWellFormed T
well-trace T is = record { format = is.format; each = is.each }

pub all-both : {A : Type 0} (P : A → Type 0) (xs ys : List A) → AllByRecursion P xs → AllByRecursion P ys → AllByRecursion P (xs ++ ys)
all-both P [] ys first second = second
all-both P (x ∷ xs) ys first second = (first.0, all-both P xs ys first.1 second)

-- with events at its end
abbrev grown : Recording → List Event → Recording
grown T es = record { format = T.format; events = T.events ++ es }

spelling-grown : (T : Recording) (es : List Event) → spelling T ++ flat_map event_text es ≡ spelling (grown T es)
unfolding spelling
spelling-grown T es = append_assoc (ended (header T.format)) (flat_map event_text T.events) (flat_map event_text es) ∙ ap (λ bytes. ended (header T.format) ++ bytes) (sym (flat_map-append event_text T.events es))

spelling-is : (T : Recording) → spelling T ≡ ended (header T.format) ++ flat_map event_text T.events
unfolding spelling
spelling-is T = refl

whole-same : (T U : Recording) → whole T ≡ whole U → T ≡ U
whole-same T U e =
    let formats : Some T.format ≡ Some U.format = ap (λ (c : Coming). c.format) e in
    let format : T.format ≡ U.format = cc in
    ap₂ (λ (f : Layout) (es : List Event). record { format = f; events = es }) format (ap (λ (c : Coming). c.events) e)

-- a text that is judged a trace is its spelling
pub spelled-whole : (text : List ℕ) (T : Recording) → judged text ≡ whole T → text ≡ spelling T
spelled-whole text T is =
    let x = read_is_spelled text (ap (λ (c : Coming). c.fault) is) in
    x.3 ∙ ap spelling (whole-same x.0 T (sym x.2 ∙ is))

-- and what stands after its header is the spelling of its events
pub body-of : (text piece : List ℕ) (f : Layout) (T : Recording) → text ≡ ended (header f) ++ piece → text ≡ spelling T → f ≡ T.format → piece ≡ flat_map event_text T.events
body-of text piece f T is spelled same =
    append_cancel_left (ended (header f)) piece (flat_map event_text T.events) (sym is ∙ spelled ∙ spelling-is T ∙ ap (λ g. ended (header g) ++ flat_map event_text T.events) (sym same))

-- a line for each event
ended-line : (line : List ℕ) → 1 ≤ line_count (ended line)
ended-line line = let one : line_count (10 ∷ []) ≡ 1 = refl in omega (arith, line_count-append line (10 ∷ []), one)

events-lines : (es : List Event) → length es ≤ line_count (flat_map event_text es)
unfolding event_text
events-lines [] = omega arith
events-lines (e ∷ es) =
    let first : 1 ≤ line_count (event_text e) = ended-line (event_line e) in
    let both : line_count (flat_map event_text (e ∷ es)) ≡ line_count (event_text e) + line_count (flat_map event_text es) = ap line_count (flat_map-cons event_text e es) ∙ line_count-append (event_text e) (flat_map event_text es) in
    omega (arith, first, both, events-lines es)

-- so no more events are read than lines
pub first-few : (most lines : ℕ) (B : Recording) (piece : List ℕ) (part : Part) → piece ≡ spelling B → line_count piece ≤ lines → lines ≤ most + 1 → part.trace.events ≡ B.events → length part.trace.events ≤ most
first-few most lines B piece part is few bound own =
    let whole : line_count (spelling B) ≡ line_count (ended (header B.format)) + line_count (flat_map event_text B.events) =
    ap line_count (spelling-is B) ∙ line_count-append (ended (header B.format)) (flat_map event_text B.events) in
    omega (arith, whole, ended-line (header B.format), events-lines B.events, few, bound, ap line_count is, ap length own)

pub next-few : (most : ℕ) (before after : Part) (B : Recording) (piece : List ℕ) → piece ≡ flat_map event_text B.events → line_count piece ≤ most - length before.trace.events →
    Extends before B after → (length after.trace.events ≤ most) ⊎ (after.end ≡ before.end)
next-few most before after B piece is few more =
    let count : length B.events ≤ most - length before.trace.events = omega (arith, events-lines B.events, ap line_count is, few) in
    let long : length after.trace.events ≡ length before.trace.events + length B.events = ap length more.grown ∙ length-append before.trace.events B.events in
    elim (cases_lt (length before.trace.events) most) [
      | inl room ↦ inl (omega (arith, count, long, room))
      | inr full ↦ inr (omega (arith, count, more.ends, full))
    ]

pub kept-to : (most : ℕ) (part begun next : Part) → (begun.before ≡ part.end) × (begun.end ≡ part.end) → next.before ≡ begun.before → (length next.trace.events ≤ most) ⊎ (next.end ≡ begun.end) → KeepsTo most next
kept-to most part begun next at same (inl few) = inl few
kept-to most part begun next at same (inr none) = inr (none ∙ at.1 ∙ sym at.0 ∙ sym same)

-- the first part
pub first-cut : (ranges : List ByteRange) (overlap : ℕ) (old new : Option (List ℕ)) (begun part : Part) (block : Recording) → Consumes old new (spelling block) → IsTrace block →
    begun.place ≡ 0 → begun.before ≡ 0 → begun.end ≡ 0 → ((T : Recording) → T.format ≡ block.format → IsPartOf T ranges begun) → Extends begun block part → IsCutSoFar ranges overlap old new [] part
first-cut ranges overlap old new begun part block text is place before end empty more = record {
  read = block;
  text = text;
  well = well-trace block is;
  ends = omega (arith, more.ends, end);
  format = more.same_format;
  follow = λ T begins. (
    more.part T ranges (empty T begins.0) (begins.1, ap (λ n. drop n T.events) end ∙ begins.2),
    more.same_before ∙ before,
    more.same_place ∙ place ∙ start,
    refl,
  );
}
  where
    start : 0 ≡ 0 - min overlap (0 - 0)
    start = omega arith

-- the part after one
pub next-cut : (ranges : List ByteRange) (most overlap : ℕ) (old mid new : Option (List ℕ)) (parts : List Part) (part begun next : Part) → IsCutSoFar ranges overlap old mid parts part →
    ((T : Recording) → IsPartOf T ranges part → IsPartOf T ranges begun) → begun.trace.format ≡ part.trace.format → begun.place ≡ part.end - min overlap (part.end - part.place) →
    (begun.before ≡ part.end) × (begun.end ≡ part.end) → ReadsOn most mid new begun next → IsCutSoFar ranges overlap old new (parts ++ part ∷ []) next
next-cut ranges most overlap old mid new parts part begun next so_far made format place ends more = record {
  read = grown S B.events;
  text = subst (Consumes old new) (spelling-grown S B.events) (Consumes-trans old mid new (spelling S) (flat_map event_text B.events) so_far.text more.text);
  well = record { format = so_far.well.format; each = all-both (IsEventIn S.format) S.events B.events so_far.well.each (subst (λ f. AllByRecursion (IsEventIn f) B.events) same more.is_trace.each) };
  ends = omega (arith, more.extends.ends, ends.1, so_far.ends, length-append S.events B.events);
  format = more.extends.same_format ∙ same;
  follow = follow;
}
  where
    S : Recording
    S = so_far.read

    B : Recording
    B = more.block

    same : B.format ≡ S.format
    same = sym more.extends.format ∙ format ∙ so_far.format

    follow : (T : Recording) → BeginsWith (grown S B.events) T → FollowOn T ranges overlap 0 0 next.end ((parts ++ part ∷ []) ++ next ∷ [])
    follow T begins =
        let split : T.events ≡ S.events ++ (B.events ++ begins.1) = begins.2 ∙ append_assoc S.events B.events begins.1 in
        let chain = so_far.follow T (begins.0, B.events ++ begins.1, split) in
        let is = made T (follow-last T ranges overlap 0 0 part.end parts part chain) in
        let at : length S.events ≡ begun.end = sym so_far.ends ∙ sym ends.1 in
        let comes : ComesNext T begun.end B = (begins.1, ap (drop begun.end) split ∙ drop_at S.events (B.events ++ begins.1) begun.end at) in
        follow-more T ranges overlap 0 0 parts part next chain (more.extends.part T ranges is comes) (more.extends.same_before ∙ ends.0) (more.extends.same_place ∙ place)

known-whole : (old new : Option (List ℕ)) (text : List ℕ) → Consumes old new text → IsAtEnd new → IfSome old (λ bytes. bytes ≡ text)
known-whole None new text takes end = tt
known-whole (Some bytes) None text takes end = absurd takes
known-whole (Some bytes) (Some rest) text takes end = takes ∙ ap (λ xs. text ++ xs) end ∙ append-nil text

-- the bytes are kept meanwhile
pub kept-cut : (ranges : List ByteRange) (overlap : ℕ) (old mid new : Option (List ℕ)) (parts : List Part) (part : Part) → IsCutSoFar ranges overlap old mid parts part → Keeps mid new →
    IsCutSoFar ranges overlap old new parts part
kept-cut ranges overlap old mid new parts part so_far keeps = record {
  read = so_far.read;
  text = Consumes-kept old mid new (spelling so_far.read) so_far.text keeps;
  well = so_far.well;
  ends = so_far.ends;
  format = so_far.format;
  follow = so_far.follow;
}

-- no more comes
pub last-cut : (ranges : List ByteRange) (overlap : ℕ) (old mid new : Option (List ℕ)) (parts : List Part) (part : Part) → IsCutSoFar ranges overlap old mid parts part → Keeps mid new → IsAtEnd new →
    IsCutText ranges overlap old (parts ++ part ∷ [])
last-cut ranges overlap old mid new parts part so_far keeps end = (
  S,
  so_far.well,
  known-whole old new (spelling S) (Consumes-kept old mid new (spelling S) so_far.text keeps) end,
  all-parts S ranges overlap (parts ++ part ∷ [])
      (subst (λ n. FollowOn S ranges overlap 0 0 n (parts ++ part ∷ [])) so_far.ends (so_far.follow S (refl, [], sym (append-nil S.events)))),
)
  where
    S : Recording
    S = so_far.read
