-- The bytes of a range in one line.
use Rattle.std.proofs.Common.{◌≡◌, ℕ, ◌+◌, ◌-◌, ◌*◌, ◌%◌, ◌^◌, ◌<◌, ◌≤◌, ◌⊎◌, inl, inr, Bool, true, false, refl, sym, ap, subst, ◌∙◌, arith}
use Rattle.std.specs.Prelude.{◌↔◌, ◌&&◌, nat_le}
use Rattle.std.proofs.lemmas.Bool.{cases_lt, le-leb, and_from}
use Rattle.std.proofs.lemmas.Nat.{div-add-mod', div-mul-add, mod_below}
use Rattle.pmt_laws.specs.Prelude.{Span, line_of, Recording, IsTrace, history, lines_of, has_line, InSpan}
use Rattle.pmt_safety.specs.Safety.{last_line_store_at, safe_store_at}
use Rattle.pmt_tables.specs.Slots.{IsSlotOf, AreBytesOf, IsSpanned}
use Rattle.pmt_tables.proofs.ListLemmas.{list_any-has_line, list_any-slot}
use Rattle.pmt_rows.specs.declared.rows.Row.{Row}
use Rattle.pmt_tables.specs.Lasts.{IsLastTo, IsLeastAbove, IsNewest, last_number}
use Rattle.pmt_tables.specs.declared.spanned.LineBytes.{LineBytes}
use Rattle.pmt_tables.specs.declared.spanned.Spanned.{Spanned}
use Rattle.pmt_tables.proofs.SpanLemmas.{lines-met}
use Rattle.pmt_sweep.specs.declared.known.Known.{Known}
use Rattle.pmt_sweep.specs.Known.{IsKnownOf, last_in_line, IsLineOf}
use Rattle.pmt_sweep.proofs.WordsLemmas.{byte-le_last}
use Rattle.pmt_sweep.proofs.ReadingLemmas.{some-bytes}
use Rattle.pmt_sweep.specs.declared.placed.Placed.{Placed}
use Rattle.pmt_sweep.specs.Judged.{EachIn, IsAtLine, IsLineBefore, IsLineSafe}

-- ---- Lines without stores to the range

-- no store has come to a line that has no slot
none-without : (T : Recording) (n l : ℕ) (k : Known) → IsKnownOf T n k → ((slot : ℕ) → IsSlotOf l slot (lines_of (history T n)) → ⊥) → last_line_store_at T l n ≡ 0
none-without T n l k known without = ap (λ (y : Row). y.last_store) (known.rows.others l (go (has_line l (lines_of (history T n))) refl))
  where
    go : (b : Bool) → has_line l (lines_of (history T n)) ≡ b → has_line l (lines_of (history T n)) ≡ false
    go false e = e
    go true e = let at = list_any-slot (lines_of (history T n)) l (list_any-has_line l (lines_of (history T n)) ∙ e) in absurd (without at.0 at.1)

-- The bytes of A in line l have no last store.
abbrev pub IsLineBare : Recording → ℕ → Span → ℕ → Type 0
IsLineBare T n A l = EachIn T A l (λ b. last_number T n b ≡ 0)

pub bare-unplaced : (T : Recording) (n l : ℕ) (A : Span) (k : Known) → IsKnownOf T n k → ((slot : ℕ) → IsSlotOf l slot (lines_of (history T n)) → ⊥) → IsLineBare T n A l
bare-unplaced T n l A k known without b own here = omega (arith, byte-le_last T n b known.trace, ap (λ m. last_line_store_at T m n) here, none-without T n l k known without)

-- a line that the range does not meet has none of its bytes
pub bare-above : (T : Recording) (n l : ℕ) (A : Span) (s : Spanned) → IsSpanned T.format A s → s.last < l → IsLineBare T n A l
bare-above T n l A s is more b own here = let at = lines-met T.format A s b is own in absurd (omega (arith, at.1, here, more))

pub met : (T : Recording) (l b : ℕ) (A : Span) (s : Spanned) → IsSpanned T.format A s → InSpan A b → line_of T.format b ≡ l → (nat_le s.first l && nat_le l s.last) ≡ true
met T l b A s is own here = let at = lines-met T.format A s b is own in and_from (nat_le s.first l) (nat_le l s.last) (le-leb s.first l (omega (arith, at.0, here))) (le-leb l s.last (omega (arith, at.1, here)))

-- ---- The bytes of a line

-- a byte of a line by its distance from the first one
record IsByteOf (T : Recording) (l b o : ℕ) : Type 0 where
  pub within : o < T.format.line_size
  pub at : l * T.format.line_size + o ≡ b

byte-of : (T : Recording) (l b : ℕ) → IsTrace T → line_of T.format b ≡ l → IsByteOf T l b (b % T.format.line_size)
byte-of T l b trace here = let size = T.format.line_size in record { within = mod_below b size (some-bytes T trace); at = ap (λ m. m * size + b % size) (sym here) ∙ div-add-mod' b size }

-- a line that comes later begins after the last byte of this one
later-begins : (k l size : ℕ) → k < l → k * size + size ≤ l * size
later-begins k l size less =
    let e : k + 1 + (l - k - 1) ≡ l = omega (arith, less) in
    omega (arith, spread k (l - k - 1) size, ap (λ m. m * size) e)
  where
    spread : (k d size : ℕ) → (k + 1 + d) * size ≡ k * size + size + d * size
    spread k d size = omega arith

-- of a line between the first and the last one all bytes are of the range
pub inner-bytes : (T : Recording) (l : ℕ) (A : Span) (s : Spanned) → IsTrace T → IsSpanned T.format A s → s.first < l → l < s.last → AreBytesOf T.format A l (record { low = 0; high = T.format.line_size })
inner-bytes T l A s trace is after before = record {
  some = some-bytes T trace;
  within = omega arith;
  just = λ o within. (λ _. (low o, high o within), λ _. (omega arith, within));
}
  where
    low : (o : ℕ) → A.addr ≤ l * T.format.line_size + o
    low o =
        let addr = div-add-mod' A.addr T.format.line_size in
        let rest = mod_below A.addr T.format.line_size (some-bytes T trace) in
        omega (arith, addr, rest, ap (λ m. m * T.format.line_size) is.first, later-begins s.first l T.format.line_size after)

    high : (o : ℕ) → o < T.format.line_size → l * T.format.line_size + o < A.addr + A.len
    high o within = omega (arith, within, is.high, later-begins l s.last T.format.line_size before)

module _ (T : Recording) (n l : ℕ) (A : Span) (bytes : LineBytes) (trace : IsTrace T) (are : AreBytesOf T.format A l bytes) where
  -- a byte of the range in the line is one of these
  in-bytes : (b : ℕ) → InSpan A b → line_of T.format b ≡ l → (o : ℕ) × (bytes.low ≤ o) × (o < bytes.high) × (last_in_line T n l o ≡ last_number T n b)
  in-bytes b own here =
      let it = byte-of T l b trace here in
      let o = b % T.format.line_size in
      let inside = (are.just o it.within).1 (subst (InSpan A) (sym it.at) own) in
      (o, inside.0, inside.1, ap (last_number T n) it.at)

  -- and the other way round
  from-bytes : (o : ℕ) → bytes.low ≤ o → o < bytes.high → InSpan A (l * T.format.line_size + o) × (line_of T.format (l * T.format.line_size + o) ≡ l)
  from-bytes o from to = let within : o < T.format.line_size = omega (arith, to, are.within) in ((are.just o within).0 (from, to), div-mul-add l T.format.line_size o within)

  -- the newest of their last stores comes no later than a store exactly where each of them comes no later
  pub newest-before : (newest store : ℕ) → IsNewest bytes.low bytes.high (last_in_line T n l) newest → (newest ≤ store) ↔ IsLineBefore T n A l store
  newest-before newest store is = (there, λ before. back before is.reached)
    where
      there : newest ≤ store → IsLineBefore T n A l store
      there le b own here = let o = in-bytes b own here in omega (arith, le, is.greatest o.0 o.1 o.2, o.3)

      back : IsLineBefore T n A l store → (newest ≡ 0) ⊎ IsLastTo bytes.low bytes.high (last_in_line T n l) newest → newest ≤ store
      back before (inl none) = omega (arith, none)
      back before (inr x) = let at = from-bytes x.0 x.1 x.2 in omega (arith, before (l * T.format.line_size + x.0) at.0 at.1, x.3)

  -- where there is none the line is bare
  pub newest-none : (newest : ℕ) → IsNewest bytes.low bytes.high (last_in_line T n l) newest → newest ≡ 0 → IsLineBare T n A l
  newest-none newest is none b own here = let o = in-bytes b own here in omega (arith, is.greatest o.0 o.1 o.2, o.3, none)

  pub newest-reached : (newest : ℕ) → IsNewest bytes.low bytes.high (last_in_line T n l) newest → 0 < newest → (b : ℕ) × InSpan A b × (line_of T.format b ≡ l) × (last_number T n b ≡ newest)
  newest-reached newest is some = go is.reached
    where
      go : (newest ≡ 0) ⊎ IsLastTo bytes.low bytes.high (last_in_line T n l) newest → (b : ℕ) × InSpan A b × (line_of T.format b ≡ l) × (last_number T n b ≡ newest)
      go (inl none) = absurd (omega (arith, none, some))
      go (inr x) = let at = from-bytes x.0 x.1 x.2 in (l * T.format.line_size + x.0, at.0, at.1, x.3)

  pub oldest-least : (oldest : ℕ) → IsLeastAbove 0 bytes.low bytes.high (last_in_line T n l) oldest → EachIn T A l (λ b. 0 < last_number T n b → (0 < oldest) × (oldest ≤ last_number T n b))
  oldest-least oldest is b own here some = let o = in-bytes b own here in let x = is.least o.0 o.1 o.2 (omega (arith, some, o.3)) in (x.0, omega (arith, x.1, o.3))

  pub oldest-none : (oldest : ℕ) → IsLeastAbove 0 bytes.low bytes.high (last_in_line T n l) oldest → oldest ≡ 0 → IsLineBare T n A l
  oldest-none oldest is none b own here = elim (cases_lt 0 (last_number T n b)) [
    | inl some ↦ absurd (omega (arith, (oldest-least oldest is b own here some).0, none))
    | inr few ↦ omega (arith, few)
  ]

  pub oldest-reached : (oldest : ℕ) → IsLeastAbove 0 bytes.low bytes.high (last_in_line T n l) oldest → 0 < oldest → (b : ℕ) × InSpan A b × (line_of T.format b ≡ l) × (last_number T n b ≡ oldest)
  oldest-reached oldest is some = go is.reached
    where
      go : (oldest ≡ 0) ⊎ ((0 < oldest) × IsLastTo bytes.low bytes.high (last_in_line T n l) oldest) → (b : ℕ) × InSpan A b × (line_of T.format b ≡ l) × (last_number T n b ≡ oldest)
      go (inl none) = absurd (omega (arith, none, some))
      go (inr x) = let at = from-bytes x.1.0 x.1.1 x.1.2 in (l * T.format.line_size + x.1.0, at.0, at.1, x.1.3)

-- ---- Safe lines

-- a line is safe where no last store comes after its last safe store
pub safe-before : (T : Recording) (n l : ℕ) (A : Span) → IsLineBefore T n A l (safe_store_at T l n) ↔ IsLineSafe T n A l
safe-before T n l A = (
  λ before b own here. omega (arith, before b own here, ap (λ m. safe_store_at T m n) here),
  λ safe b own here. omega (arith, safe b own here, ap (λ m. safe_store_at T m n) here),
)

-- so it is where the last store to the line is safe
pub last-safe : (T : Recording) (n l : ℕ) (A : Span) → IsTrace T → last_line_store_at T l n ≤ safe_store_at T l n → IsLineSafe T n A l
last-safe T n l A trace le = (safe-before T n l A).0 (λ b own here. omega (arith, byte-le_last T n b trace, ap (λ m. last_line_store_at T m n) here, le))

pub bare-safe : (T : Recording) (n l : ℕ) (A : Span) → IsLineBare T n A l → IsLineSafe T n A l
bare-safe T n l A bare b own here = omega (arith, bare b own here)

-- ---- A line with its slot

pub at-line : (T : Recording) (n : ℕ) (A : Span) (s : Spanned) (at : Placed) (k : Known) → IsLineOf T n A s at.line k → IsSlotOf at.line at.slot (lines_of (history T n)) → at.slot < 2 ^ 32 → IsAtLine T n A s at k
at-line T n A s at k is here small = record {
  spanned = is.spanned;
  from = is.first;
  to = is.last;
  line = record { known = is.known; at = here };
  small = small;
}
