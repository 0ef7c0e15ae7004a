-- How often a place that stores to an address while a flush is open does so with nothing open.
use Rattle.std.proofs.Common.{◌≡◌, ℕ, suc, zero, ◌+◌, ◌<◌, ◌≤◌, Bool, true, false, List, [], ◌∷◌, length, take, get_or, Option, None, Some, refl, sym, ap, subst, ◌∙◌, arith}
use Rattle.std.specs.Prelude.{◌==◌, ◌||◌, ◌&&◌, not, if◌then◌else◌, map, option_map, unwrap_or}
use Rattle.std.proofs.lemmas.Bool.{and_from, eq-eqb, or_left, or_right}
use Rattle.std.proofs.lemmas.List.Folds.{list_any_more}
use Rattle.pmt_laws.specs.Prelude.{Event, Act, Stores, Flushes, Clflushes, Fences, Asserts, Recording, IsAct, act, event, list_any}
use Rattle.pmt_laws.proofs.Histories.{act-unique}
use Rattle.pmt_explain.specs.Following.{IsFirst, past_of}
use Rattle.pmt_hints.specs.declared.contrast.Contrast.{Contrast}
use Rattle.pmt_hints.specs.declared.contrast.Spot.{Spot}
use Rattle.pmt_hints.specs.declared.hint.Hint.{Hint}
use Rattle.pmt_hints.specs.declared.next_stores.NextStores.{NextStores}
use Rattle.pmt_hints.specs.Contrasts.{
  Counts,
  IsSmall,
  IsStoreElsewhere,
  as_asked,
  asked_at,
  clear_by,
  clear_over,
  contrast_at,
  contrast_by,
  contrast_if,
  contrast_over,
  contrast_upto,
  count_at,
  counted_if,
  is_asked,
  is_clear,
  is_spot,
  more,
  next_by,
  nothing,
  op_spot,
  open_by,
  spot_in,
}
use Rattle.pmt_hints.proofs.OpenAtLemmas.{StoresFrom}
use Rattle.pmt_hints.proofs.SplitLemmas.{origin-same}

add-one : (n : ℕ) → suc n ≡ n + 1
add-one n = omega arith

-- ---- The next store

pub next-told : (T : Recording) (n u x : ℕ) (a : Act) (stores : NextStores) → IsAct T (suc n) a → u < 256 → ((t l : ℕ) → a ≡ Flushes t l → t ≡ u) → x ≡ next_by stores a → StoresFrom T (suc n) stores →
    (t l : ℕ) → IsAct T (suc n) (Flushes t l) → IsFirst (IsStoreElsewhere T t l (suc n)) (past_of T) x
next-told T n u x a stores is small by told from = λ t l flush.
    let same : a ≡ Flushes t l = act-unique T (suc n) a (Flushes t l) is flush in
    let own : t ≡ u = by t l same in
    subst (IsFirst (IsStoreElsewhere T t l (suc n)) (past_of T)) (sym (told ∙ ap (next_by stores) same)) (from t l (omega (arith, own, small)))

-- ---- Whether a thread has nothing open

open-clear : (a : Act) (t old : ℕ) (b : Bool) → (old == 0) ≡ b → (open_by a t old == 0) ≡ clear_by a t b
open-clear (Stores l w) t old b is = is
open-clear (Flushes u l) t old b is = go (u == t)
  where
    go : (own : Bool) → ((if own then 1 else old) == 0) ≡ (not own && b)
    go true = refl
    go false = is
open-clear (Clflushes l) t old b is = is
open-clear (Fences u) t old b is = go (u == t)
  where
    go : (own : Bool) → ((if own then 0 else old) == 0) ≡ (own || b)
    go true = refl
    go false = is
open-clear Asserts t old b is = is

pub clear-up : (T : Recording) (n : ℕ) (e : Event) (a : Act) (t old new : ℕ) → event T (suc n) ≡ Some e → act T.format e ≡ a → new ≡ open_by a t old → (old == 0) ≡ is_clear T t n → (new == 0) ≡ is_clear T t (n + 1)
clear-up T n e a t old new here own noted was =
    ap (λ x. x == 0) noted ∙ open-clear a t old (is_clear T t n) was ∙ ap (λ x. clear_by x t (is_clear T t n)) (sym own)
    ∙ sym (ap (λ o. clear_over T.format o t (is_clear T t n)) here) ∙ ap (is_clear T t) (add-one n)

-- ---- Counts

more-small : (s b : Bool) (c : Contrast) (n : ℕ) → c.clear ≤ n → c.all ≤ n → ((more s b c).clear ≤ suc n) × ((more s b c).all ≤ suc n)
more-small false b c n few all = (omega (arith, few), omega (arith, all))
more-small true false c n few all = (omega (arith, few), omega (arith, all))
more-small true true c n few all = (omega (arith, few), omega (arith, all))

upto-small : (T : Recording) (labels : List (Option ℕ)) (s : Spot) (n : ℕ) → ((contrast_upto T labels s n).clear ≤ n) × ((contrast_upto T labels s n).all ≤ n)
upto-small T labels s zero = (omega arith, omega arith)
upto-small T labels s (suc n) = go (event T (suc n)) (upto-small T labels s n)
  where
    c : Contrast
    c = contrast_upto T labels s n

    go : (o : Option Event) → (c.clear ≤ n) × (c.all ≤ n) → ((contrast_over T labels s n o c).clear ≤ suc n) × ((contrast_over T labels s n o c).all ≤ suc n)
    go None x = (omega (arith, x.0), omega (arith, x.1))
    go (Some e) x = more-small (is_spot s (op_spot labels (suc n) e.thread e.op)) (is_clear T e.thread n) c n x.0 x.1

-- each count has room for one more
pub counts-small : (T : Recording) (labels : List (Option ℕ)) (s : Spot) (n : ℕ) (asked : Bool) (o : Option Contrast) (c : Contrast) → n + 1 < 18446744073709551616 → o ≡ as_asked asked (contrast_upto T labels s n) → o ≡ Some c → IsSmall c
counts-small T labels s n false o c small is some = let clash : None ≡ Some c = sym is ∙ some in cc
counts-small T labels s n true o c small is some =
    let both : Some (contrast_upto T labels s n) ≡ Some c = sym is ∙ some in
    let same : contrast_upto T labels s n ≡ c = cc in
    subst IsSmall same (omega (arith, small, (upto-small T labels s n).0), omega (arith, small, (upto-small T labels s n).1))

pub count-up : (T : Recording) (labels : List (Option ℕ)) (s : Spot) (n : ℕ) (e : Event) (b asked : Bool) (spot : Option Spot) (old new : Option Contrast) → event T (suc n) ≡ Some e → b ≡ is_clear T e.thread n → spot ≡ op_spot labels (n + 1) e.thread e.op →
    new ≡ option_map (more (is_spot s spot) b) old → old ≡ as_asked asked (contrast_upto T labels s n) → new ≡ as_asked asked (contrast_upto T labels s (n + 1))
count-up T labels s n e b false spot old new here clear own noted was = noted ∙ ap (option_map (more (is_spot s spot) b)) was
count-up T labels s n e b true spot old new here clear own noted was =
    let c = contrast_upto T labels s n in
    noted ∙ ap (option_map (more (is_spot s spot) b)) was ∙ ap (λ x. Some (more (is_spot s spot) x c)) clear
    ∙ ap (λ o. Some (more (is_spot s o) (is_clear T e.thread n) c)) (own ∙ ap (λ m. op_spot labels m e.thread e.op) (sym (add-one n)))
    ∙ sym (ap (λ o. Some (contrast_over T labels s n o c)) here) ∙ ap (λ m. Some (contrast_upto T labels s m)) (add-one n)

-- ---- The spots that are asked for

ask-one : (was is : Bool) (old new : Option Contrast) → old ≡ as_asked was nothing → new ≡ asked_at is old → new ≡ as_asked (was || is) nothing
ask-one false false old new before asked = asked ∙ before
ask-one true false old new before asked = asked ∙ before
ask-one false true old new before asked = asked
ask-one true true old new before asked = asked

pub ask-up : (T : Recording) (labels : List (Option ℕ)) (nexts : List ℕ) (hints : List Hint) (i : ℕ) (s : Spot) (d : Hint) (spot : Option Spot) (old new : Option Contrast) → i < length hints → spot ≡ spot_in T labels nexts (get_or hints i d) →
    new ≡ asked_at (is_spot s spot) old → old ≡ as_asked (is_asked T labels nexts (take i hints) s) nothing → new ≡ as_asked (is_asked T labels nexts (take (i + 1) hints) s) nothing
ask-up T labels nexts hints i s d spot old new within own asked before =
    let P = λ (h : Hint). is_spot s (spot_in T labels nexts h) in
    ask-one (list_any P (take i hints)) (P (get_or hints i d)) old new before (asked ∙ ap (λ x. asked_at (is_spot s x) old) own) ∙ ap (λ is. as_asked is nothing) (sym (list_any_more P hints i d within))

spot-same : (s : Spot) → is_spot s (Some s) ≡ true
spot-same s = and_from _ _ (eq-eqb s.address s.address refl) (origin-same s.place)

-- the contrast of each hint
counted-each : (T : Recording) (labels : List (Option ℕ)) (nexts : List ℕ) (counts : Counts) (hs : List Hint) → ((s : Spot) → is_asked T labels nexts hs s ≡ true → count_at counts s ≡ Some (contrast_at T labels s)) →
    map (contrast_by T labels nexts counts) hs ≡ map (λ (h : Hint). contrast_if T labels (spot_in T labels nexts h)) hs
counted-each T labels nexts counts [] all = refl
counted-each T labels nexts counts (h ∷ hs) all =
    ap (λ (x : Contrast). x ∷ map (contrast_by T labels nexts counts) hs) (go (spot_in T labels nexts h) refl)
    ∙ ap (λ (xs : List Contrast). contrast_if T labels (spot_in T labels nexts h) ∷ xs) (counted-each T labels nexts counts hs (λ s asked. all s (or_right (is_spot s (spot_in T labels nexts h)) (is_asked T labels nexts hs s) asked)))
  where
    go : (o : Option Spot) → spot_in T labels nexts h ≡ o → counted_if counts o ≡ contrast_if T labels o
    go None e = refl
    go (Some s) e = ap (λ (x : Option Contrast). unwrap_or x nothing) (all s (or_left (is_spot s (spot_in T labels nexts h)) (is_asked T labels nexts hs s) (ap (is_spot s) e ∙ spot-same s)))

pub counted-all : (T : Recording) (labels : List (Option ℕ)) (nexts : List ℕ) (counts : Counts) (hints : List Hint) → ((s : Spot) → count_at counts s ≡ as_asked (is_asked T labels nexts hints s) (contrast_at T labels s)) →
    map (contrast_by T labels nexts counts) hints ≡ map (λ (h : Hint). contrast_if T labels (spot_in T labels nexts h)) hints
counted-all T labels nexts counts hints all = counted-each T labels nexts counts hints (λ s asked. all s ∙ ap (λ is. as_asked is (contrast_at T labels s)) asked)
