-- The newest stores to a line, event by event.
use Rattle.std.proofs.Common.{◌≡◌, ℕ, zero, suc, ◌-◌, Bool, true, false, List, [], ◌∷◌, ◌++◌, map, reverse, Option, Some, refl, sym, ap, ◌∙◌, arith}
use Rattle.std.specs.Prelude.{◌&&◌, not}
use Rattle.pmt_laws.specs.Prelude.{Event, Written, Span, Layout, Act, act}
use Rattle.pmt_book.specs.Live.{touches, store_on, none_touches_next, none_touches}
use Rattle.pmt_book.proofs.HistoryLemmas.{acts-append}

-- the newest act is a store to the line
none_touches-store : (n l : ℕ) (A : Span) (a : Act) (h : List Act) (w : Written) (b : Bool) → Some w ≡ store_on l a → touches w A ≡ b → none_touches (suc n) l A (a ∷ h) ≡ (not b && none_touches n l A h)
none_touches-store n l A a h w b e t = ap (λ (o : Option Written). none_touches_next o A (none_touches n l A h) (none_touches (suc n) l A h)) (sym e) ∙ ap (λ (c : Bool). not c && none_touches n l A h) t

-- a number that is not 0 is the next of the one before it
pub next-of_before : (n : ℕ) → (n ≡ 0 → ⊥) → n ≡ suc (n - 1)
next-of_before zero h = absurd (h refl)
next-of_before (suc n) h = omega arith

-- the newest store writes a byte of the range
pub none_touches-stop :
    (f : Layout) (rest older : List Event) (e : Event) (left l : ℕ) (A : Span) (w : Written) → rest ≡ older ++ e ∷ [] → (left ≡ 0 → ⊥) →
    Some w ≡ store_on l (act f e) → touches w A ≡ true → none_touches left l A (reverse (map (act f) rest)) ≡ false
none_touches-stop f rest older e left l A w is some stored touched =
    ap (λ (es : List Event). none_touches left l A (reverse (map (act f) es))) is
    ∙ ap (none_touches left l A) (acts-append f older e)
    ∙ ap (λ (n : ℕ). none_touches n l A (act f e ∷ reverse (map (act f) older))) (next-of_before left some)
    ∙ none_touches-store (left - 1) l A (act f e) (reverse (map (act f) older)) w true stored touched

-- the newest store writes no byte of the range
pub none_touches-step :
    (f : Layout) (rest older : List Event) (e : Event) (left l : ℕ) (A : Span) (w : Written) → rest ≡ older ++ e ∷ [] → (left ≡ 0 → ⊥) →
    Some w ≡ store_on l (act f e) → touches w A ≡ false → none_touches left l A (reverse (map (act f) rest)) ≡ none_touches (left - 1) l A (reverse (map (act f) older))
none_touches-step f rest older e left l A w is some stored untouched =
    ap (λ (es : List Event). none_touches left l A (reverse (map (act f) es))) is
    ∙ ap (none_touches left l A) (acts-append f older e)
    ∙ ap (λ (n : ℕ). none_touches n l A (act f e ∷ reverse (map (act f) older))) (next-of_before left some)
    ∙ none_touches-store (left - 1) l A (act f e) (reverse (map (act f) older)) w false stored untouched
