-- The first line of a place.
use Rattle.std.proofs.Common.{◌≡◌, ℕ, ◌+◌, ◌<◌, List, ◌∷◌, length, get_or, drop, subst, sym, ap, ◌∙◌}
use Rattle.std.proofs.lemmas.List.{drop_more}
use Rattle.pmt_sources.specs.declared.found.SourceLine.{SourceLine}
use Rattle.pmt_sources.specs.declared.place.SourcePlace.{SourcePlace}
use Rattle.pmt_sources.specs.Places.{AreSame, IsFirstAt, NoLineAt}

-- what is found in the rest is found in all
abbrev pub IsLeft : SourcePlace → List SourceLine → List SourceLine → Type 0
IsLeft p lines rest = (NoLineAt p rest → NoLineAt p lines) × ((line : SourceLine) → IsFirstAt p rest line → IsFirstAt p lines line)

first-behind : (p : SourcePlace) (x line : SourceLine) (rest : List SourceLine) → ¬ AreSame x.place p → IsFirstAt p rest line → IsFirstAt p (x ∷ rest) line
first-behind p x line rest other first = record {
  before = x ∷ first.before;
  after = first.after;
  stands = ap (λ ls. x ∷ ls) first.stands;
  same = first.same;
  first = (other, first.first);
}

less-left : (p : SourcePlace) (lines : List SourceLine) (x : SourceLine) (rest : List SourceLine) → ¬ AreSame x.place p → IsLeft p lines (x ∷ rest) → IsLeft p lines rest
less-left p lines x rest other left = (
  λ none. left.0 (other, none),
  λ line first. left.1 line (first-behind p x line rest other first),
)

pub left-more : (p : SourcePlace) (lines : List SourceLine) (i : ℕ) (x : SourceLine) → i < length lines → x ≡ get_or lines i x → ¬ AreSame x.place p → IsLeft p lines (drop i lines) → IsLeft p lines (drop (i + 1) lines)
left-more p lines i x within is other left =
    let e : drop i lines ≡ x ∷ drop (i + 1) lines = drop_more lines i x within ∙ ap (λ y. y ∷ drop (i + 1) lines) (sym is) in
    less-left p lines x (drop (i + 1) lines) other (subst (IsLeft p lines) e left)
