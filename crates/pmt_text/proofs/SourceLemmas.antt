-- What a consumer of a source concludes from the calls that it made.
use Rattle.std.proofs.Common.{◌≡◌, List, [], ◌++◌, Option, Some, None, IfSome, refl, sym, ap, ◌∙◌, subst, append_assoc, append-nil}
use Rattle.pmt_text.specs.Prelude.{Event, Recording}
use Rattle.pmt_text.specs.declared.kind.SourceError.{SourceError}
use Rattle.pmt_text.specs.Coming.{Coming, whole}
use Rattle.pmt_text.specs.Sources.{Gives, IsOver}

-- nothing was taken yet
pub Gives-nil : (a : Option Coming) → Gives a [] a
Gives-nil None = tt
Gives-nil (Some c) = (c.events, refl, refl)

abbrev left_of : Coming → List Event → Option Coming
left_of c rest = Some (record { format = c.format; events = rest; fault = c.fault })

after_taken : (c : Coming) (rest : List Event) (d : Option Coming) (es fs : List Event) → c.events ≡ es ++ rest → Gives (left_of c rest) fs d → Gives (Some c) (es ++ fs) d
after_taken c rest d es fs e q = (q.0, e ∙ ap (λ l. es ++ l) q.1 ∙ sym (append_assoc es fs q.0), q.2)

-- two rounds of taking are one
pub Gives-trans : (a b d : Option Coming) (es fs : List Event) → Gives a es b → Gives b fs d → Gives a (es ++ fs) d
Gives-trans None b d es fs p q = tt
Gives-trans (Some c) b d es fs p q = let q' : Gives (left_of c p.0) fs d = subst (λ (o : Option Coming). Gives o fs d) p.2 q in after_taken c p.0 d es fs p.1 q'

-- a round that took nothing more
pub Gives-same : (a b d : Option Coming) (es : List Event) → Gives a es b → Gives b [] d → Gives a es d
Gives-same a b d es p q = subst (λ (l : List Event). Gives a l d) (append-nil es) (Gives-trans a b d es [] p q)

-- once it is over, what was taken is all that was coming
pub Gives-over : (a b : Option Coming) (es : List Event) (fault : Option SourceError) → Gives a es b → IsOver b fault → IfSome a (λ c. (c.events ≡ es) × (c.fault ≡ fault))
Gives-over None b es fault p q = tt
Gives-over (Some c) b es fault p q =
    let q' : IsOver (left_of c p.0) fault = subst (λ (o : Option Coming). IsOver o fault) p.2 q in
    (p.1 ∙ ap (λ l. es ++ l) q'.0 ∙ append-nil es, q'.1)

-- what came, from its parts
pub whole-parts : (c : Coming) (T : Recording) → c.format ≡ Some T.format → c.events ≡ T.events → c.fault ≡ None → c ≡ whole T
whole-parts c T f e d = λ i. record { format = f i; events = e i; fault = d i }
