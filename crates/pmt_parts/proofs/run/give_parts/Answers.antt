use Rattle.pmt_parts.proofs.Prelude.{◌≡◌, [], ◌∷◌, ◌++◌, Err, inl, inr, refl, subst, rules, coming, IsCutSoFar, KeepsTo, IsRefusedBehind, RefusedAs}
use Rattle.pmt_parts.proofs.RunLemmas.{all-both, kept-cut, last-cut}
use Rattle.pmt_parts.proofs.StopLemmas.{refused-as, stops-in}
use Rattle.pmt_parts.proofs.run.give_parts.Goals as goal

pub loop-init : goal.loop-init
loop-init g c =
    let R = g.R.Read.remaining in (
      [],
      subst (λ known. IsCutSoFar c.args.ignored.now c.args.overlap known (coming R c.first_part.new.pieces) [] c.in-Ok.part) c.new-pieces.ensures (c.in-Ok.ensures.cut c.args.ignored.now c.args.overlap),
      (λ took. took),
      tt,
      c.in-Ok.ensures.few,
    )

pub returns-then-branch-clause-all : goal.returns-then-branch-clause-all
returns-then-branch-clause-all g c =
    let R = g.R.Read.remaining in
    let l = c.loop in
    let x = l.invariant in
    let given = c.in_ok-hand_on.ensures in (
      x.0 ++ l.part ∷ [],
      last-cut c.args.ignored.now c.args.overlap (R c.args.input) (coming R l.pieces) (coming R c.hand_on.new.pieces) x.0 l.part x.1 given.kept (given.end c.if-branch.true),
      (λ none. subst (λ last. g.S.PartTaker.took (x.0 ++ l.part ∷ []) last c.hand_on.new.taker) c.if-branch.true (given.took x.0 (x.2 none))),
      all-both (KeepsTo c.args.most) x.0 (l.part ∷ []) x.3 (x.4, tt),
    )

pub loop-preserved : goal.loop-preserved
loop-preserved g c =
    let R = g.R.Read.remaining in
    let l = c.loop in
    let x = l.invariant in
    let given = c.in_ok-hand_on.ensures in
    let next = c.in_ok-part.ensures in (
      x.0 ++ l.part ∷ [],
      next.part (R c.args.input) x.0 (kept-cut c.args.ignored.now c.args.overlap (R c.args.input) (coming R l.pieces) (coming R c.hand_on.new.pieces) x.0 l.part x.1 given.kept),
      (λ none. next.took (x.0 ++ l.part ∷ []) (subst (λ last. g.S.PartTaker.took (x.0 ++ l.part ∷ []) last c.hand_on.new.taker) c.if-branch.false (given.took x.0 (x.2 none)))),
      all-both (KeepsTo c.args.most) x.0 (l.part ∷ []) x.3 (x.4, tt),
      next.few,
    )

pub returns-in-Err-clause-stops : goal.returns-in-Err-clause-stops
returns-in-Err-clause-stops g c =
    let R = g.R.Read.remaining in
    let first = subst (λ known. RefusedAs (IsRefusedBehind [] known 0) c.in-Err.error) c.new-pieces.ensures c.in-Err.ensures.refused in
    ([], (λ took. took), refused-as _ _ c.in-Err.error (λ r is. inl (refl, is)) first)

pub returns-in_err-hand_on-clause-stops : goal.returns-in_err-hand_on-clause-stops
returns-in_err-hand_on-clause-stops g c =
    let x = c.loop.invariant in
    let s = c.in_err-hand_on.field-0.0 in
    let told : c.from_residual.result ≡ Err s = search (rules, c.from_residual.ensures) in
    stops-in _ _ _ s told (λ e is. (x.0, (λ none. is.1 x.0 (x.2 none)), refused-as _ _ e (λ r none. absurd none) is.0)) c.in_err-hand_on.ensures.stops

pub returns-in_err-part-clause-stops : goal.returns-in_err-part-clause-stops
returns-in_err-part-clause-stops g c =
    let R = g.R.Read.remaining in
    let l = c.loop in
    let x = l.invariant in
    let given = c.in_ok-hand_on.ensures in
    let s = c.in_err-part.field-0.0 in
    let cut = kept-cut c.args.ignored.now c.args.overlap (R c.args.input) (coming R l.pieces) (coming R c.hand_on.new.pieces) x.0 l.part x.1 given.kept in
    let told : c.from_residual-in_err-part.result ≡ Err s = search (rules, c.from_residual-in_err-part.ensures) in
    stops-in _ _ _ s told
    (λ e is. (
      x.0 ++ l.part ∷ [],
      (λ none. is.1 (x.0 ++ l.part ∷ []) (subst (λ last. g.S.PartTaker.took (x.0 ++ l.part ∷ []) last c.hand_on.new.taker) c.if-branch.false (given.took x.0 (x.2 none)))),
      refused-as _ _ e (λ r past. inr (x.0, l.part, coming R c.hand_on.new.pieces, refl, cut, past)) is.0,
    ))
    c.in_err-part.ensures.stops
