use Rattle.std.proofs.Common.{◌≡◌, sym, ap₂, subst, ◌∙◌}
use Rattle.pmt_laws.specs.Prelude.{line_of, Stores, IsAct}
use Rattle.pmt_laws.proofs.Histories.{act-within}
use Rattle.pmt_explain.proofs.CauseOfLemmas.{store-act, cause-found}
use Rattle.pmt_explain.proofs.causing.cause.Goals as goal

pub returns-then-place-store : goal.returns-then-place-store
returns-then-place-store c = record {
  line = _;
  what = c.in-Store.written;
  is_store = store-act c.args.trace.now c.args.store c.in_ok-op.field-0 c.in-Store.written (sym c.get.ensures ∙ c.in_ok-op.was) c.in-Store.is;
  why = c.if-place-store.true;
}

pub cause_since-requires-clause-within : goal.cause_since-requires-clause-within
cause_since-requires-clause-within c =
    (act-within c.args.trace.now c.args.store _ (store-act c.args.trace.now c.args.store c.in_ok-op.field-0 c.in-Store.written (sym c.get.ensures ∙ c.in_ok-op.was) c.in-Store.is)).1

pub returns : goal.returns
returns c =
    let T = c.args.trace.now in
    let i = c.args.store in
    let w = c.in-Store.written in
    let line : line_of T.format w.addr ≡ c.line_of.result = sym (c.line_of.ensures ∙ ap₂ line_of c.format.ensures.value c.addr.ensures.value) in
    let store = store-act T i c.in_ok-op.field-0 w (sym c.get.ensures ∙ c.in_ok-op.was) c.in-Store.is in
    cause-found T c.args.place i c.line_of.result w c.cause_since.result (subst (λ l. IsAct T i (Stores l w)) line store) c.cause_since.ensures
