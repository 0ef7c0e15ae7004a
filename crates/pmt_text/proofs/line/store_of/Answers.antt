-- At each return, what the fields are as a store.
use Rattle.std.proofs.Common.{sym, ◌∙◌, ap, Err}
use Rattle.pmt_text.specs.declared.kind.TextKind.{TextKind}
use Rattle.pmt_text.specs.Judging.{bytes_in, fields_left}
use Rattle.pmt_text.proofs.OpLemmas.{left-some, left-none, store-none, store-alone, store-more, store-last, in_text}
use Rattle.pmt_text.proofs.JudgeLemmas.{store-no_bytes, store-many_bytes, store-some_bytes}
use Rattle.pmt_text.proofs.line.store_of.Goals as goal

pub returns-in_default : goal.returns-in_default
returns-in_default c = store-none (fields_left c.args.rest) c.in_default.ensures

pub returns-in_default-rest : goal.returns-in_default-rest
returns-in_default-rest c =
    store-alone (fields_left c.args.rest) (fields_left c.in-Some.rest) c.in-Some.addr c.in-Some.ensures (ap fields_left c.in_default-rest.is)

pub returns-then-is_some : goal.returns-then-is_some
returns-then-is_some c =
    store-more (fields_left c.args.rest) (fields_left c.in-Some.rest) c.in-Some.addr c.split_field.result.0.now (fields_left c.split_field.result.1) c.in-Some.ensures
    (ap fields_left c.in-Some-rest.is ∙ c.split_field.ensures) (left-some c.split_field.result.1 (sym c.is_some.ensures ∙ c.if-is_some.true))

pub returns-in_default-read_bytes : goal.returns-in_default-read_bytes
returns-in_default-read_bytes c =
    store-no_bytes c.in-Some.addr (bytes_in c.split_field.result.0.now) c.read_bytes.new.out c.in_default-read_bytes.ensures.given
    ∙ store-last (fields_left c.args.rest) (fields_left c.in-Some.rest) c.in-Some.addr c.split_field.result.0.now (fields_left c.split_field.result.1) c.in-Some.ensures
    (ap fields_left c.in-Some-rest.is ∙ c.split_field.ensures) (left-none c.split_field.result.1 (sym c.is_some.ensures ∙ c.if-is_some.false))

pub returns-then-len-gt8 : goal.returns-then-len-gt8
returns-then-len-gt8 c =
    store-many_bytes c.in-Some.addr (bytes_in c.split_field.result.0.now) c.in-Some-read_bytes.len c.read_bytes.new.out c.in-Some-read_bytes.ensures.given c.if-len-gt8.true
    ∙ store-last (fields_left c.args.rest) (fields_left c.in-Some.rest) c.in-Some.addr c.split_field.result.0.now (fields_left c.split_field.result.1) c.in-Some.ensures
    (ap fields_left c.in-Some-rest.is ∙ c.split_field.ensures) (left-none c.split_field.result.1 (sym c.is_some.ensures ∙ c.if-is_some.false))

pub returns-in-Ok : goal.returns-in-Ok
returns-in-Ok c =
    ap in_text c.in-Ok.ensures
    ∙ store-some_bytes c.in-Some.addr c.split_field.result.0.now c.in-Some-read_bytes.len c.read_bytes.new.out c.in-Some-read_bytes.ensures.given c.if-len-gt8.false
    ∙ store-last (fields_left c.args.rest) (fields_left c.in-Some.rest) c.in-Some.addr c.split_field.result.0.now (fields_left c.split_field.result.1) c.in-Some.ensures
    (ap fields_left c.in-Some-rest.is ∙ c.split_field.ensures) (left-none c.split_field.result.1 (sym c.is_some.ensures ∙ c.if-is_some.false))

pub returns-in-Err : goal.returns-in-Err
returns-in-Err c =
    ap (λ (kind : TextKind). Err kind) c.kind_of.ensures
    ∙ ap in_text c.in-Err.ensures
    ∙ store-some_bytes c.in-Some.addr c.split_field.result.0.now c.in-Some-read_bytes.len c.read_bytes.new.out c.in-Some-read_bytes.ensures.given c.if-len-gt8.false
    ∙ store-last (fields_left c.args.rest) (fields_left c.in-Some.rest) c.in-Some.addr c.split_field.result.0.now (fields_left c.split_field.result.1) c.in-Some.ensures
    (ap fields_left c.in-Some-rest.is ∙ c.split_field.ensures) (left-none c.split_field.result.1 (sym c.is_some.ensures ∙ c.if-is_some.false))
