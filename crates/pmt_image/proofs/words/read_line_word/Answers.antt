use Rattle.pmt_image.proofs.Prelude.{◌≡◌, ◌∙◌, sym, ap, arith, None, Some, option_map, address_in, number_in, capped}
use Rattle.pmt_image.proofs.WordLemmas.{IsCut, asks-this, no-address, no-address-past, no-colon, no-number}
use Rattle.pmt_image.proofs.words.read_line_word.Goals as goal

pub returns-in_default : goal.returns-in_default
returns-in_default c = no-colon c.args.word.now (c.in_default.ensures.byte (omega arith) (λ w o h. h))

pub returns-in_default-read_address : goal.returns-in_default-read_address
returns-in_default-read_address c =
    let word = c.args.word.now in
    let front = c.in-Some.front.now in
    let digits = c.in-Some.digits.now in
    let at = c.in-Some.ensures.byte (omega arith) (λ w o h. h) in
    let cut : IsCut word front digits = record { front_is = at.0; digits_are = at.1; within = at.2 } in
    let read : None ≡ option_map capped (address_in front) = sym c.in_default-read_address.is ∙ c.read_address.ensures ∙ ap (λ bytes. option_map capped (address_in bytes)) c.as_bytes.ensures.value in
    no-address word front digits cut read

pub returns-in_default-read_number : goal.returns-in_default-read_number
returns-in_default-read_number c =
    let word = c.args.word.now in
    let front = c.in-Some.front.now in
    let digits = c.in-Some.digits.now in
    let at = c.in-Some.ensures.byte (omega arith) (λ w o h. h) in
    let cut : IsCut word front digits = record { front_is = at.0; digits_are = at.1; within = at.2 } in
    let counted : None ≡ option_map capped (number_in 10 digits) = sym c.in_default-read_number.is ∙ c.read_number.ensures ∙ ap (λ bytes. option_map capped (number_in 10 bytes)) c.as_bytes-2.ensures.value in
    no-number word front digits cut counted

pub returns-in-Ok : goal.returns-in-Ok
returns-in-Ok c =
    let word = c.args.word.now in
    let front = c.in-Some.front.now in
    let digits = c.in-Some.digits.now in
    let value = c.in-Some-read_address.value in
    let stores = c.in-Some-read_number.stores in
    let at = c.in-Some.ensures.byte (omega arith) (λ w o h. h) in
    let cut : IsCut word front digits = record { front_is = at.0; digits_are = at.1; within = at.2 } in
    let read : Some value ≡ option_map capped (address_in front) = sym c.in-Some-read_address.is ∙ c.read_address.ensures ∙ ap (λ bytes. option_map capped (address_in bytes)) c.as_bytes.ensures.value in
    let counted : Some stores ≡ option_map capped (number_in 10 digits) = sym c.in-Some-read_number.is ∙ c.read_number.ensures ∙ ap (λ bytes. option_map capped (number_in 10 bytes)) c.as_bytes-2.ensures.value in
    asks-this word front digits value c.in-Ok.address stores _ cut read c.in-Ok.ensures counted

pub returns-in-Err : goal.returns-in-Err
returns-in-Err c =
    let word = c.args.word.now in
    let front = c.in-Some.front.now in
    let digits = c.in-Some.digits.now in
    let value = c.in-Some-read_address.value in
    let at = c.in-Some.ensures.byte (omega arith) (λ w o h. h) in
    let cut : IsCut word front digits = record { front_is = at.0; digits_are = at.1; within = at.2 } in
    let read : Some value ≡ option_map capped (address_in front) = sym c.in-Some-read_address.is ∙ c.read_address.ensures ∙ ap (λ bytes. option_map capped (address_in bytes)) c.as_bytes.ensures.value in
    no-address-past word front digits value c.in-Err.field-0 _ cut read c.in-Err.ensures
