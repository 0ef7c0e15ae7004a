use Rattle.pmt_slices.proofs.Prelude.{◌≡◌, ◌+◌, suc, sym, ap, subst, ◌∙◌, arith, Span, line_of, IsComing, IsScan}
use Rattle.pmt_slices.proofs.ScanLemmas.{byte-span, byte-inside, byte-of}
use Rattle.pmt_slices.proofs.after.coming_after.Goals as goal

pub unreachable-requires : goal.unreachable-requires
unreachable-requires c =
    let T = c.args.trace.now in
    let A : Span = byte-span c.args.addr in
    let past : c.args.place + 1 ≡ suc c.args.place = omega arith in
    let line : c.line_of-line.result ≡ line_of T.format c.args.addr = c.line_of-line.ensures ∙ ap (λ f. line_of f c.args.addr) c.format.ensures.value in
    let begun = subst (λ p. IsScan T A c.args.place p c.in_ok-scan.scan) past (c.in_ok-scan.ensures T A c.args.place past (byte-of T.format c.args.addr c.line_of-line.result line)) in
    c.in-None.ensures T A c.args.number (suc c.args.place) (c.go_back_to.ensures A begun) c.args.addr (byte-inside c.args.addr) (sym line)

pub returns : goal.returns
returns c =
    let T = c.args.trace.now in
    let A : Span = byte-span c.args.addr in
    let past : c.args.place + 1 ≡ suc c.args.place = omega arith in
    let line : c.line_of-line.result ≡ line_of T.format c.args.addr = c.line_of-line.ensures ∙ ap (λ f. line_of f c.args.addr) c.format.ensures.value in
    let begun = subst (λ p. IsScan T A c.args.place p c.in_ok-scan.scan) past (c.in_ok-scan.ensures T A c.args.place past (byte-of T.format c.args.addr c.line_of-line.result line)) in
    subst (λ l. IsComing T l c.args.number (suc c.args.place) c.in-Some.coming) line (c.in-Some.ensures T A c.args.number (suc c.args.place) (c.go_back_to.ensures A begun))
