use Rattle.pmt_image.proofs.Prelude.{◌-◌, low_of, settings}
use Rattle.pmt_image.proofs.NearLemmas.{grown-more}
use Rattle.pmt_image.proofs.near.add_line.Goals as goal

pub returns : goal.returns
returns c =
    grown-more c.args.choices.now.items c.as_slice.result.now c.in_ok-more.more.items c.append.new.self.items (λ choice. choice.items) (settings c.args.most c.args.line.line (low_of c.args.all c.args.line) (c.args.line.stores - c.args.line.persisted))
    c.as_slice.ensures.value c.in_ok-append.ensures.items c.in_ok-more.ensures
