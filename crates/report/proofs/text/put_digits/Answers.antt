-- The digits are the library's. Assumes nothing.
use Rattle.std.proofs.Common.{◌≡◌, ◌∙◌, ◌++◌, ap, arith, length}
use Rattle.report.specs.Text.{digits}
use Rattle.report.proofs.Laws.Line.{decimal-digits}
use Rattle.report.proofs.text.put_digits.Goals as goal

pub unwrap-requires : goal.unwrap-requires
unwrap-requires c =
    let printed : c.as_bytes-digits.result.now ≡ digits c.args.x =
    c.as_bytes-digits.ensures.value ∙ c.format.ensures.text ∙ decimal-digits c.args.x (omega arith) in
    c.try_extend_from_slice.ensures.variant.1 (omega (arith, ap length printed))

pub returns : goal.returns
returns c =
    let printed : c.as_bytes-digits.result.now ≡ digits c.args.x =
    c.as_bytes-digits.ensures.value ∙ c.format.ensures.text ∙ decimal-digits c.args.x (omega arith) in
    let extended : c.try_extend_from_slice.new.self.items ≡ c.args.text.now.items ++ c.as_bytes-digits.result.now =
    rw c.unwrap.ensures at c.try_extend_from_slice.ensures.ok in
    rw printed at extended
