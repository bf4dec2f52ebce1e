use mathlib.Core.Path.{◌∙◌}
use native.Mathlib.Omega.{arith}
use Rattle.bids.specs.Bytes.{byte_at, number_at}
use Rattle.bids.proofs.Records.{field_at, mark-read}
use Rattle.bids.proofs.read_header.Goals as goal

pub returns : goal.returns
returns c =
    let p5 = field_at (byte_at c.args.file.now) c.number-version.ensures.next c.byte-schools.ensures in
    let p6 = field_at (byte_at c.args.file.now) p5.next c.byte-slots.ensures in
    let p7 = field_at (λ i. number_at c.args.file.now i 2) p6.next c.number-packages.ensures in
    record {
      marked = c.starts_with-marked.ensures.value ∙ mark-read c.args.file.now (omega arith);
      version = c.number-version.ensures.value;
      schools = p5.value;
      slots = p6.value;
      packages = p7.value;
      small = (p5.small, (p6.small, p7.small));
    }
