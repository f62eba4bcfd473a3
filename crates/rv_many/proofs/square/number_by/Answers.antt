use Rattle.rv_many.proofs.inside.Squares.{le_bits}
use Rattle.rv_many.proofs.square.number_by.Goals as goal

pub returns : goal.returns
returns c j lt = le_bits c.args.bytes.now c.from_le_bytes.result j c.requires c.fits-bytes c.from_le_bytes.ensures lt
