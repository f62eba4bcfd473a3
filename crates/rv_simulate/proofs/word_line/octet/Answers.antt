use Rattle.std.proofs.Common.{arith}
use Rattle.rv_simulate.proofs.inside.Octets.{octet_of}
use Rattle.rv_simulate.proofs.word_line.octet.Goals as goal

pub returns : goal.returns
returns c =
    let front = c.in_ok-first_chunk.ensures.cases in
    octet_of c.args.bytes.now _ _ front.enough front.same (λ i. omega (arith, c.type_inv.bytes i)) c.from_be_bytes-digits.ensures c.if-digits-ne3472328296227680304.false
