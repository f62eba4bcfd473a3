use Rattle.std.proofs.Common.{arith}
use Rattle.std.proofs.lemmas.Bool.{le-ltb}
use Rattle.std.proofs.lemmas.Nat.Bits.{bit_at_above}
use Rattle.rv_faults.proofs.message.has_bit.Goals as goal

pub returns-else-place-lt-MOST_LINES : goal.returns-else-place-lt-MOST_LINES
returns-else-place-lt-MOST_LINES c = rw (bit_at_above c.args.number 64 c.args.place (omega arith) (omega (arith, c.if-place-lt-MOST_LINES.false))) (le-ltb c.args.place 64 c.if-place-lt-MOST_LINES.false)
