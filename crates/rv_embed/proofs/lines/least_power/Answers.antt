use Rattle.std.proofs.Common.{sym, arith}
use Rattle.std.proofs.lemmas.Nat.{one_shl}
use Rattle.rv_embed.proofs.LineLemmas.{least_power-is}
use Rattle.rv_embed.proofs.lines.least_power.Goals as goal

pub returns-clause-value : goal.returns-clause-value
returns-clause-value c =
    let power = one_shl c.loop-bits.bits 32 (omega arith) in
    sym (least_power-is c.args.words c.loop-bits.bits (omega arith) c.loop-bits.invariant.none)
