use Rattle.rv_gate.proofs.Bits.{bool_byte-flag}
use Rattle.std.proofs.Common.{◌≡◌, ◌∙◌, ap, arith, length}
use Rattle.rv_fold.specs.inside.Slots.{slot_of}
use Rattle.rv_fold.proofs.inside.Slots.{slot_below, slot_above}
use Rattle.rv_fold.proofs.firsts.Firsts.slot_of.Goals as goal

pub returns-then-double-count-clause-value : goal.returns-then-double-count-clause-value
returns-then-double-count-clause-value c =
    let count : c.len-count.result ≡ length c.args.self.now.slots.items = omega (arith, c.len-count.ensures) in
    slot_below c.len-count.result c.args.parity c.remainder.result c.from.result c.remainder.ensures (c.from.ensures ∙ bool_byte-flag c.args.parity.flipped) c.if-double-count.true
    ∙ ap (λ n. slot_of n c.args.parity) count

pub returns-else-double-count-clause-value : goal.returns-else-double-count-clause-value
returns-else-double-count-clause-value c =
    let count : c.len-count.result ≡ length c.args.self.now.slots.items = omega (arith, c.len-count.ensures) in
    slot_above c.len-count.result c.args.parity c.remainder.result c.from.result (omega (arith, c.args.self.now.some, c.len-count.ensures)) c.remainder.ensures (c.from.ensures ∙ bool_byte-flag c.args.parity.flipped) c.if-double-count.false
    ∙ ap (λ n. slot_of n c.args.parity) count
