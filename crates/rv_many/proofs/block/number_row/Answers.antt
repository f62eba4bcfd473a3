use Rattle.std.proofs.Common.{◌∙◌, ◌-◌, ◌/◌, ◌%◌, [], get_or, ap}
use Rattle.rv_gate.specs.Word.{has}
use Rattle.rv_many.specs.declared.block.TheConstants.{PLACES}
use Rattle.rv_many.proofs.inside.Places.{low_bit, high_bit}
use Rattle.rv_many.proofs.block.number_row.Goals as goal

pub returns-then-bit-lt-PLACE_BITS : goal.returns-then-bit-lt-PLACE_BITS
returns-then-bit-lt-PLACE_BITS c j lt =
    ap (λ b. has (get_or (get_or PLACES b []) (j / 64) 0) (j % 64)) c.from.ensures ∙ low_bit c.args.block c.args.bit j c.if-bit-lt-PLACE_BITS.true lt

pub returns-else-bit-lt-PLACE_BITS : goal.returns-else-bit-lt-PLACE_BITS
returns-else-bit-lt-PLACE_BITS c j lt =
    c.constant_row.ensures j lt ∙ c.has.ensures
    ∙ ap (λ s. has s (c.args.bit - 8)) c.from-else-bit-lt-PLACE_BITS.ensures
    ∙ high_bit c.args.block c.args.bit j c.if-bit-lt-PLACE_BITS.false lt
