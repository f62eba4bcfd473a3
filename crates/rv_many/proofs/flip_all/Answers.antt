use Rattle.std.proofs.Common.{◌<◌, ◌∙◌, length, refl, sym, ap}
use Rattle.rv_gate.specs.declared.gate.Shape.TheVariants.{Flip}
use Rattle.rv_gate.specs.Gate.{xor}
use Rattle.rv_many.specs.Column.{row_bit}
use Rattle.rv_gate.proofs.inside.GateLemmas.{fits_flip}
use Rattle.rv_many.proofs.Columns.{bit_of-column, care_of_flip, flip_rows}
use Rattle.rv_many.proofs.flip_all.Goals as goal

pub held-on-requires : goal.held-on-requires
held-on-requires c = care_of_flip c.args.care c.args.want c.args.target _ c.requires

pub slice_copy_out-xor : goal.slice_copy_out-xor
slice_copy_out-xor c = rw c.from-target.ensures (fits_flip (Flip c.args.care c.args.want c.args.target) _ _ _ _ refl c.requires)

pub bounds-rows-target : goal.bounds-rows-target
bounds-rows-target c = rw c.from-target.ensures (fits_flip (Flip c.args.care c.args.want c.args.target) _ _ _ _ refl c.requires)

pub returns-clause-words : goal.returns-clause-words
returns-clause-words c j lt =
    let at : c.args.target < length c.args.rows.now = fits_flip (Flip c.args.care c.args.want c.args.target) _ _ _ _ refl c.requires in
    rw c.from-target.ensures
    (flip_rows c.args.rows.now c.args.care c.args.want c.args.target c.held-on.result c.xor.result j (c.held-on.ensures j lt)
    (c.xor.ensures j lt ∙ rw c.from-target.ensures (ap (λ b. xor b (row_bit c.held-on.result j)) (sym (bit_of-column c.args.rows.now c.args.target j _ at)))))
