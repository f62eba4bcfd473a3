use Rattle.std.proofs.Common.{◌<◌, length, refl, sym}
use Rattle.rv_gate.specs.declared.gate.Shape.TheVariants.{Swap}
use Rattle.rv_gate.proofs.inside.GateLemmas.{fits_swap_a, fits_swap_b}
use Rattle.rv_many.proofs.Columns.{bit_of-column, care_of_swap, swap_rows, still}
use Rattle.rv_many.proofs.swap_all.Goals as goal

pub held-on-requires : goal.held-on-requires
held-on-requires c = care_of_swap c.args.care c.args.want c.args.a c.args.b _ c.requires

pub slice_copy_out-x : goal.slice_copy_out-x
slice_copy_out-x c = rw c.from-a.ensures (fits_swap_a (Swap c.args.care c.args.want c.args.a c.args.b) _ _ _ _ _ refl c.requires)

pub slice_copy_out-y : goal.slice_copy_out-y
slice_copy_out-y c = rw c.from-b.ensures (fits_swap_b (Swap c.args.care c.args.want c.args.a c.args.b) _ _ _ _ _ refl c.requires)

pub bounds-rows-a : goal.bounds-rows-a
bounds-rows-a c = rw c.from-a.ensures (fits_swap_a (Swap c.args.care c.args.want c.args.a c.args.b) _ _ _ _ _ refl c.requires)

pub bounds-rows-b : goal.bounds-rows-b
bounds-rows-b c =
    let lb : c.args.b < length c.args.rows.now = fits_swap_b (Swap c.args.care c.args.want c.args.a c.args.b) _ _ _ _ _ refl c.requires in
    rw c.from-b.ensures (still c.args.rows.now _ _ c.args.b lb)

pub returns-clause-words : goal.returns-clause-words
returns-clause-words c j lt =
    let rows = c.args.rows.now in
    let la : c.args.a < length c.args.rows.now = fits_swap_a (Swap c.args.care c.args.want c.args.a c.args.b) _ _ _ _ _ refl c.requires in
    let lb : c.args.b < length c.args.rows.now = fits_swap_b (Swap c.args.care c.args.want c.args.a c.args.b) _ _ _ _ _ refl c.requires in
    rw (c.from-a.ensures, c.from-b.ensures)
    (swap_rows rows c.args.care c.args.want c.args.a c.args.b _ _ c.xor.result c.and-differ.result c.held-on.result c.xor-2.result c.xor-3.result j
    (rw (sym c.from-a.ensures) (bit_of-column rows c.from-a.result j _ (rw c.from-a.ensures la)))
    (rw (sym c.from-b.ensures) (bit_of-column rows c.from-b.result j _ (rw c.from-b.ensures lb)))
    (c.held-on.ensures j lt) (c.xor.ensures j lt) (c.and-differ.ensures j lt) (c.xor-2.ensures j lt) (c.xor-3.ensures j lt))
