use Rattle.std.proofs.Common.{◌<◌, length, refl, sym}
use Rattle.rv_gate.specs.declared.gate.Shape.TheVariants.{Peres}
use Rattle.rv_gate.proofs.inside.GateLemmas.{fits_peres_a, fits_peres_b, fits_peres_c}
use Rattle.rv_many.proofs.Columns.{bit_of-column, peres_rows, still}
use Rattle.rv_many.proofs.peres_all.Goals as goal

pub slice_copy_out-x : goal.slice_copy_out-x
slice_copy_out-x c = rw c.from-a.ensures (fits_peres_a (Peres c.args.a c.args.b c.args.c) _ _ _ _ refl c.requires)

pub slice_copy_out-y : goal.slice_copy_out-y
slice_copy_out-y c = rw c.from-b.ensures (fits_peres_b (Peres c.args.a c.args.b c.args.c) _ _ _ _ refl c.requires)

pub slice_copy_out-z : goal.slice_copy_out-z
slice_copy_out-z c = rw c.from-c.ensures (fits_peres_c (Peres c.args.a c.args.b c.args.c) _ _ _ _ refl c.requires)

pub bounds-rows-b : goal.bounds-rows-b
bounds-rows-b c = rw c.from-b.ensures (fits_peres_b (Peres c.args.a c.args.b c.args.c) _ _ _ _ refl c.requires)

pub bounds-rows-c : goal.bounds-rows-c
bounds-rows-c c =
    let lc : c.args.c < length c.args.rows.now = fits_peres_c (Peres c.args.a c.args.b c.args.c) _ _ _ _ refl c.requires in
    rw c.from-c.ensures (still c.args.rows.now _ _ c.args.c lc)

pub returns-clause-words : goal.returns-clause-words
returns-clause-words c j lt =
    let rows = c.args.rows.now in
    let g = Peres c.args.a c.args.b c.args.c in
    let la : c.args.a < length c.args.rows.now = fits_peres_a g _ _ _ _ refl c.requires in
    let lb : c.args.b < length c.args.rows.now = fits_peres_b g _ _ _ _ refl c.requires in
    let lc : c.args.c < length c.args.rows.now = fits_peres_c g _ _ _ _ refl c.requires in
    rw (c.from-b.ensures, c.from-c.ensures)
    (peres_rows rows c.args.a c.args.b c.args.c _ _ _ c.and.result c.xor.result c.xor-2.result j
    (rw (sym c.from-a.ensures) (bit_of-column rows c.from-a.result j _ (rw c.from-a.ensures la)))
    (rw (sym c.from-b.ensures) (bit_of-column rows c.from-b.result j _ (rw c.from-b.ensures lb)))
    (rw (sym c.from-c.ensures) (bit_of-column rows c.from-c.result j _ (rw c.from-c.ensures lc)))
    (c.xor.ensures j lt) (c.and.ensures j lt) (c.xor-2.ensures j lt))
