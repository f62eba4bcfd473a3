use Rattle.std.proofs.Common.{arith, refl, sym, ◌∙◌, true, false}
use Rattle.rv_exorlink.proofs.inside.Tables.{lower_full, upper_full}
use Rattle.rv_exorlink.proofs.inside.FreeCubes.{outs_at, by_want, by_both}
use Rattle.rv_exorlink.proofs.free.+outs_from.Goals as goal

pub returns-then-from-inputs : goal.returns-then-from-inputs
returns-then-from-inputs t c =
    outs_at c.args.inputs c.args.from c.args.table.now c.args.cube c.args.outs c.if-from-inputs.true

pub outs_from-some-requires : goal.outs_from-some-requires
outs_from-some-requires t c = (
  omega arith,
  (
    omega arith,
    (omega arith, lower_full c.args.inputs c.args.from c.args.table.now (omega arith) c.requires.full),
  ),
)

pub outs_from-requires : goal.outs_from-requires
outs_from-requires t c = (
  omega arith,
  (
    omega arith,
    (omega arith, upper_full c.args.inputs c.args.from c.args.table.now (omega arith) c.requires.full),
  ),
)

pub returns-then-not-has : goal.returns-then-not-has
returns-then-not-has t c =
    by_both c.args.inputs c.args.from c.args.table.now c.args.cube c.args.outs c.outs_from-some.result
    c.outs_from.result (omega arith) c.requires.full
    c.outs_from-some.ensures c.outs_from.ensures

pub outs_from-requires-then-has : goal.outs_from-requires-then-has
outs_from-requires-then-has t c = (
  omega arith,
  (
    omega arith,
    (omega arith, upper_full c.args.inputs c.args.from c.args.table.now (omega arith) c.requires.full),
  ),
)

pub returns-then-has : goal.returns-then-has
returns-then-has t c =
    by_want c.args.inputs c.args.from c.args.table.now _ c.args.cube c.args.outs c.outs_from-then-has.result true
    (omega arith) c.requires.full
    (sym c.has.ensures ∙ c.if-not-has.false) (sym c.has-2.ensures ∙ c.if-has.true) refl c.outs_from-then-has.ensures

pub outs_from-requires-2 : goal.outs_from-requires-2
outs_from-requires-2 t c = (
  omega arith,
  (
    omega arith,
    (omega arith, lower_full c.args.inputs c.args.from c.args.table.now (omega arith) c.requires.full),
  ),
)

pub returns : goal.returns
returns t c =
    by_want c.args.inputs c.args.from c.args.table.now _ c.args.cube c.args.outs c.outs_from-2.result false
    (omega arith) c.requires.full
    (sym c.has.ensures ∙ c.if-not-has.false) (sym c.has-2.ensures ∙ c.if-has.false) refl c.outs_from-2.ensures
