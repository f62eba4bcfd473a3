use Rattle.std.proofs.Common.{◌+◌, length, refl, sym, ap, ◌∙◌, arith}
use Rattle.std.proofs.lemmas.Result.{on_ok_weaker}
use Rattle.rv_pla.specs.Cube.{One, Zero}
use Rattle.rv_exorlink.proofs.inside.Tables.{parts_of, lower_full, upper_full, still_free, literal_free, fills_with, halves_filled, lower_filled, upper_filled}
use Rattle.rv_exorlink.proofs.table.+fill.Goals as goal

pub sums_of-requires : goal.sums_of-requires
sums_of-requires t c =
    lower_full c.args.inputs c.args.from c.args.values.now (omega arith) c.requires.full
    ∙ sym (upper_full c.args.inputs c.args.from c.args.values.now (omega arith) c.requires.full)

pub fill-requires : goal.fill-requires
fill-requires t c = (
  omega arith,
  (
    omega arith,
    (
      omega arith,
      (
        lower_full c.args.inputs c.args.from c.args.values.now (omega arith) c.requires.full,
        literal_free c.args.prefix c.with_zero-zero.result c.args.from Zero c.with_zero-zero.ensures c.requires.free,
      ),
    ),
  ),
)

pub fill-requires-in-Halves : goal.fill-requires-in-Halves
fill-requires-in-Halves t c = (
  omega arith,
  (
    omega arith,
    (
      omega arith,
      (
        upper_full c.args.inputs c.args.from c.args.values.now (omega arith) c.requires.full,
        literal_free c.args.prefix c.with_one-one.result c.args.from One c.with_one-one.ensures c.requires.free,
      ),
    ),
  ),
)

pub fill-requires-in-Lower : goal.fill-requires-in-Lower
fill-requires-in-Lower t c = (
  omega arith,
  (
    omega arith,
    (
      omega arith,
      (
        lower_full c.args.inputs c.args.from c.args.values.now (omega arith) c.requires.full,
        still_free c.args.prefix c.args.from c.requires.free,
      ),
    ),
  ),
)

pub returns-in-Halves : goal.returns-in-Halves
returns-in-Halves t c =
    let n = c.args.inputs in
    let from = c.args.from in
    let prefix = c.args.prefix in
    let values = c.args.values.now in
    let old = c.args.cubes.now.items in
    let mid = c.fill.new.cubes.items in
    let new = c.fill-in-Halves.new.cubes.items in
    on_ok_weaker c.fill-in-Halves.result
    (λ f. halves_filled n from prefix values _ _ c.in_ok-both.both.items old mid new
    (parts_of n from prefix values c.in_ok-both.both.items c.in_ok-both.both.items (omega arith) c.requires.full
    c.requires.free c.in_ok-both.ensures refl)
    (fills_with n c.with_zero-zero.result _ (from + 1) _ old mid c.with_zero-zero.ensures
    c.in_ok-fill-in-Halves.ensures)
    (fills_with n c.with_one-one.result _ (from + 1) _ mid new c.with_one-one.ensures f))
    c.fill-in-Halves.ensures

pub returns-in-Lower : goal.returns-in-Lower
returns-in-Lower t c =
    let n = c.args.inputs in
    let from = c.args.from in
    let prefix = c.args.prefix in
    let values = c.args.values.now in
    let old = c.args.cubes.now.items in
    let mid = c.fill-in-Lower.new.cubes.items in
    let new = c.fill-in-Lower-2.new.cubes.items in
    on_ok_weaker c.fill-in-Lower-2.result
    (λ f. lower_filled n from prefix values _ _ c.deref-in-Lower.result.now old mid new
    (parts_of n from prefix values c.in_ok-both.both.items c.deref-in-Lower.result.now (omega arith) c.requires.full
    c.requires.free c.in_ok-both.ensures c.deref-in-Lower.ensures.value)
    c.in_ok-fill-in-Lower.ensures
    (fills_with n c.with_one-one.result _ (from + 1) _ mid new c.with_one-one.ensures f))
    c.fill-in-Lower-2.ensures

pub fill-requires-in-Lower-2 : goal.fill-requires-in-Lower-2
fill-requires-in-Lower-2 t c =
    let m = c.in_ok-both.ensures.as_many in
    let u = upper_full c.args.inputs c.args.from c.args.values.now (omega arith) c.requires.full in
    let d = ap length c.deref-in-Lower.ensures.value in (
      omega arith,
      (
        omega arith,
        (
          omega arith,
          (
            d ∙ m ∙ u,
            literal_free c.args.prefix c.with_one-one.result c.args.from One c.with_one-one.ensures c.requires.free,
          ),
        ),
      ),
    )

pub fill-requires-in-Upper : goal.fill-requires-in-Upper
fill-requires-in-Upper t c = (
  omega arith,
  (
    omega arith,
    (
      omega arith,
      (
        upper_full c.args.inputs c.args.from c.args.values.now (omega arith) c.requires.full,
        still_free c.args.prefix c.args.from c.requires.free,
      ),
    ),
  ),
)

pub fill-requires-in-Upper-2 : goal.fill-requires-in-Upper-2
fill-requires-in-Upper-2 t c =
    let m = c.in_ok-both.ensures.as_many in
    let u = upper_full c.args.inputs c.args.from c.args.values.now (omega arith) c.requires.full in
    let d = ap length c.deref-in-Upper.ensures.value in (
      omega arith,
      (
        omega arith,
        (
          omega arith,
          (
            d ∙ m ∙ u,
            literal_free c.args.prefix c.with_zero-zero.result c.args.from Zero c.with_zero-zero.ensures
                c.requires.free,
          ),
        ),
      ),
    )

pub returns : goal.returns
returns t c =
    let n = c.args.inputs in
    let from = c.args.from in
    let prefix = c.args.prefix in
    let values = c.args.values.now in
    let old = c.args.cubes.now.items in
    let mid = c.fill-in-Upper.new.cubes.items in
    let new = c.fill-in-Upper-2.new.cubes.items in
    on_ok_weaker c.fill-in-Upper-2.result
    (λ f. upper_filled n from prefix values _ _ c.deref-in-Upper.result.now old mid new
    (parts_of n from prefix values c.in_ok-both.both.items c.deref-in-Upper.result.now (omega arith) c.requires.full
    c.requires.free c.in_ok-both.ensures c.deref-in-Upper.ensures.value)
    c.in_ok-fill-in-Upper.ensures
    (fills_with n c.with_zero-zero.result _ (from + 1) _ mid new c.with_zero-zero.ensures f))
    c.fill-in-Upper-2.ensures
