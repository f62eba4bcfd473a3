use Rattle.std.proofs.Common.{◌≡◌, ◌∙◌, ◌+◌, ◌*◌, ap, arith, cond, nat_eq}
use Rattle.rv_blif.specs.Row.{is_bit}
use Rattle.rv_blif.proofs.RowLaws.{from_all, from_more, product_is}
use Rattle.rv_blif.proofs.row.product_of.Goals as goal

pub loop-i-init : goal.loop-i-init
loop-i-init c =
    let part = c.args.part.now in
    record { at = omega arith; care = from_all is_bit part; want = from_all (λ c. nat_eq c 49) part }

pub loop-i-preserved : goal.loop-i-preserved
loop-i-preserved c =
    let part = c.args.part.now in
    let i = c.loop-i.i in
    let so_far = c.loop-i.invariant in
    record {
      at = omega arith;
      care = from_more is_bit part i c.loop-i.care _ c.loop-i-test.true so_far.at so_far.care
          (c.with_place-care.ensures ∙ ap (λ b. cond b 1 0 + 2 * c.loop-i.care) c.is_bit.ensures);
      want = from_more (λ c. nat_eq c 49) part i c.loop-i.want _ c.loop-i-test.true so_far.at so_far.want c.with_place-want.ensures;
    }

pub returns-clause-valid : goal.returns-clause-valid
returns-clause-valid c =
    let zero : c.loop-i.i ≡ 0 = omega arith in
    let care = rw zero at c.loop-i.invariant.care.are in
    let want = rw zero at c.loop-i.invariant.want.are in
    rw (care, want) (product_is c.args.part.now)
