use Rattle.std.proofs.Common.{◌≤◌, ◌^◌, ◌<◌, ℕ, sym, subst, arith}
use Rattle.std.proofs.Math.Pow.{pow_mono}
use Rattle.rv_compare.proofs.inside.Images.{small_number}
use Rattle.rv_compare.proofs.perm.image.Goals as goal

pub get-image-requires : goal.get-image-requires
get-image-requires c =
    let P : ℕ → Type 0 = λ number. number < 2 ^ c.args.perm.now.lines in
    subst P (sym c.number.ensures) (small_number c.args.word c.args.perm.now.lines c.requires)

pub overflow_cast-number : goal.overflow_cast-number
overflow_cast-number c =
    let small : c.number.result < 2 ^ c.args.perm.now.lines =
    let P : ℕ → Type 0 = λ number. number < 2 ^ c.args.perm.now.lines in
    subst P (sym c.number.ensures) (small_number c.args.word c.args.perm.now.lines c.requires) in
    let most : 2 ^ c.args.perm.now.lines ≤ 2 ^ 16 = pow_mono c.lines-lines.ensures.valid.1 in
    omega (arith, small, most)
