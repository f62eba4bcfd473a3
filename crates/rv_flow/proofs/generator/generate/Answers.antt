use Rattle.std.proofs.Common.{ℕ, List, sym, ◌∙◌, subst, arith}
use Rattle.std.proofs.Math.Nat.{one-le-pow}
use Rattle.rv_perm.specs.Perm.{IsPerm}
use Rattle.rv_flow.proofs.Generated.{generated-perm}
use Rattle.rv_flow.proofs.generator.generate.Goals as goal

pub from_images-requires : goal.from_images-requires
from_images-requires c =
    let P : List ℕ → Type 0 = IsPerm c.args.lines in
    subst P (sym (c.deref.ensures.value ∙ c.in_ok-images.ensures))
    (generated-perm c.args.lines c.args.seed c.requires.some (omega (arith, c.requires.few)) (one-le-pow c.args.lines 2 (omega arith)))
