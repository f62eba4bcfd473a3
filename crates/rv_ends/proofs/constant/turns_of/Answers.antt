use Rattle.std.proofs.Common.{arith, cond, ◌-◌, Bool, refl, ap}
use Rattle.rv_terms.proofs.Products.{value-always}
use Rattle.rv_ends.proofs.constant.turns_of.Goals as goal

pub returns-then-is_nothing : goal.returns-then-is_nothing
returns-then-is_nothing c = (
  omega arith,
  λ x v.
      let add = c.in_ok-add.ensures x v in
      let one = ap (λ (b : Bool). cond b (8 - c.loop-turns.turns) 0) (value-always x v) in
      let none = c.if-is_nothing.ensures refl x v in
      let same = c.in_ok-rest.ensures x v in
      omega (arith, add, one, none, same),
)
