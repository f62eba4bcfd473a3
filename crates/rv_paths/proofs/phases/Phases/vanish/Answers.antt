use Rattle.std.proofs.Common.{◌≡◌, ◌+◌, ◌%◌, ◌≤◌, ap, arith, Bool, List, length}
use Rattle.std.specs.Prelude.{IsTrue}
use Rattle.rv_paths.specs.declared.terms.Term.{Term}
use Rattle.rv_paths.specs.inside.Parity.{value_from}
use Rattle.rv_paths.specs.inside.Phases.{power}
use Rattle.rv_paths.proofs.inside.Turning.{if_ok}
use Rattle.rv_paths.proofs.phases.Phases.vanish.Goals as goal

pub returns : goal.returns
returns c =
    let terms : List Term = c.deref.result.now in
    let P : Bool → Type 0 = λ found. IsTrue found → (u : List Bool) → 1 + length u ≤ c.args.variables → value_from 1 terms u % 8 ≡ 0 in
    let Q : Bool → Type 0 = λ found. IsTrue found → (u : List Bool) → 1 + length u ≤ c.args.variables → power c.args.self.now u % 8 ≡ 0 in
    if_ok c.vanish.result P Q
    (λ found h holds u e.
    let sum = h holds u e in
    let same = ap (λ (l : List Term). value_from 1 l u) c.deref.ensures.value in
    omega (arith, sum, same, c.if-self-ne0.false))
    c.vanish.ensures
