use Rattle.std.proofs.Common.{◌≡◌, ◌<◌, ◌≤◌, ℕ, [], refl, subst, sym}
use Rattle.rv_gate.specs.declared.circuit.TheConstants.{MOST_GATES}
use Rattle.rv_cube.specs.Esop.{Esop}
use Rattle.rv_esop.specs.Cascade.{cascade_of, flip_count}
use Rattle.rv_esop.specs.Shared.{cost_of}
use Rattle.rv_esop.specs.declared.circuit.EsopFault.TheVariants as fault
use Rattle.rv_cmd.specs.Commands.Esop.{cascade_report}
use Rattle.rv_cmd.specs.inside.Products.{IsRefusalOf}
use Rattle.rv_cmd.proofs.Laws.Esop.{found-cascade, found-plain}
use Rattle.rv_cmd.proofs.inside.Limits.{few-by}
use Rattle.rv_cmd.proofs.commands.esop.Found.circuit.Goals as goal

pub returns-in-Err-TooManyGates-clause-unmade : goal.returns-in-Err-TooManyGates-clause-unmade
returns-in-Err-TooManyGates-clause-unmade c =
    let e = c.in-Err-TooManyGates in
    let why = (e.ensures.too_many e.count).0 (rw e.field-0-is refl) in
    let Many : ℕ → Type 0 = λ n. (flip_count c.in-Ok.list ≡ n) × (MOST_GATES < n) in
    let P : Esop → Type 0 = λ l. IsRefusalOf 1 (cascade_report l).limits c.too_many_gates.result in
    subst P c.in-Ok.ensures.list (c.too_many_gates.ensures (flip_count c.in-Ok.list) [] [] tt (subst Many (sym e.count-is) why))

pub returns-then-is_no_dearer-clause-made : goal.returns-then-is_no_dearer-clause-made
returns-then-is_no_dearer-clause-made c =
    let goal = c.args.self.now.goal in
    let circuit = c.in-Ok-shared_cascade.circuit in
    let few = few-by fault.TooManyGates (flip_count c.in-Ok.list) MOST_GATES c.in-Ok-cascade.circuit c.in-Ok-cascade.ensures.too_many in
    let Few : Esop → Type 0 = λ e. flip_count e ≤ MOST_GATES in
    let Cheap : Esop → Type 0 = λ e. cost_of goal circuit.gates ≤ cost_of goal (cascade_of e).gates in
    let shared = c.in-Ok-shared_cascade.ensures in
    found-cascade goal c.args.pla.now c.in-Ok-list.list circuit (subst Few c.in-Ok.ensures.list few) c.in-Ok-list.ensures.found
    shared.lines shared.adds.adds shared.no_dearer (subst Cheap c.in-Ok.ensures.list (c.is_no_dearer.ensures.no_dearer c.if-is_no_dearer.true)) shared.flips
    c.recall_invariant-then-is_no_dearer.ensures

pub returns-in-Ok-shared_cascade-clause-made : goal.returns-in-Ok-shared_cascade-clause-made
returns-in-Ok-shared_cascade-clause-made c =
    let few = few-by fault.TooManyGates (flip_count c.in-Ok.list) MOST_GATES c.in-Ok-cascade.circuit c.in-Ok-cascade.ensures.too_many in
    let plain = c.in-Ok-cascade.ensures in
    found-plain c.args.self.now.goal c.args.pla.now c.in-Ok.list c.in-Ok-cascade.circuit c.in-Ok.ensures.list c.in-Ok.ensures.value c.recall_invariant.ensures.bounded few plain.circuit plain.adds
    c.recall_invariant-else-is_no_dearer.ensures

pub returns-in-Err-TooManyGates-shared_cascade-clause-made : goal.returns-in-Err-TooManyGates-shared_cascade-clause-made
returns-in-Err-TooManyGates-shared_cascade-clause-made c =
    let few = few-by fault.TooManyGates (flip_count c.in-Ok.list) MOST_GATES c.in-Ok-cascade.circuit c.in-Ok-cascade.ensures.too_many in
    let plain = c.in-Ok-cascade.ensures in
    found-plain c.args.self.now.goal c.args.pla.now c.in-Ok.list c.in-Ok-cascade.circuit c.in-Ok.ensures.list c.in-Ok.ensures.value c.recall_invariant.ensures.bounded few plain.circuit plain.adds
    c.recall_invariant-in-Err-TooManyGates-shared_cascade.ensures
