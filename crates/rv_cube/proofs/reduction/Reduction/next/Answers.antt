use Rattle.std.proofs.Common.{ℕ, subst}
use Rattle.std.specs.Prelude.{IfOk, MatchOption}
use Rattle.rv_cube.specs.inside.Slots.{ExorlinksNone, IsFirstExorlink}
use Rattle.rv_cube.specs.inside.Slotted.{Slotted}
use Rattle.rv_cube.proofs.inside.SlotSteps.{exorlink_next}
use Rattle.rv_cube.proofs.reduction.Reduction.next.Goals as goal

pub returns-in-None-clause-found : goal.returns-in-None-clause-found
returns-in-None-clause-found c =
    let s = c.args.self.now in
    let e = c.next_merge.ensures in
    let P : Slotted → Type 0 = λ v. IfOk c.next_exorlink.result (λ o. MatchOption o ((a : ℕ) → ExorlinksNone v.inputs v.cubes a)
    (λ step. (a : ℕ) × (b : ℕ) × IsFirstExorlink v.inputs v.cubes a b step)) in
    exorlink_next s.inputs s.cubes c.next_exorlink.result e.valid e.keyed c.in-None.ensures.found (subst P e.same c.next_exorlink.ensures.found)
