use Rattle.std.proofs.Common.{◌+◌, ◌++◌, ◌∷◌, [], ◌∙◌, List, None, Some, arith, sym, ap, subst, length, take}
use Rattle.std.proofs.lemmas.List.{length_push, take_all}
use Rattle.std.proofs.lemmas.Option.{slice_get-get_or}
use Rattle.rv_net.specs.Op.{Network, OpFitsIn}
use Rattle.rv_net.specs.declared.op.Op.{Op}
use Rattle.rv_pairs.specs.inside.Cells.{Cells, present}
use Rattle.rv_pairs.proofs.inside.Rounds.{present_more, present_none, present_same, present_within}
use Rattle.rv_pairs.proofs.cancelling.network.Goals as goal
use Rattle.rv_pairs.proofs.cancelling.network.Goals.{in-Some+in_ok-push-in-Some, in-None}
use Rattle.rv_net.proofs.Networks.{same_network}

pub loop-cell-init : goal.loop-cell-init
loop-cell-init c = c.new-result.ensures ∙ same_network _ _ _ _ c.lines.ensures.value (sym present_none)

pub push-requires-clause-fits : goal.push-requires-clause-fits
push-requires-clause-fits c =
    let cells : Cells = c.args.cells.now in
    let place = c.loop-cell.cell-index in
    subst (OpFitsIn c.in-Some.op) (sym (ap (λ (n : Network). n.lines) c.loop-cell.invariant))
    (c.requires.fits place c.in-Some.op (slice_get-get_or cells place None c.loop-cell-test.true ∙ ap Some c.in-Some.is))

pub push-requires-clause-room : goal.push-requires-clause-room
push-requires-clause-room c =
    let cells : Cells = c.args.cells.now in
    let place = c.loop-cell.cell-index in
    omega (
      arith,
      ap (λ (n : Network). length n.ops) c.loop-cell.invariant,
      ap length (present_more cells place None c.in-Some.op c.loop-cell-test.true c.in-Some.is),
      length_push (present (take place cells)) c.in-Some.op,
      present_within cells (place + 1),
      c.requires.room,
      c.lines.ensures.valid.bounded,
    )

pub loop-cell-preserved : goal.loop-cell-preserved
loop-cell-preserved c =
    let cells : Cells = c.args.cells.now in
    let place = c.loop-cell.cell-index in
    let before = c.loop-cell.invariant in
    elim c.match-cell.branch [
      | in-Some+in_ok-push-in-Some w ↦
          (w.result-is ∙ w.in_ok-push-in-Some.ensures
          ∙ same_network _ _ _ _ (ap (λ (n : Network). n.lines) before)
          (ap (λ (n : Network). n.ops ++ w.in-Some.op ∷ []) before ∙ sym (present_more cells place None w.in-Some.op c.loop-cell-test.true w.in-Some.is)))
      | in-None w ↦
          (w.result-is ∙ before
          ∙ ap (λ (l : List Op). record { lines = c.args.net.now.lines; ops = l }) (sym (present_same cells place None c.loop-cell-test.true w.in-None.is)))
    ]

pub returns : goal.returns
returns c =
    c.loop-cell.invariant
    ∙ ap (λ (l : Cells). record { lines = c.args.net.now.lines; ops = present l }) (take_all c.loop-cell.cell-index c.args.cells.now c.loop-cell-test.false)
