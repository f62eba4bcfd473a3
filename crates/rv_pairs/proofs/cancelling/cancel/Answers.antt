use Rattle.std.proofs.Common.{◌≡◌, ◌<◌, ◌++◌, ◌∷◌, [], ◌∙◌, ℕ, List, arith, sym, ap, subst, length, get_or, take}
use Rattle.std.specs.Prelude.{slice_get}
use Rattle.std.proofs.lemmas.List.{length-take, take_all, take_more}
use Rattle.std.proofs.lemmas.List.Elements.{All-get_or}
use Rattle.rv_net.specs.Op.{Network, OpFitsIn}
use Rattle.rv_net.specs.declared.op.Op.{Op}
use Rattle.rv_net.specs.declared.op.Op.TheVariants.{X}
use Rattle.rv_pairs.specs.inside.Cells.{Cells, StandsAt, present}
use Rattle.rv_pairs.proofs.inside.Rounds.{Goes, cancelling_of, goes_next, goes_start, short_next, table}
use Rattle.rv_pairs.proofs.cancelling.cancel.Goals as goal

pub loop-op-init : goal.loop-op-init
loop-op-init c = record {
  stands = c.in_ok-walk.ensures.stands;
  short = omega (arith, ap length c.in_ok-walk.ensures.empty);
  goes = subst (Goes c.args.net.now.lines []) (sym c.in_ok-walk.ensures.empty) (goes_start c.args.net.now.lines);
}

pub loop-op-preserved : goal.loop-op-preserved
loop-op-preserved c =
    let net = c.args.net.now in
    let place = c.loop-op.op-index in
    let cells : Cells = c.loop-op.walk.cells.items in
    let op = get_or c.ops-op-items.result.now place (X 0) in
    let within : place < length net.ops = omega (arith, c.loop-op-test.true, ap length c.ops-op-items.ensures) in
    let same : op ≡ get_or net.ops place (X 0) = ap (λ (l : List Op). get_or l place (X 0)) c.ops-op-items.ensures in
    let fits : OpFitsIn op net.lines =
    subst (λ (o : Op). OpFitsIn o net.lines) (sym same) (All-get_or (λ o. OpFitsIn o net.lines) net.ops place (X 0) within c.lines-lines.ensures.valid.fitting) in
    let fitting : (i : ℕ) (p : Op) → StandsAt cells i p → OpFitsIn p net.lines =
    λ i p at. subst (OpFitsIn p) c.lines-lines.ensures.value (c.loop-op.invariant.stands.fitting i p at) in
    record {
      stands = c.in_ok-step.ensures.stands;
      short = omega (arith, c.loop-op.invariant.short, short_next cells c.step.new.self.cells.items op c.in_ok-step.ensures.next);
      goes =
          subst (λ (l : List Op). Goes net.lines l c.step.new.self.cells.items)
          (sym (take_more net.ops place (X 0) within ∙ ap (λ (o : Op). take place net.ops ++ o ∷ []) (sym same)))
          (goes_next net.lines (take place net.ops) cells c.step.new.self.cells.items op c.loop-op.invariant.goes fitting fits c.in_ok-step.ensures.next);
    }

pub network-requires-clause-fits : goal.network-requires-clause-fits
network-requires-clause-fits c = λ i p at.
    subst (OpFitsIn p) c.lines-lines.ensures.value
    (c.loop-op.invariant.stands.fitting i p (sym (ap (λ (l : Cells). slice_get l i) (c.deref.ensures.value ∙ ap (λ v. v.items) c.into_cells-cells.ensures)) ∙ at))

pub network-requires-clause-room : goal.network-requires-clause-room
network-requires-clause-room c =
    let net = c.args.net.now in
    omega (
      arith,
      ap (λ (l : Cells). length (present l)) (c.deref.ensures.value ∙ ap (λ v. v.items) c.into_cells-cells.ensures),
      c.loop-op.invariant.goes.operations,
      length-take c.loop-op.op-index net.ops,
    )

pub returns-clause-table : goal.returns-clause-table
returns-clause-table c = table c.args.net.now.lines

pub returns-clause-cancelled : goal.returns-clause-cancelled
returns-clause-cancelled c =
    let net = c.args.net.now in
    let result = c.in_ok-result.result in
    let cells : Cells = c.loop-op.walk.cells.items in
    let all : take c.loop-op.op-index net.ops ≡ net.ops = take_all c.loop-op.op-index net.ops (omega (arith, c.loop-op-test.false, ap length c.ops-op-items.ensures)) in
    let goes : Goes net.lines net.ops cells = subst (λ (l : List Op). Goes net.lines l cells) all c.loop-op.invariant.goes in
    let fitting : (i : ℕ) (p : Op) → StandsAt cells i p → OpFitsIn p net.lines =
    λ i p at. subst (OpFitsIn p) c.lines-lines.ensures.value (c.loop-op.invariant.stands.fitting i p at) in
    let ops : result.ops ≡ present cells = ap (λ (n : Network). n.ops) c.in_ok-result.ensures ∙ ap present (c.deref.ensures.value ∙ ap (λ v. v.items) c.into_cells-cells.ensures) in
    cancelling_of net result cells c.lines-lines.ensures.valid (ap (λ (n : Network). n.lines) c.in_ok-result.ensures) ops goes fitting
