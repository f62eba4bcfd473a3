use Rattle.std.proofs.Common.{◌≡◌, ◌∙◌, ◌<◌, ◌++◌, ◌∷◌, [], arith, sym, ap, subst, length, get_or, take}
use Rattle.std.specs.Prelude.{All}
use Rattle.std.proofs.lemmas.List.{take_more, take_all}
use Rattle.std.proofs.lemmas.List.Elements.{All-get_or}
use Rattle.rv_net.specs.Op.{OpFitsIn}
use Rattle.rv_net.specs.declared.op.Op.TheVariants.{X}
use Rattle.rv_turns.specs.Joined.{IsJoiningOf}
use Rattle.rv_turns.specs.inside.Pauli.{kept}
use Rattle.rv_turns.proofs.inside.Laws.{joining_of}
use Rattle.rv_turns.proofs.inside.Standing.{Stands, kept-fits, stands_more}
use Rattle.rv_turns.proofs.joining.join_round.Goals as goal
use Rattle.rv_net.proofs.Networks.{same_network}

pub loop-op-preserved : goal.loop-op-preserved
loop-op-preserved c =
    let net = c.args.net.now in
    let i = c.loop-op.op-index in
    let op = get_or c.ops-op-items.result.now i (X 0) in
    let within : i < length net.ops = omega (arith, c.loop-op-test.true, ap length c.ops-op-items.ensures) in
    let is : op ≡ get_or net.ops i (X 0) = ap (λ l. get_or l i (X 0)) c.ops-op-items.ensures in
    let fits : OpFitsIn op net.lines = subst (λ o. OpFitsIn o net.lines) (sym is) (All-get_or (λ o. OpFitsIn o net.lines) net.ops i (X 0) within c.recall_invariant.ensures.fitting) in
    let next = stands_more net.lines (take i net.ops) op c.loop-op.joining c.step.new.self c.loop-op.invariant fits c.in_ok-step.ensures in
    subst (λ l. Stands net.lines l c.step.new.self) (ap (λ o. take i net.ops ++ o ∷ []) is ∙ sym (take_more net.ops i (X 0) within)) next

pub write-requires-clause-fitting : goal.write-requires-clause-fitting
write-requires-clause-fitting c =
    subst (λ l. All (λ o. OpFitsIn o c.lines-2.result) (kept l)) (sym c.deref.ensures.value)
    (subst (λ n. All (λ o. OpFitsIn o n) (kept c.loop-op.joining.made.items)) (sym c.lines-2.ensures.value)
    (kept-fits c.args.net.now.lines c.loop-op.joining.made.items c.loop-op.invariant.fits))

pub returns : goal.returns
returns c =
    let net = c.args.net.now in
    let all : take c.loop-op.op-index net.ops ≡ net.ops = take_all c.loop-op.op-index net.ops (omega (arith, c.loop-op-test.false, ap length c.ops-op-items.ensures)) in
    subst (IsJoiningOf net) (sym (c.in_ok-joined.ensures ∙ same_network _ _ _ _ c.lines-2.ensures.value (ap kept c.deref.ensures.value)))
    (joining_of net c.loop-op.joining c.recall_invariant.ensures (subst (λ l. Stands net.lines l c.loop-op.joining) all c.loop-op.invariant))
