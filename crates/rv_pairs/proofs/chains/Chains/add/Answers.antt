use Rattle.std.proofs.Common.{◌≡◌, ◌<◌, ◌+◌, ℕ, Bool, List, ◌∙◌, sym, ap, arith, length, cond, get_or, refl, subst, w64, true, false, Some, length-set}
use Rattle.std.specs.Prelude.{slice_get}
use Rattle.std.specs.Int.{trailing_zeros}
use Rattle.std.proofs.lemmas.Option.{same_Some}
use Rattle.rv_gate.specs.Word.{has}
use Rattle.rv_gate.proofs.LineSets.{has-none}
use Rattle.rv_gate.proofs.LowestLine.{lowest_line, still_there}
use Rattle.rv_net.specs.declared.op.Op.{Op}
use Rattle.rv_pairs.specs.declared.chains.Node.{Node}
use Rattle.rv_pairs.specs.inside.Cells.{Cells, StandsAt}
use Rattle.rv_pairs.specs.inside.Chained.{Chain}
use Rattle.rv_pairs.proofs.inside.Linked.{added, further}
use Rattle.rv_pairs.proofs.chains.Chains.add.Goals as goal

-- an operation that does not belong is passed
start : (cells : Cells) (nodes : List Node) (belongs : Op → Bool) (link place : ℕ) (o : Op) (on : Bool) → slice_get cells place ≡ Some (Some o) → belongs o ≡ on → Chain cells nodes belongs link place
    → Chain cells nodes belongs link (cond on place (place + 1))
start cells nodes belongs link place o true there is chain = chain
start cells nodes belongs link place o false there is chain =
    further cells nodes belongs link place (place + 1) (omega arith)
    (λ k p le lt h. let e : k ≡ place = omega arith in ap belongs (same_Some _ _ (same_Some _ _ (sym (subst (λ n. StandsAt cells n p) e h) ∙ there))) ∙ is) chain

pub loop-left-init : goal.loop-left-init
loop-left-init c = record {
  count = refl;
  among = λ slot below on. on;
  chains = λ belongs cells op there own are slot lt.
      start cells c.args.self.now.nodes.items (belongs slot) (get_or c.args.self.now.heads.items slot 0) c.args.place op (has c.args.set slot) there (own slot) (are.each slot lt);
}

pub loop-left-smaller : goal.loop-left-smaller
loop-left-smaller c = (lowest_line c.loop-left.left (omega arith) (omega arith)).fewer

pub loop-left-preserved : goal.loop-left-preserved
loop-left-preserved c =
    let before = c.loop-left.invariant in
    let lowest = lowest_line c.loop-left.left (omega arith) (omega arith) in
    let line = trailing_zeros w64 c.loop-left.left in
    let pushed = c.in_ok-push.ensures in
    let heads = c.loop-left.self.heads.items in
    let nodes = c.loop-left.self.nodes.items in
    let place = c.args.place in
    let within : line < length heads = omega (arith, lowest.within, before.count, c.requires) in
    let count : length c.push.new.self.heads.items ≡ length heads = ap length pushed.heads ∙ length-set heads line (length nodes + 1) in
    record {
      count = count ∙ before.count;
      among = λ slot below on. before.among slot below (still_there _ _ _ lowest slot below on);
      chains = λ belongs cells op there own are slot lt.
          let below : slot < 64 = omega (arith, count, before.count, c.requires, lt) in
          added cells heads c.push.new.self.heads.items nodes c.push.new.self.nodes.items (belongs slot) c.loop-left.left line _ place slot op lowest pushed.heads pushed.nodes within below there
          (λ here. own slot ∙ ap (has c.args.set) here ∙ before.among line lowest.within lowest.there)
          (before.chains belongs cells op there own are slot (omega (arith, count, lt)));
    }

pub returns-clause-chains : goal.returns-clause-chains
returns-clause-chains c = λ belongs cells op there own are. record {
  each = λ slot lt.
      subst (λ b. Chain cells c.loop-left.self.nodes.items (belongs slot) (get_or c.loop-left.self.heads.items slot 0) (cond b c.args.place (c.args.place + 1)))
      (ap (λ n. has n slot) c.loop-left-test.false ∙ has-none slot) (c.loop-left.invariant.chains belongs cells op there own are slot lt);
}
