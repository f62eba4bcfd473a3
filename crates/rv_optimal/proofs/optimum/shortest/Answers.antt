use Rattle.std.proofs.Common.{ℕ, ◌≡◌, ◌+◌, ◌^◌, Contains, IfSome, length, ap, sym, subst, ◌∙◌, arith}
use Rattle.std.specs.List.{range_with_len}
use Rattle.rv_optimal.specs.Library.{AreIn}
use Rattle.rv_optimal.specs.Shortest.{TakesAtLeast}
use Rattle.rv_optimal.specs.inside.Alike.{least}
use Rattle.rv_optimal.specs.inside.Levels.{after, AreMoves, IsWhole}
use Rattle.rv_optimal.specs.inside.Packed.{packed}
use Rattle.rv_optimal.proofs.inside.Sides.{back_starts, front_starts, moves_ready, suits_passed, way_computes}
use Rattle.rv_optimal.proofs.optimum.shortest.Goals as goal

pub meet-requires-clause-moves : goal.meet-requires-clause-moves
meet-requires-clause-moves c =
    subst (λ read. AreMoves c.args.library c.args.perm.now.lines read c.deref-4.result.now) (c.deref.ensures.value ∙ sym c.deref-3.ensures.value)
    (moves_ready c.args.library c.lines-lines.result c.args.perm.now.lines _ _ _ _ c.lines-lines.ensures.value c.requires.few
    c.in_ok-gates.ensures.have c.in_ok-gates.ensures.are c.deref.ensures.value c.in_ok-moves.ensures c.deref-4.ensures.value)

pub meet-requires-clause-suits : goal.meet-requires-clause-suits
meet-requires-clause-suits c =
    suits_passed c.of-alike.result _ _ _ _ _ c.lines-lines.ensures.value c.deref-2.ensures.value c.deref-4.ensures.value c.of-alike.ensures

pub meet-requires-clause-front : goal.meet-requires-clause-front
meet-requires-clause-front c =
    front_starts c.args.library c.args.perm.now.lines c.of-alike.result c.deref-4.result.now c.identity.result _
    (suits_passed c.of-alike.result _ _ _ _ _ c.lines-lines.ensures.value c.deref-2.ensures.value c.deref-4.ensures.value c.of-alike.ensures)
    (c.identity.ensures ∙ ap (λ k. packed (range_with_len 0 (2 ^ k))) c.lines-lines.ensures.value) (c.deref-5.ensures.value ∙ c.in_ok-front.ensures.items)

pub meet-requires-clause-back : goal.meet-requires-clause-back
meet-requires-clause-back c =
    back_starts c.args.library c.args.perm.now.lines c.table_key.result c.args.perm.now.images _ c.recall_invariant.ensures
    c.table_key.ensures (c.deref-6.ensures.value ∙ c.in_ok-back.ensures.items)

pub returns-in-Some-clause-shortest : goal.returns-in-Some-clause-shortest
returns-in-Some-clause-shortest c =
    let library = c.args.library in
    let n : ℕ = c.args.perm.now.lines in
    let images = c.args.perm.now.images in
    let way = c.in-Some.way in
    let begins : Contains c.deref-5.result.now (least c.of-alike.result way.from) = subst (λ o. IfSome o (λ w. Contains c.deref-5.result.now (least c.of-alike.result w.from))) c.in-Some.is c.in_ok-way.ensures.begins in
    let whole : IsWhole n way.from = subst (λ o. IfSome o (λ w. IsWhole n w.from)) c.in-Some.is c.in_ok-way.ensures.whole in
    let ends : Contains c.deref-6.result.now way.to = subst (λ o. IfSome o (λ w. Contains c.deref-6.result.now w.to)) c.in-Some.is c.in_ok-way.ensures.ends in
    let allowed : AreIn library n way.gates.items = subst (λ o. IfSome o (λ w. AreIn library n w.gates.items)) c.in-Some.is c.in_ok-way.ensures.allowed in
    let leads : after n way.gates.items way.from ≡ way.to = subst (λ o. IfSome o (λ w. after n w.gates.items w.from ≡ w.to)) c.in-Some.is c.in_ok-way.ensures.leads in
    let least : TakesAtLeast library n images (0 + 0 + length way.gates.items) =
    subst (λ o. IfSome o (λ w. TakesAtLeast library n images (0 + 0 + length w.gates.items))) c.in-Some.is c.in_ok-way.ensures.least in
    let none_before : 0 + 0 + length way.gates.items ≡ length way.gates.items = omega arith in
    record {
      allowed = allowed;
      computes = way_computes library n c.of-alike.result images way.gates.items way.from way.to c.identity.result c.table_key.result c.deref-4.result.now c.deref-5.result.now c.deref-6.result.now c.requires.few c.recall_invariant.ensures
          (suits_passed c.of-alike.result _ _ _ _ _ c.lines-lines.ensures.value c.deref-2.ensures.value c.deref-4.ensures.value c.of-alike.ensures)
          (c.identity.ensures ∙ ap (λ k. packed (range_with_len 0 (2 ^ k))) c.lines-lines.ensures.value) c.table_key.ensures
          (c.deref-5.ensures.value ∙ c.in_ok-front.ensures.items) (c.deref-6.ensures.value ∙ c.in_ok-back.ensures.items) whole begins ends leads;
      least = subst (TakesAtLeast library n images) none_before least;
    }
