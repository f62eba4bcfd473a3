use Rattle.std.proofs.Common.{◌∙◌, ◌+◌, ap, arith, sym, drop}
use Rattle.std.specs.Option.{option_copied}
use Rattle.rv_blif.specs.Placing.{with_cover_at, with_covers}
use Rattle.rv_blif.proofs.PlacingLaws.{covers_front}
use Rattle.rv_blif.proofs.placing.Placing.add_all.Goals as goal
use Rattle.rv_blif.proofs.placing.Placing.add_all.Goals.{in-Some+in_ok-add-in-Some, in-None}

pub loop-k-preserved : goal.loop-k-preserved
loop-k-preserved c =
    let covers = c.args.covers.now in
    let numbers = c.args.numbers.now in
    let i = c.loop-k.k-index in
    let front = sym (covers_front covers c.loop-k.self numbers i 0 (omega arith)) ∙ c.loop-k.invariant.value in
    elim c.match-cover_at.branch [
      | in-Some+in_ok-add-in-Some w ↦ record {
        value =
            ap (λ p. with_covers covers p (drop (i + 1) numbers))
            (w.self-is ∙ w.in_ok-add-in-Some.ensures.value ∙ ap (with_cover_at c.loop-k.self _) (sym (ap option_copied w.in-Some.is) ∙ c.cover_at.ensures))
            ∙ front;
        room = rw w.self-is (omega (arith, c.loop-k.invariant.room, w.in_ok-add-in-Some.ensures.count));
        inputs = rw w.self-is (w.in_ok-add-in-Some.ensures.inputs ∙ c.loop-k.invariant.inputs);
      }
      | in-None w ↦ record {
        value =
            ap (λ p. with_covers covers p (drop (i + 1) numbers))
            (w.self-is ∙ ap (with_cover_at c.loop-k.self _) (sym (ap option_copied w.in-None.is) ∙ c.cover_at.ensures))
            ∙ front;
        room = rw w.self-is (omega (arith, c.loop-k.invariant.room));
        inputs = rw w.self-is c.loop-k.invariant.inputs;
      }
    ]
