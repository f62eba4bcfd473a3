use Rattle.std.proofs.Common.{◌≡◌, ◌∙◌, ◌++◌, ◌+◌, ℕ, List, [], sym, ap, subst, arith}
use Rattle.std.proofs.lemmas.List.{take_all}
use Rattle.rv_net.specs.declared.op.Op.{Op}
use Rattle.rv_reduce.specs.StandsFor.{StandsFor}
use Rattle.rv_reduce.proofs.Standing.{itself, piece_more}
use Rattle.rv_reduce.proofs.pieces.found_for.Goals as goal

pub loop-from-init : goal.loop-from-init
loop-from-init c = record {
  within = omega arith;
  stands = subst (λ (l : List Op). StandsFor c.args.lines [] l) (sym c.new-made.ensures.items) (itself c.args.lines []);
}

pub loop-from-preserved : goal.loop-from-preserved
loop-from-preserved c =
    let ops : List Op = c.args.ops.now in
    let from : ℕ = c.loop-from.from in
    let made : List Op = c.loop-from.made.items in
    let pushed : c.extend_from_slice.new.self.items ≡ made ++ c.in_ok-piece.piece.items =
    c.in_ok-extend_from_slice.ensures.items ∙ ap (λ (l : List Op). made ++ l) c.deref.ensures.value in
    record {
      within = omega (arith, c.min.ensures, c.loop-from.invariant.within);
      stands =
          piece_more c.args.lines from (from + c.min.result) ops made c.in_ok-piece.piece.items c.extend_from_slice.new.self.items (omega arith)
          c.loop-from.invariant.stands c.in_ok-piece.ensures pushed;
    }

pub returns : goal.returns
returns c =
    subst (λ (l : List Op). StandsFor c.args.lines l c.loop-from.made.items) (take_all c.loop-from.from c.args.ops.now c.loop-from-test.false)
    c.loop-from.invariant.stands
