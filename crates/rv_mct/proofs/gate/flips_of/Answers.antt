use Rattle.std.proofs.Common.{sym, arith, ◌≤◌}
use Rattle.rv_mct.proofs.inside.Gates.{own_under, own_two, middle_gate}
use Rattle.rv_mct.proofs.gate.flips_of.Goals as goal

sixty_four : 64 ≤ 64
sixty_four = omega arith

pub flip-outer-requires : goal.flip-outer-requires
flip-outer-requires c =
    let kept = rw (sym c.shape.ensures.value, c.in-Swap.is) at c.shape.ensures.valid in
    rw (c.place-second.ensures) (own_under 64 c.in-Swap.b c.in-Swap.a kept.1 kept.0 (λ e. kept.2 (sym e)) sixty_four).1

pub flip-middle-requires : goal.flip-middle-requires
flip-middle-requires c =
    let kept = rw (sym c.shape.ensures.value, c.in-Swap.is) at c.shape.ensures.valid in
    rw (c.place-first.ensures) (middle_gate c.in-Swap.care c.in-Swap.want c.in-Swap.a c.in-Swap.b kept)

pub flip-double-requires : goal.flip-double-requires
flip-double-requires c =
    let kept = rw (sym c.shape.ensures.value, c.in-Peres.is) at c.shape.ensures.valid in
    rw (c.place-first-in-Peres.ensures, c.place-second-in-Peres.ensures) (own_two 64 c.in-Peres.a c.in-Peres.b c.in-Peres.c kept.0 kept.1 kept.2 kept.4 kept.5 sixty_four).1

pub flip-single-requires : goal.flip-single-requires
flip-single-requires c =
    let kept = rw (sym c.shape.ensures.value, c.in-Peres.is) at c.shape.ensures.valid in
    rw (c.place-first-in-Peres.ensures) (own_under 64 c.in-Peres.a c.in-Peres.b kept.0 kept.1 kept.3 sixty_four).1
