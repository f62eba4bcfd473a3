use Rattle.std.proofs.Common.{ℕ, arith, w64, refl}
use Rattle.std.specs.Int.{trailing_zeros}
use Rattle.rv_gate.proofs.LowestLine.{lowest_line, still_there}
use Rattle.rv_route.proofs.inside.Moving.{place_of}
use Rattle.rv_route.proofs.inside.Steps.{placed_all, placing_more}
use Rattle.rv_route.proofs.places.positions_of.Goals as goal
use Rattle.rv_gate.proofs.LineSets.{has-none}

pub loop-left-init : goal.loop-left-init
loop-left-init c = record {
  among = λ line lt on. on;
  placing = λ row s. record { each = λ p lt. rw (has-none p) refl; past = λ p out. has-none p };
}

pub bounds-places-line : goal.bounds-places-line
bounds-places-line c =
    let l = lowest_line c.loop-left.left (omega arith) (omega arith) in
    c.requires.within (trailing_zeros w64 c.loop-left.left) (c.loop-left.invariant.among _ l.within l.there)

pub overflow_shl-positions : goal.overflow_shl-positions
overflow_shl-positions c =
    let l = lowest_line c.loop-left.left (omega arith) (omega arith) in
    let place = place_of _ _ (trailing_zeros w64 c.loop-left.left) c.requires.table.1 (c.requires.within _ (c.loop-left.invariant.among _ l.within l.there)) in
    let few = c.requires.few in
    omega arith

pub loop-left-smaller : goal.loop-left-smaller
loop-left-smaller c = (lowest_line c.loop-left.left (omega arith) (omega arith)).fewer

pub loop-left-preserved : goal.loop-left-preserved
loop-left-preserved c =
    let l = lowest_line c.loop-left.left (omega arith) (omega arith) in
    let line : ℕ = trailing_zeros w64 c.loop-left.left in
    let lt = c.requires.within line (c.loop-left.invariant.among _ l.within l.there) in
    record {
      among = λ k b on. c.loop-left.invariant.among k b (still_there _ line _ l k b on);
      placing = λ row s. placing_more row c.args.places.now c.args.set _ line _ _ s c.requires.few lt l (c.loop-left.invariant.placing row s);
    }

pub returns : goal.returns
returns c = λ row s. placed_all row c.args.places.now c.args.set _ _ s c.loop-left-test.false (c.loop-left.invariant.placing row s)
