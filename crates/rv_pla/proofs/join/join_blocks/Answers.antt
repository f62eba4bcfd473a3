use Rattle.std.proofs.Common.{◌≡◌, ◌+◌, ◌-◌, ◌*◌, ◌/◌, ◌≤◌, ℕ, List, length, take, drop, ◌∙◌, arith, eq-eqb}
use Rattle.std.proofs.Math.Nat.{div-add-mod', mul-le-mul_right}
use Rattle.std.proofs.lemmas.List.{length-drop, length-take-le}
use Rattle.rv_pla.proofs.inside.Blocks.{all_wrong, moves_past, joining_skips, joining_more, joining_all}
use Rattle.rv_pla.proofs.join.join_blocks.Goals as goal

-- the block that begins at `a` lies within the table
part_len : (a k : ℕ) (table : List ℕ) → a + k ≤ length table → length (take (a + k - a) (drop a table)) ≡ k
part_len a k table h =
    let e : a + k - a ≡ k = omega arith in
    length-take-le (a + k - a) (drop a table) (omega (arith, length-drop a table)) ∙ e

pub loop-first-preserved-then-wrong-eq0 : goal.loop-first-preserved-then-wrong-eq0
loop-first-preserved-then-wrong-eq0 c =
    let size : ℕ = c.args.size in
    let first : ℕ = c.loop-first.first in
    let next : first + 1 ≤ length c.args.table.now / size = omega arith in
    let within = mul-le-mul_right size next in
    let parts = div-add-mod' (length c.args.table.now) size in
    let len = part_len (first * size) size c.loop-first.table (omega arith) in
    joining_more c.args.odd c.args.table.now c.loop-first.table c.args.block.now size c.args.care c.args.want first c.requires.some c.loop-first.invariant
    (first * size + size - first * size) c.join_block.new.table (eq-eqb _ 0 c.if-wrong-eq0.true) (omega arith) (omega arith) (omega arith)
    (c.join_block.auto.table ∙ len ∙ (omega arith)) c.requires.block (λ j h. c.join_block.ensures j (omega arith))

pub loop-first-preserved : goal.loop-first-preserved
loop-first-preserved c =
    let first : ℕ = c.loop-first.first in
    let place : ℕ = c.ilog2.result in
    let on = moves_past place first in
    let is = c.past-first.ensures in
    joining_skips c.args.odd c.args.table.now c.loop-first.table c.args.block.now c.args.size c.args.care c.args.want first c.requires.some c.loop-first.invariant
    c.past-first.result (omega (arith, on, is)) (λ y from below. all_wrong place first y c.args.care c.args.want c.ilog2.ensures.power_le from (omega (arith, is, below)))

pub returns : goal.returns
returns c = joining_all c.args.odd c.args.table.now c.loop-first.table c.args.block.now c.args.size c.args.care c.args.want c.loop-first.first c.requires.some c.requires.whole c.loop-first-test.false c.loop-first.invariant
