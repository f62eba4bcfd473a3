use Rattle.std.proofs.Common.{[]}
use Rattle.rv_sums.proofs.inside.Taken.{moves_none, moves_on, moves_then}
use Rattle.rv_sums.proofs.taking.Following.keep_up.Goals as goal

pub returns-then-not-moves : goal.returns-then-not-moves
returns-then-not-moves c = moves_none c.args.flips.now c.args.self.now

pub returns-then-not-is_h : goal.returns-then-not-is_h
returns-then-not-is_h c =
    moves_on [] c.args.flips.now c.args.self.now c.take_some.new.self c.note.new.self c.in_ok-some.ensures c.note.ensures.sum
    c.note.ensures.facts c.note.ensures.left

pub returns : goal.returns
returns c =
    let flips = c.args.flips.now in
    let noted = moves_on [] flips c.args.self.now c.take_some.new.self c.note.new.self c.in_ok-some.ensures c.note.ensures.sum c.note.ensures.facts c.note.ensures.left in
    moves_on [] flips c.args.self.now c.settle.new.self c.note-2.new.self
    (moves_then [] flips c.args.self.now c.note.new.self c.settle.new.self noted c.in_ok-settle.ensures) c.note-2.ensures.sum c.note-2.ensures.facts c.note-2.ensures.left
