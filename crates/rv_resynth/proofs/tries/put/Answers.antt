use Rattle.std.proofs.Common.{arith}
use Rattle.rv_resynth.proofs.inside.Splitting.{replaced_in_room}
use Rattle.rv_resynth.proofs.tries.put.Goals as goal

pub returns-in_ok-replace : goal.returns-in_ok-replace
returns-in_ok-replace c =
    let window = c.args.window.now in
    let can = rw c.deref.ensures.value at (c.can_replace.ensures c.if-can_replace.true) in
    let is = rw c.deref-then-have_room.ensures.value at c.in_ok-replace.ensures in
    let room = c.have_room.ensures c.if-have_room.true in
    rw is (replaced_in_room c.args.lines c.args.gates.now.items c.args.from c.args.count window.gates.items window.passed.items c.args.new.now c.requires.gates c.requires.from c.requires.count c.requires.splits can (omega (arith, room, c.len.ensures, c.len-passed.ensures)))
