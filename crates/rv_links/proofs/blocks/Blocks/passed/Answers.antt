use Rattle.std.proofs.Common.{◌≡◌, ◌/◌, arith}
use Rattle.rv_links.proofs.blocks.Blocks.passed.Goals as goal

pub returns-then-not-far-clause-free : goal.returns-then-not-far-clause-free
returns-then-not-far-clause-free c x other le lt i =
    let e : x / 16 ≡ c.args.at / 16 = omega arith in
    c.is_passed-near.ensures c.if-not-near.false other (rw (c.deref.ensures.value, ← e) i.in_small)

pub returns-then-not-farther-clause-free : goal.returns-then-not-farther-clause-free
returns-then-not-farther-clause-free c x other le lt i =
    let e : x / 512 ≡ c.args.at / 512 = omega arith in
    c.is_passed-far.ensures c.if-not-far.false other (rw (c.deref-2.ensures.value, ← e) i.in_middle)

pub returns-clause-free : goal.returns-clause-free
returns-clause-free c x other le lt i =
    let e : x / 16384 ≡ c.args.at / 16384 = omega arith in
    c.is_passed-farther.ensures c.if-not-farther.false other (rw (c.deref-3.ensures.value, ← e) i.in_large)
