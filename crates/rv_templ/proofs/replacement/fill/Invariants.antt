use Rattle.std.proofs.Common.{◌≡◌, take}
use Rattle.rv_templ.specs.Images.{turned, replacement}
use Rattle.rv_templ.proofs.replacement.fill.Given as goal

abbrev pub invariant-loop-i : goal.invariant-loop-i
invariant-loop-i l = take l.i l.room ≡ take l.i (replacement l.window (turned l.r l.template) l.to)
