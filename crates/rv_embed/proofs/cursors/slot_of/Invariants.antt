use Rattle.std.proofs.Common.{◌<◌, length}
use Rattle.rv_embed.proofs.cursors.slot_of.Given as goal

abbrev pub invariant-loop : goal.invariant-loop
invariant-loop l = l.at < length l.slots
