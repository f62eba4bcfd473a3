use Rattle.std.proofs.Common.{◌^◌, ◌+◌, ◌-◌, ◌*◌, get_or}
use Rattle.rv_embed.specs.inside.Rows.{IsCursor}
use Rattle.rv_embed.proofs.least_used.least_used.Given as goal

abbrev pub invariant-words : goal.invariant-words
invariant-words l = IsCursor l.row.care l.row.want (2 ^ l.outputs) l.counts l.cursor

abbrev pub decreases-words : goal.decreases-words
decreases-words l = (get_or l.counts l.row.want 0 - l.cursor.level) * 2 ^ l.outputs + (2 ^ l.outputs - l.cursor.word)
