use Rattle.std.proofs.Common.{◌*◌, ◌^◌, ◌%◌, List, sym, subst}
use Rattle.std.proofs.lemmas.List.Elements.{All-replicate}
use Rattle.rv_embed.specs.inside.Rows.{AreCursors, IsCursor}
use Rattle.rv_embed.specs.declared.cursors.Slot.{Slot}
use Rattle.rv_embed.proofs.inside.Keeping.{starts_free}
use Rattle.rv_embed.proofs.cursors.free_slots.Goals as goal

pub returns-clause-right : goal.returns-clause-right
returns-clause-right c = λ n counts.
    (let P : List Slot → Type 0 = AreCursors n counts in
    subst P (sym (c.in_ok-vec.ensures.items_if_clones_equal (λ y e. e))) (All-replicate (λ (s : Slot). IsCursor s.care s.want (2 ^ n) counts s.cursor) (2 * 2 ^ c.args.inputs % 2 ^ 64) (record { care = 0; want = 0; cursor = record { level = 0; word = 0 } }) (starts_free n counts)))
