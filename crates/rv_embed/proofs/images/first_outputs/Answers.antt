use Rattle.std.proofs.Common.{◌≡◌, ℕ, ◌+◌, ◌-◌, ◌*◌, ◌^◌, ◌<◌, List, length, get_or, refl, ◌∙◌, ap, arith}
use Rattle.std.proofs.lemmas.List.FromFn.{length-map-range_with_len, get_or-map-range_with_len}
use Rattle.std.proofs.lemmas.Nat.{one_shl}
use Rattle.rv_embed.specs.Classes.{rank}
use Rattle.rv_embed.specs.inside.Ranks.{ranks_of}
use Rattle.rv_embed.proofs.ImageLemmas.{first_output-lt}
use Rattle.rv_gate.proofs.Ranges.{pushed_more}
use Rattle.rv_embed.proofs.TableLemmas.{pow_le}
use Rattle.rv_embed.proofs.images.first_outputs.Goals as goal

length-ranks : (outputs ranks : List ℕ) → ranks ≡ ranks_of outputs → length ranks ≡ length outputs
length-ranks outputs ranks e = ap length e ∙ length-map-range_with_len (rank outputs) 0 (length outputs)

get_or-ranks : (outputs ranks : List ℕ) (x : ℕ) → ranks ≡ ranks_of outputs → x < length outputs → get_or ranks x 0 ≡ rank outputs x
get_or-ranks outputs ranks x e h = ap (λ l. get_or l x 0) e ∙ get_or-map-range_with_len (rank outputs) 0 (length outputs) x x 0 h (omega arith)

pub bounds-ranks-x : goal.bounds-ranks-x
bounds-ranks-x c = omega (arith, length-ranks c.args.outputs.now c.args.ranks.now c.requires.ranked)

-- what is computed at x
computed : (n o x s : ℕ) (outputs ranks : List ℕ) → ranks ≡ ranks_of outputs → x < length outputs → s ≡ 2 ^ (n - o)
    → get_or outputs x 0 * s + get_or ranks x 0 ≡ get_or outputs x 0 * 2 ^ (n - o) + rank outputs x
computed n o x s outputs ranks e h step = rw (step, get_or-ranks outputs ranks x e h) refl

pub overflow_add-output : goal.overflow_add-output
overflow_add-output c =
    let is = computed c.args.lines c.args.outs c.loop-x.x _ c.args.outputs.now c.args.ranks.now c.requires.ranked c.loop-x-test.true (one_shl (c.args.lines - c.args.outs) 32 (omega arith)) in
    let lt = first_output-lt c.args.lines c.args.outs c.args.outputs.now c.loop-x.x c.requires.room c.requires.below c.loop-x-test.true in
    let most = pow_le c.args.lines 16 c.requires.few in
    omega arith

pub loop-x-preserved : goal.loop-x-preserved
loop-x-preserved c =
    pushed_more (λ x. get_or c.args.outputs.now x 0 * 2 ^ (c.args.lines - c.args.outs) + rank c.args.outputs.now x) c.loop-x.x _ c.loop-x.numbers.items c.push.new.self.items c.in_ok-push.ensures.items c.loop-x.invariant
    (computed c.args.lines c.args.outs c.loop-x.x _ c.args.outputs.now c.args.ranks.now c.requires.ranked c.loop-x-test.true (one_shl (c.args.lines - c.args.outs) 32 (omega arith)))
