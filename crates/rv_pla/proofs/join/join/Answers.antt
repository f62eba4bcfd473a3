use Rattle.std.proofs.Common.{◌≡◌, ◌*◌, ◌-◌, ◌%◌, ◌^◌, ◌<◌, ◌≤◌, ℕ, Bool, get_or, cond, sym, ap, ◌∙◌, arith}
use Rattle.std.specs.Int.{bit_at}
use Rattle.std.proofs.Math.Nat.{mod-lt, pow-le-pow_right}
use Rattle.std.proofs.lemmas.Nat.{one_shl, pow_pos}
use Rattle.rv_gate.specs.Word.{word_of}
use Rattle.rv_pla.specs.Cube.{matches}
use Rattle.rv_pla.specs.inside.Table.{joined_sets}
use Rattle.rv_pla.proofs.inside.Matching.{matches-mirrored}
use Rattle.rv_pla.proofs.inside.Blocks.{joined_sets-nothing, joined_word, whole_blocks}
use Rattle.rv_pla.proofs.join.join.Goals as goal

either_way : (b : Bool) (n : ℕ) → cond b n n ≡ n
either_way b n = grind arith

pub returns-then-outs-eq0 : goal.returns-then-outs-eq0
returns-then-outs-eq0 c = λ x h.
    let b : Bool = matches c.args.cube (word_of c.args.inputs x) in
    let old : ℕ = get_or c.args.table.now x 0 in
    sym (joined_sets-nothing c.args.odd old) ∙ ap (joined_sets c.args.odd old) (sym (either_way b 0) ∙ ap (λ n. cond b n 0) (sym c.if-outs-eq0.true))

small_block : (k : ℕ) → k ≤ 5 → 2 ^ k ≤ 32
small_block k h = let p : 2 ^ k ≤ 2 ^ 5 = pow-le-pow_right {n = 2} (omega arith) {i = k} {j = 5} h in omega arith

pub fill-requires : goal.fill-requires
fill-requires c =
    let k : ℕ = c.min.result in
    rw (one_shl k 32 (omega arith)) (small_block k (omega arith))

pub join_blocks-requires-clause-block : goal.join_blocks-requires-clause-block
join_blocks-requires-clause-block c =
    let k : ℕ = c.min.result in
    let small = small_block k (omega arith) in
    rw (one_shl k 32 (omega arith)) (omega arith)

pub join_blocks-requires-clause-whole : goal.join_blocks-requires-clause-whole
join_blocks-requires-clause-whole c =
    let k : ℕ = c.min.result in
    rw (one_shl k 32 (omega arith)) (ap (λ (n : ℕ). n % 2 ^ k) c.requires.size ∙ whole_blocks c.args.inputs k (omega arith))

pub returns : goal.returns
returns c = λ x h.
    let n : ℕ = c.args.inputs in
    let k : ℕ = c.min.result in
    let e : 1 * 2 ^ k % 2 ^ 32 ≡ 2 ^ k = one_shl k 32 (omega arith) in
    let r : x % 2 ^ k < 2 ^ k = mod-lt x (pow_pos k) in
    let filled = rw e at c.fill.ensures (x % 2 ^ k) (omega arith) in
    let is = rw e at c.join_blocks.ensures x h in
    joined_word c.args.odd k x c.mirrored_u32-care.result c.mirrored_u32-want.result c.args.outs (get_or c.args.table.now x 0) (get_or c.join_blocks.new.table x 0) c.fill.new.block filled is
    ∙ ap (λ b. joined_sets c.args.odd (get_or c.args.table.now x 0) (cond b c.args.outs 0))
    (matches-mirrored n x c.args.cube c.mirrored_u32-care.result c.mirrored_u32-want.result
    (record { below = c.mirrored_u32-care.ensures.bound; at = λ i l. c.mirrored_u32-care.ensures.bits i l ∙ ap (λ (s : ℕ). bit_at s (n - 1 - i)) c.from.ensures })
    (record { below = c.mirrored_u32-want.ensures.bound; at = λ i l. c.mirrored_u32-want.ensures.bits i l ∙ ap (λ (s : ℕ). bit_at s (n - 1 - i)) c.from-2.ensures }))
