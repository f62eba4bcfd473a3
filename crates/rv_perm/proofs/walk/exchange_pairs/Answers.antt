use Rattle.std.proofs.Common.{◌≡◌, ℕ, ◌+◌, ◌*◌, ◌%◌, ◌^◌, sym, ◌∙◌, ap, arith}
use Rattle.std.specs.Prelude.{bit_and, bit_or, bit_xor}
use lib.Bits.{and_self}
use Rattle.std.proofs.lemmas.Nat.{one_shl, pow_below, xor_lt, le_or_l}
use Rattle.rv_perm.proofs.inside.Visited.{visit_none, visit_pair, visit_all, other_lacks, same_xor}
use Rattle.rv_perm.proofs.walk.exchange_pairs.Goals as goal

pub loop-upper-init : goal.loop-upper-init
loop-upper-init c =
    rw (one_shl c.args.k 32 (omega arith))
    (visit_none c.args.lines (bit_or c.args.care (2 ^ c.args.k)) c.args.negative (2 ^ c.args.k) c.args.table.now (and_self (bit_or c.args.care (2 ^ c.args.k))), c.requires.inverse)

pub exchange_places-requires-clause-a_in : goal.exchange_places-requires-clause-a_in
exchange_places-requires-clause-a_in c =
    let end = one_shl c.args.lines 32 (omega arith) in
    let a = xor_lt c.args.lines c.loop-upper.upper c.args.negative (omega arith) c.requires.negative_in in
    omega (arith, c.loop-upper.invariant.0.len)

pub exchange_places-requires-clause-b_in : goal.exchange_places-requires-clause-b_in
exchange_places-requires-clause-b_in c =
    let end = one_shl c.args.lines 32 (omega arith) in
    let place = one_shl c.args.k 32 (omega arith) in
    let u = xor_lt c.args.lines c.loop-upper.upper (2 ^ c.args.k) (omega arith) (pow_below c.args.k c.args.lines c.requires.k_in) in
    let b = xor_lt c.args.lines (bit_xor c.loop-upper.upper (2 ^ c.args.k)) c.args.negative u c.requires.negative_in in
    rw place (omega (arith, c.loop-upper.invariant.0.len))

pub exchange_places-requires-clause-apart : goal.exchange_places-requires-clause-apart
exchange_places-requires-clause-apart c e =
    let place = one_shl c.args.k 32 (omega arith) in
    let y : ℕ = c.loop-upper.upper in
    let other : ℕ = bit_xor y (2 ^ c.args.k) in
    let same : y ≡ other = same_xor y other c.args.negative (rw place at e) in
    other_lacks c.args.care c.args.k y c.loop-upper.invariant.0.has
    (ap (λ v. bit_and v (bit_or c.args.care (2 ^ c.args.k))) (sym same) ∙ c.loop-upper.invariant.0.has)

pub loop-upper-smaller : goal.loop-upper-smaller
loop-upper-smaller c = omega (arith, le_or_l (c.loop-upper.upper + 1) (bit_or c.args.care (1 * 2 ^ c.args.k % 2 ^ 32)))

pub loop-upper-preserved : goal.loop-upper-preserved
loop-upper-preserved c =
    let end = one_shl c.args.lines 32 (omega arith) in
    let place = one_shl c.args.k 32 (omega arith) in
    rw place (
      visit_pair c.args.lines c.args.care c.args.k c.args.negative c.loop-upper.upper c.args.table.now c.loop-upper.table c.exchange_places.new.table
          c.requires.k_in c.requires.negative_in (omega arith) c.requires.size (rw place at c.exchange_places.ensures.table) c.loop-upper.invariant.0,
      c.exchange_places.ensures.inverse,
    )

pub returns-clause-table : goal.returns-clause-table
returns-clause-table c =
    let end = one_shl c.args.lines 32 (omega arith) in
    visit_all c.args.lines c.args.care c.args.k c.args.negative c.loop-upper.upper c.args.table.now c.loop-upper.table
    c.requires.k_in c.requires.negative_in c.requires.free (omega arith) c.loop-upper.invariant.0
