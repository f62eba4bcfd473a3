use Rattle.std.proofs.Common.{◌≡◌, ◌∙◌, ◌<◌, ◌≤◌, ◌+◌, ◌*◌, ◌%◌, ◌∷◌, ℕ, List, true, drop, length, get_or, sym, ap, ap₂, arith}
use Rattle.rv_net.specs.declared.op.Op.{Op}
use Rattle.rv_net.specs.declared.op.Op.TheVariants.{X}
use Rattle.rv_net.proofs.Step.{Word, bit}
use Rattle.rv_paths.specs.Paths.{end_of, goes_by, next_after, power_of, turn_by}
use Rattle.rv_paths.specs.declared.rows.Row.{Row}
use Rattle.rv_paths.specs.inside.Parity.{parity}
use Rattle.rv_paths.specs.inside.Phases.{part, path_at, power, word_at}
use Rattle.rv_paths.proofs.inside.Followed.{drop-end, power-more, turns-more, words-more}
use Rattle.rv_paths.proofs.following.follow.Goals as goal

pub loop-op-init : goal.loop-op-init
loop-op-init c =
    let ops : List Op = c.args.ops.now in
    let y : Word → Word = path_at c.args.columns.now in
    record {
      count = c.in_ok-rows.ensures.count;
      few = omega arith;
      fresh = λ u. c.in_ok-fresh.ensures u;
      words = λ u. ap (λ (w : Word). end_of ops 0 (y u) w) (sym (c.in_ok-rows.ensures.words u));
      turns = λ u. ap (λ (w : Word). (power c.args.phases.now u + c.args.factor * power_of ops 0 (y u) w) % 8) (sym (c.in_ok-rows.ensures.words u));
    }

pub loop-op-preserved : goal.loop-op-preserved
loop-op-preserved c =
    let ops : List Op = c.args.ops.now in
    let k : ℕ = c.loop-op.op-index in
    let n : ℕ = c.loop-op.next in
    let f : ℕ = c.args.factor in
    let op : Op = get_or ops k (X 0) in
    let rows : List Row = c.loop-op.rows.items in
    let more : List Row = c.pass.new.rows.items in
    let within : k < length ops = omega arith in
    let inv = c.loop-op.invariant in
    let y : Word → Word = path_at c.args.columns.now in
    let at : c.next_after-next.result ≡ next_after op n = c.next_after-next.ensures.next in
    let moved : (u : Word) → word_at more u ≡ goes_by op (bit (y u) n) (word_at rows u) =
    λ u. c.in_ok-pass.ensures.1 u ∙ ap (λ (m : Word). goes_by op (parity m (true ∷ u)) (word_at rows u)) c.deref-in-loop-op-2.ensures.value
    ∙ ap (λ b. goes_by op b (word_at rows u)) (inv.fresh u) in
    let turned : (u : Word) → power c.turn.new.phases u % 8 ≡ (power c.loop-op.phases u + f * turn_by op (bit (y u) n) (word_at rows u)) % 8 =
    λ u. c.in_ok-turn.ensures u
    ∙ ap₂ (λ (m : Word) (r : List Row). (power c.loop-op.phases u + f * turn_by op (parity m (true ∷ u)) (word_at r u)) % 8) c.deref-in-loop-op.ensures.value c.deref.ensures.value
    ∙ ap (λ b. (power c.loop-op.phases u + f * turn_by op b (word_at rows u)) % 8) (inv.fresh u) in
    record {
      count = c.in_ok-pass.ensures.0 ∙ inv.count;
      few = omega (arith, c.next_after-next.ensures.few, inv.few);
      fresh = λ u. c.in_ok-fresh-2.ensures u;
      words = λ u.
          inv.words u ∙ words-more ops k n (X 0) (y u) (word_at rows u) (word_at more u) within (moved u)
          ∙ ap (λ m. end_of (drop (k + 1) ops) m (y u) (word_at more u)) (sym at);
      turns = λ u.
          turns-more f (power_of ops 0 (y u) (part 0 c.args.lines u)) (power c.loop-op.phases u) (power c.turn.new.phases u) (power_of (drop k ops) n (y u) (word_at rows u))
          (turn_by op (bit (y u) n) (word_at rows u)) (power_of (drop (k + 1) ops) (next_after op n) (y u) (word_at more u)) (power c.args.phases.now u)
          (inv.turns u) (power-more ops k n (X 0) (y u) (word_at rows u) (word_at more u) within (moved u)) (turned u)
          ∙ ap (λ m. (power c.turn.new.phases u + f * power_of (drop (k + 1) ops) m (y u) (word_at more u)) % 8) (sym at);
    }

pub returns : goal.returns
returns c =
    let ops : List Op = c.args.ops.now in
    let k : ℕ = c.loop-op.op-index in
    let n : ℕ = c.loop-op.next in
    let f : ℕ = c.args.factor in
    let all : length ops ≤ k = omega arith in
    let y : Word → Word = path_at c.args.columns.now in
    let w : Word → Word = word_at c.loop-op.rows.items in
    record {
      words = λ u. sym (c.loop-op.invariant.words u ∙ ap (λ (l : List Op). end_of l n (y u) (w u)) (drop-end ops k all));
      turns = λ u.
          let e = c.loop-op.invariant.turns u ∙ ap (λ (l : List Op). (power c.loop-op.phases u + f * power_of l n (y u) (w u)) % 8) (drop-end ops k all) in
          omega (arith, e);
    }
