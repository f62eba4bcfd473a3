use Rattle.std.proofs.Common.{◌≡◌, ◌∙◌, ◌++◌, ◌+◌, ◌%◌, ◌≤◌, ℕ, Bool, List, length, true, ◌∷◌, refl, sym, ap, ap₂, subst, arith}
use Rattle.std.specs.Prelude.{IfSome, IsTrue}
use Rattle.rv_net.specs.Amplitude.{count_h}
use Rattle.rv_net.specs.declared.op.Op.{Op}
use Rattle.rv_net.proofs.Step.{Word, bit}
use Rattle.rv_paths.specs.Paths.{AreSame}
use Rattle.rv_paths.specs.declared.phases.Phases.{Phases}
use Rattle.rv_paths.specs.declared.rows.Row.{Row}
use Rattle.rv_paths.specs.inside.Follows.{Follows}
use Rattle.rv_paths.specs.inside.Phases.{path_at, power, word_at}
use Rattle.rv_paths.specs.inside.Arranged.{arranged}
use Rattle.rv_paths.proofs.inside.Arrangement.{map-arranged, sum-arranged}
use Rattle.rv_paths.proofs.inside.Followed.{agreed, columns-all, fitting}
use Rattle.rv_paths.proofs.inside.Turning.{if_ok}
use Rattle.rv_paths.proofs.following.have_same_sums.Goals as goal

pub returns : goal.returns
returns c =
    let n : ℕ = c.args.lines in
    let a : List Op = c.args.first.now in
    let b : List Op = c.args.second.now in
    let count : ℕ = c.count_h-count.result in
    let columns : List ℕ = c.in_ok-taken.taken.items in
    let order : List ℕ = c.in_ok-order.order.items in
    let others : List ℕ = c.in-Some.permuted.items in
    let p0 : Phases = c.new-phases.result in
    let p1 : Phases = c.follow.new.phases in
    let p2 : Phases = c.follow-2.new.phases in
    let one : List Row = c.in_ok-one.one.items in
    let two : List Row = c.in_ok-two.two.items in
    let first : Follows p0 p1 n a columns 1 one =
    subst (λ (l : List ℕ). Follows p0 p1 n a l 1 one) c.deref-3.ensures.value c.in_ok-one.ensures in
    let second : Follows p1 p2 n b others 7 two =
    subst (λ (l : List ℕ). Follows p1 p2 n b l 7 two) c.deref-4.ensures.value c.in_ok-two.ensures in
    let ends : (u : Word) → word_at one u ≡ word_at two u =
    λ u. ap (λ (l : List Row). word_at l u) (sym c.deref-5.ensures.value) ∙ c.if-not-same_rows.ensures refl u ∙ ap (λ (l : List Row). word_at l u) c.deref-6.ensures.value in
    let paths : (x y : Word) → length x ≡ n → length y ≡ count → path_at columns (x ++ y) ≡ y =
    columns-all n count (c.from.result + 1) columns (let e : c.from.result + 1 ≡ n + 1 = ap (λ m. m + 1) c.from.ensures in e) (λ u. c.in_ok-taken.ensures u) in
    let found : c.in-Some.permuted.items ≡ arranged c.deref.result.now c.deref-2.result.now =
    subst (λ o. IfSome o (λ list. list.items ≡ arranged c.deref.result.now c.deref-2.result.now)) c.in-Some.is c.in_ok-permuted.ensures in
    let is : others ≡ arranged order columns = found ∙ ap₂ (λ (p l : List ℕ). arranged p l) c.deref.ensures.value c.deref-2.ensures.value in
    let others_paths : (x y : Word) → length x ≡ n → length y ≡ count → path_at others (x ++ y) ≡ arranged order y =
    λ x y e f. ap (λ (l : List ℕ). path_at l (x ++ y)) is ∙ map-arranged (λ m. bit (true ∷ (x ++ y)) m) order columns ∙ ap (λ (w : Word). arranged order w) (paths x y e f) in
    let other : count_h b ≡ count = sym c.count_h-other.ensures ∙ sym c.if-count-other.false in
    let P : Bool → Type 0 = λ found. IsTrue found → (u : Word) → 1 + length u ≤ c.from-2.result + 1 + count → power p2 u % 8 ≡ 0 in
    let Q : Bool → Type 0 = λ found. IsTrue found → AreSame n a b in
    if_ok c.vanish.result P Q
    (λ found h holds. record {
      sums =
          agreed n count a b columns others (λ y. arranged order y) p0 p1 p2 one two (sym c.count_h-count.ensures) other paths others_paths (λ f. sum-arranged order count f) (λ u. c.new-phases.ensures u) first second ends
          (λ u few. h holds u (omega (arith, few, c.from-2.ensures)));
      hadamards = other ∙ c.count_h-count.ensures;
      fitting = fitting n b (c.if-not-is_region-2.ensures refl);
    })
    c.vanish.ensures
