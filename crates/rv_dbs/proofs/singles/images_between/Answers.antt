use Rattle.std.proofs.Common.{◌≡◌, ◌<◌, ◌^◌, ℕ, get_or, map, refl, ap, sym, subst, ◌∙◌, arith}
use Rattle.std.specs.List.{range_with_len}
use Rattle.rv_gate.proofs.Ranges.{pushed_more}
use Rattle.rv_dbs.specs.Walk.{left, right}
use Rattle.rv_dbs.specs.Singles.{turned, between}
use Rattle.rv_dbs.proofs.Pairs.{image_within}
use Rattle.rv_dbs.proofs.Between.{turned_within}
use Rattle.rv_dbs.proofs.Loops.{values_full, turned_by_values}
use Rattle.rv_dbs.proofs.singles.images_between.Goals as goal

pub get-requires : goal.get-requires
get-requires c =
    let size : c.word_count-x-end.result ≡ 2 ^ c.args.perm.now.lines = c.word_count-x-end.ensures ∙ ap (λ m. 2 ^ m) c.lines.ensures.value in
    let x_in : c.loop-x.x < 2 ^ c.args.perm.now.lines = omega (arith, size) in
    let P : ℕ → Type 0 = λ v. v < 2 ^ c.args.perm.now.lines in
    subst P (sym (c.turned.ensures ∙ turned_by_values c.args.perm.now.lines c.args.k c.loop-x.x _ _ x_in c.requires.first))
    (turned_within c.args.perm.now.lines c.args.k c.loop-x.x (left c.args.perm.now.lines c.args.k c.args.perm.now.images) c.requires.line x_in)

pub turned-requires-in-loop-x-clause-word : goal.turned-requires-in-loop-x-clause-word
turned-requires-in-loop-x-clause-word c =
    let len = values_full c.args.perm.now.lines c.args.perm.now.lines _ _ refl c.requires.last in
    let size : c.word_count-x-end.result ≡ 2 ^ c.args.perm.now.lines = c.word_count-x-end.ensures ∙ ap (λ m. 2 ^ m) c.lines.ensures.value in
    let x_in : c.loop-x.x < 2 ^ c.args.perm.now.lines = omega (arith, size) in
    let t : c.turned.result < 2 ^ c.args.perm.now.lines =
    let P : ℕ → Type 0 = λ v. v < 2 ^ c.args.perm.now.lines in
    subst P (sym (c.turned.ensures ∙ turned_by_values c.args.perm.now.lines c.args.k c.loop-x.x _ _ x_in c.requires.first))
    (turned_within c.args.perm.now.lines c.args.k c.loop-x.x (left c.args.perm.now.lines c.args.k c.args.perm.now.images) c.requires.line x_in) in
    let i = image_within c.args.perm.now.lines c.turned.result c.args.perm.now.images c.lines.ensures.valid t in
    let e = c.get.ensures in
    omega (arith, len, i, e)

pub loop-x-preserved : goal.loop-x-preserved
loop-x-preserved c =
    let n : ℕ = c.args.perm.now.lines in
    let size : c.word_count-x-end.result ≡ 2 ^ c.args.perm.now.lines = c.word_count-x-end.ensures ∙ ap (λ m. 2 ^ m) c.lines.ensures.value in
    let x_in : c.loop-x.x < 2 ^ c.args.perm.now.lines = omega (arith, size) in
    let l : ℕ → _ = left c.args.perm.now.lines c.args.k c.args.perm.now.images in
    let r : ℕ → _ = right c.args.perm.now.lines c.args.k c.args.perm.now.images in
    let u_is : c.turned.result ≡ turned c.args.k (left c.args.perm.now.lines c.args.k c.args.perm.now.images) c.loop-x.x =
    c.turned.ensures ∙ turned_by_values c.args.perm.now.lines c.args.k c.loop-x.x _ _ x_in c.requires.first in
    let u_in = turned_within c.args.perm.now.lines c.args.k c.loop-x.x (left c.args.perm.now.lines c.args.k c.args.perm.now.images) c.requires.line x_in in
    let P : ℕ → Type 0 = λ v. v < 2 ^ c.args.perm.now.lines in
    let y_is : c.get.result ≡ get_or c.args.perm.now.images (turned c.args.k (left c.args.perm.now.lines c.args.k c.args.perm.now.images) c.loop-x.x) 0 =
    c.get.ensures ∙ ap (λ v. get_or c.args.perm.now.images v 0) u_is in
    let y_in : c.get.result < 2 ^ c.args.perm.now.lines = subst P (sym y_is) (image_within c.args.perm.now.lines _ c.args.perm.now.images c.lines.ensures.valid u_in) in
    pushed_more
    (λ x. turned c.args.k (right c.args.perm.now.lines c.args.k c.args.perm.now.images) (get_or c.args.perm.now.images (turned c.args.k (left c.args.perm.now.lines c.args.k c.args.perm.now.images) x) 0))
    c.loop-x.x c.turned-in-loop-x.result c.loop-x.images.items c.push.new.self.items c.in_ok-push.ensures.items c.loop-x.invariant
    (c.turned-in-loop-x.ensures ∙ turned_by_values c.args.perm.now.lines c.args.k c.get.result _ _ y_in c.requires.last
    ∙ ap (turned c.args.k (right c.args.perm.now.lines c.args.k c.args.perm.now.images)) y_is)

pub returns : goal.returns
unfolding between
returns c =
    let size : c.word_count-x-end.result ≡ 2 ^ c.args.perm.now.lines = c.word_count-x-end.ensures ∙ ap (λ m. 2 ^ m) c.lines.ensures.value in
    let all : c.loop-x.x ≡ 2 ^ c.args.perm.now.lines = omega (arith, size) in
    c.loop-x.invariant
    ∙ ap (λ m. map (λ x. turned c.args.k (right c.args.perm.now.lines c.args.k c.args.perm.now.images) (get_or c.args.perm.now.images (turned c.args.k (left c.args.perm.now.lines c.args.k c.args.perm.now.images) x) 0)) (range_with_len 0 m)) all
