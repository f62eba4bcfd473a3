-- The bits of the pairs are those that the walks give, and no others are.
use Rattle.rv_gate.proofs.Bits.{xor_comm}
use Rattle.std.proofs.Common.{◌≡◌, ℕ, zero, suc, ◌+◌, ◌-◌, ◌^◌, ◌<◌, ◌≤◌, Bool, true, false, not, List, get_or, refl, sym, ◌∙◌, ap, inl, inr, arith}
use Rattle.std.specs.Int.{bit_at}
use Rattle.std.specs.Int.Bits.{xor_add_and}
use Rattle.std.proofs.lemmas.Bool.{cases_lt, eqb-true, le-ltb, lt-ltb, false_from_ne_true}
use Rattle.std.proofs.lemmas.Nat.{pow_pos}
use Rattle.std.proofs.lemmas.Nat.Bits.{and_pow}
use Rattle.rv_gate.specs.Word.{has}
use Rattle.rv_gate.specs.Gate.{xor}
use Rattle.rv_perm.specs.Perm.{IsPerm, preimage_of}
use Rattle.std.specs.Fn.{iterate}
use Rattle.rv_dbs.specs.Walk.{other, next, least_on_walk, side, left, right}
use Rattle.rv_dbs.specs.Steps.{IsFirst, AreWalked}
use Rattle.rv_dbs.proofs.Walks.{least_le, least_is, least_all, least_same, least_apart, after_within, after-add, mirror, way_back}
use Rattle.rv_dbs.proofs.inside.Jumps.{next_stays}
use Rattle.rv_dbs.proofs.Pairs.{across, walks, other_within, other_back, has_other-same, image_within, preimage_within, image_preimage, preimage_image, left_other, right_other}

-- ---- the words whose turn it is

-- no word of the walks from x and from the other word of its pair is less than x
abbrev IsLeast : ℕ → List ℕ → ℕ → Type 0
IsLeast k images x = (m : ℕ) → (x ≤ iterate (next k images) m x) × (x ≤ iterate (next k images) m (other k x))

-- from each word of a walk there is a way back, so these are the words whose pair no lesser word's walk meets
first_least : (n k x : ℕ) (images : List ℕ) → IsPerm n images → k < n → x < 2 ^ n → IsFirst k images x → IsLeast k images x
unfolding next across
first_least n k x images p h lt first m =
    let q = walks n k images p h in (
      elim (cases_lt (iterate (next k images) m x) x) [
        | inl less ↦
            (let b = way_back (2 ^ n) (other k) (across k images) m x q lt in
            absurd ((first (iterate (next k images) m x) b.0 less).0 b.1))
        | inr more ↦ more
      ],
      elim (cases_lt (iterate (next k images) m (other k x)) x) [
        | inl less ↦
            (let b = way_back (2 ^ n) (other k) (across k images) m (other k x) q (other_within n k x h lt) in
            absurd ((first (iterate (next k images) m (other k x)) b.0 less).1 b.1))
        | inr more ↦ more
      ],
    )

least_first : (n k x : ℕ) (images : List ℕ) → IsPerm n images → k < n → x < 2 ^ n → IsLeast k images x → IsFirst k images x
unfolding next across
least_first n k x images p h lt least y m less =
    let b = way_back (2 ^ n) (other k) (across k images) m y (walks n k images p h) (omega arith) in (
      λ e.
          let back : iterate (next k images) b.0 x ≡ y = ap (iterate (next k images) b.0) (sym e) ∙ b.1 in
          let own = (least b.0).0 in
          absurd (omega (arith, back, own, less)),
      λ e.
          let back : iterate (next k images) b.0 (other k x) ≡ y = ap (iterate (next k images) b.0) (sym e) ∙ b.1 in
          let there = (least b.0).1 in
          absurd (omega (arith, back, there, less)),
    )

-- ---- the lesser word of a pair

lesser_off : (k x : ℕ) → x ≤ other k x → has x k ≡ false
lesser_off k x le = grind (arith, false_from_ne_true, bit_at, eqb-true, xor_add_and, and_pow, pow_pos)

-- ---- the bits

xor-same : (a s b : Bool) → xor b s ≡ xor (xor a (xor a s)) b
xor-same a s b = grind arith

least_side : (n k x : ℕ) (images : List ℕ) → IsLeast k images x → side n k images x ≡ false
unfolding side
least_side n k x images h =
    let own = least_le (next k images) (2 ^ n - 1) 0 x (omega arith) in
    let there = least_is (next k images) (2 ^ n - 1) (other k x) in
    let past = (h there.0).1 in
    le-ltb _ _ (omega (arith, own, there.1, past))

pub are_walked : (n k : ℕ) (images : List ℕ) → IsPerm n images → k < n → AreWalked n k images (left n k images) (right n k images)
are_walked n k images p h = record {
  input_pairs = λ x l. left_other n k x images p h l;
  output_pairs = λ y l. right_other n k y images p h l;
  first = λ x l first.
      let least = first_least n k x images p h l first in
      ap (λ b. xor b (side n k images x)) (lesser_off k x (least 0).1) ∙ ap (xor false) (least_side n k x images least);
  through = λ x l.
      ap (λ v. xor (has (get_or images x 0) k) (side n k images v)) (preimage_image n x images p l)
      ∙ xor-same (has x k) (side n k images x) (has (get_or images x 0) k);
}

-- ---- no others

opposite : (s t b : Bool) → xor s b ≡ xor t (not b) → s ≡ not t
opposite s t b h = grind arith

not-xor : (c m : Bool) → not (xor c m) ≡ xor (not c) m
not-xor c m = grind arith

-- the side that such bits bring a word to
abbrev brought : ℕ → (ℕ → Bool) → ℕ → Bool
brought k l x = xor (has x k) (l x)

-- it is the same for the next word of the walk
brought_next : (n k x : ℕ) (images : List ℕ) (l r : ℕ → Bool) → IsPerm n images → k < n → x < 2 ^ n → AreWalked n k images l r
    → brought k l (next k images x) ≡ brought k l x
unfolding next across
brought_next n k x images l r p h lt w =
    let y : ℕ = get_or images x 0 in
    let y_in = image_within n x images p lt in
    let o_in = other_within n k (get_or images x 0) h y_in in
    let u : ℕ = across k images x in
    let u_in : across k images x < 2 ^ n = preimage_within n (other k (get_or images x 0)) images p o_in in
    let back : get_or images (across k images x) 0 ≡ other k (get_or images x 0) = image_preimage n (other k (get_or images x 0)) images p o_in in
    let there : r (other k (get_or images x 0)) ≡ xor (brought k l (across k images x)) (not (has (get_or images x 0) k)) =
    ap r (sym back) ∙ w.through (across k images x) u_in
    ∙ ap (λ v. xor (brought k l (across k images x)) (has v k)) back
    ∙ ap (xor (brought k l (across k images x))) (has_other-same k (get_or images x 0)) in
    let e = opposite (brought k l x) (brought k l (across k images x)) (has (get_or images x 0) k) (sym (w.through x lt) ∙ sym (w.output_pairs (get_or images x 0) y_in) ∙ there) in
    ap (λ b. xor b (l (other k (across k images x)))) (has_other-same k (across k images x))
    ∙ ap (xor (not (has (across k images x) k))) (w.input_pairs (across k images x) u_in)
    ∙ sym (not-xor (has (across k images x) k) (l (across k images x))) ∙ sym e

brought_after : (n k m x : ℕ) (images : List ℕ) (l r : ℕ → Bool) → IsPerm n images → k < n → x < 2 ^ n → AreWalked n k images l r
    → brought k l (iterate (next k images) m x) ≡ brought k l x
brought_after n k zero x images l r p h lt w = refl
brought_after n k (suc m) x images l r p h lt w =
    brought_after n k m (next k images x) images l r p h (next_stays n k images p h x lt) w ∙ brought_next n k x images l r p h lt w

-- the walk that has the least word brings it to 0
brought_least : (n k x : ℕ) (images : List ℕ) (l r : ℕ → Bool) → IsPerm n images → k < n → x < 2 ^ n → AreWalked n k images l r
    → least_on_walk n k images x < least_on_walk n k images (other k x) → brought k l x ≡ false
unfolding next across
brought_least n k x images l r p h lt w less =
    let q = walks n k images p h in
    let j = least_is (next k images) (2 ^ n - 1) x in
    let c : ℕ = iterate (next k images) j.0 x in
    let c_in : iterate (next k images) j.0 x < 2 ^ n = after_within (2 ^ n) (other k) (across k images) j.0 x q lt in
    let o_in = other_within n k (iterate (next k images) j.0 x) h c_in in
    let same : least_on_walk n k images (other k (iterate (next k images) j.0 x)) ≡ least_on_walk n k images (other k x) =
    sym (least_same (2 ^ n) (other k) (across k images) j.0 (other k (iterate (next k images) j.0 x)) q o_in)
    ∙ ap (least_on_walk n k images) (mirror (2 ^ n) (other k) (across k images) j.0 x q lt) in
    let is_least : IsLeast k images (iterate (next k images) j.0 x) = λ m. (
      (let a = least_all (2 ^ n) (other k) (across k images) (j.0 + m) x q lt in
          let e = after-add (next k images) j.0 m x in
          omega (arith, a, e, j.1)),
      (let a = least_all (2 ^ n) (other k) (across k images) m (other k (iterate (next k images) j.0 x)) q o_in in
          omega (arith, a, same, less, j.1)),
    ) in
    sym (brought_after n k j.0 x images l r p h lt w)
    ∙ ap (λ b. xor b (l (iterate (next k images) j.0 x))) (lesser_off k (iterate (next k images) j.0 x) (is_least 0).1)
    ∙ ap (xor false) (w.first (iterate (next k images) j.0 x) c_in (least_first n k (iterate (next k images) j.0 x) images p h c_in is_least))

brought_other : (n k x : ℕ) (images : List ℕ) (l r : ℕ → Bool) → x < 2 ^ n → AreWalked n k images l r → brought k l (other k x) ≡ not (brought k l x)
brought_other n k x images l r lt w =
    ap (λ b. xor b (l (other k x))) (has_other-same k x) ∙ ap (xor (not (has x k))) (w.input_pairs x lt) ∙ sym (not-xor (has x k) (l x))

not_false : (b : Bool) → not b ≡ false → b ≡ true
not_false b h = grind arith

-- each word is brought to its side
brought_side : (n k x : ℕ) (images : List ℕ) (l r : ℕ → Bool) → IsPerm n images → k < n → x < 2 ^ n → AreWalked n k images l r
    → brought k l x ≡ side n k images x
unfolding side next across
brought_side n k x images l r p h lt w =
    let q = walks n k images p h in
    let ne = least_apart (2 ^ n) (other k) (across k images) x q lt in
    let o_in = other_within n k x h lt in
    elim (cases_lt (least_on_walk n k images x) (least_on_walk n k images (other k x))) [
      | inl less ↦ brought_least n k x images l r p h lt w less ∙ sym (le-ltb _ _ (omega arith))
      | inr more ↦
          let back : least_on_walk n k images (other k (other k x)) ≡ least_on_walk n k images x = ap (least_on_walk n k images) (other_back k x) in
          let less : least_on_walk n k images (other k x) < least_on_walk n k images x = omega (arith, more, ne) in
          not_false (brought k l x) (sym (brought_other n k x images l r lt w) ∙ brought_least n k (other k x) images l r p h o_in w (omega (arith, less, back)))
          ∙ sym (lt-ltb _ _ less)
    ]

xor-again : (a l : Bool) → l ≡ xor a (xor a l)
xor-again a l = grind arith

-- so these bits are the only ones
pub walked_left : (n k x : ℕ) (images : List ℕ) (l r : ℕ → Bool) → IsPerm n images → k < n → x < 2 ^ n → AreWalked n k images l r → l x ≡ left n k images x
walked_left n k x images l r p h lt w = xor-again (has x k) (l x) ∙ ap (xor (has x k)) (brought_side n k x images l r p h lt w)

pub walked_right : (n k y : ℕ) (images : List ℕ) (l r : ℕ → Bool) → IsPerm n images → k < n → y < 2 ^ n → AreWalked n k images l r → r y ≡ right n k images y
walked_right n k y images l r p h lt w =
    let x_in = preimage_within n y images p lt in
    let back = image_preimage n y images p lt in
    ap r (sym back) ∙ w.through (preimage_of images y) x_in
    ∙ ap (λ v. xor (brought k l (preimage_of images y)) (has v k)) back
    ∙ ap (λ b. xor b (has y k)) (brought_side n k (preimage_of images y) images l r p h x_in w)
    ∙ xor_comm (side n k images (preimage_of images y)) (has y k)
