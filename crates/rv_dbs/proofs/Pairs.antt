-- The pairs of a permutation, and the sides of its words.
use Rattle.std.proofs.Common.{◌≡◌, ◌≢◌, ℕ, ◌^◌, ◌<◌, Bool, not, List, refl, get_or, sym, ◌∙◌, ap, arith, eq-eqb, ne_eqb}
use Rattle.std.specs.Prelude.{bit_xor}
use Rattle.std.specs.Int.{bit_at}
use Rattle.std.specs.Int.Bits.{xor_assoc, xor_self, xor_zero_r}
use Rattle.std.proofs.lemmas.Bool.{cases_eq}
use Rattle.std.proofs.lemmas.Nat.{pow_below, xor_lt}
use Rattle.std.proofs.lemmas.Nat.Bits.{bit_at-lt, bit_at_xor, bit_at-pow_same, bit_at-pow_other}
use Rattle.rv_gate.specs.Word.{has}
use Rattle.rv_gate.specs.Gate.{xor}
use Rattle.rv_perm.specs.Perm.{IsPerm, preimage_of}
use Rattle.rv_perm.proofs.inside.Inverse.{onto, preimage_of-is}
use Rattle.rv_dbs.specs.Walk.{other, next, side, left, right}
use Rattle.rv_dbs.proofs.Walks.{Walks, side_first, side_second}

-- ---- the other word of a pair

pub other_within : (n k x : ℕ) → k < n → x < 2 ^ n → other k x < 2 ^ n
other_within n k x h lt = xor_lt n x (2 ^ k) lt (pow_below k n h)

pub other_back : (k x : ℕ) → other k (other k x) ≡ x
other_back k x = xor_assoc x (2 ^ k) (2 ^ k) ∙ ap (bit_xor x) (xor_self (2 ^ k)) ∙ xor_zero_r x

pub has_other-same : (k x : ℕ) → has (other k x) k ≡ not (has x k)
has_other-same k x = grind (arith, bit_at, bit_at_xor, bit_at-pow_same, cases_eq, ne_eqb, eq-eqb, bit_at-lt)

pub has_other-other : (k x i : ℕ) → i ≢ k → has (other k x) i ≡ has x i
has_other-other k x i ne = grind (arith, bit_at-lt, bit_at_xor, bit_at, bit_at-pow_other)

not_same : (b : Bool) → b ≢ not b
not_same b = grind arith

pub other_moves : (k x : ℕ) → other k x ≢ x
other_moves k x e = not_same (has x k) (ap (λ v. has v k) (sym e) ∙ has_other-same k x)

-- ---- images and preimages

pub image_within : (n x : ℕ) (images : List ℕ) → IsPerm n images → x < 2 ^ n → get_or images x 0 < 2 ^ n
image_within n x images p h = let b = p.3.0 x (omega (arith, p.2)) in omega (arith, p.2)

pub preimage_within : (n y : ℕ) (images : List ℕ) → IsPerm n images → y < 2 ^ n → preimage_of images y < 2 ^ n
preimage_within n y images p h =
    let o = onto n images y p h in
    let e = preimage_of-is images o.0 y p.3.1 (omega (arith, p.2, o.1)) o.2 in
    omega (arith, e, o.1)

pub image_preimage : (n y : ℕ) (images : List ℕ) → IsPerm n images → y < 2 ^ n → get_or images (preimage_of images y) 0 ≡ y
image_preimage n y images p h =
    let o = onto n images y p h in
    ap (λ x. get_or images x 0) (preimage_of-is images o.0 y p.3.1 (omega (arith, p.2, o.1)) o.2) ∙ o.2

pub preimage_image : (n x : ℕ) (images : List ℕ) → IsPerm n images → x < 2 ^ n → preimage_of images (get_or images x 0) ≡ x
preimage_image n x images p h = preimage_of-is images x (get_or images x 0) p.3.1 (omega (arith, p.2)) refl

-- ---- the walks

-- the word that goes to the other word of the image's pair
unfoldable pub across : ℕ → List ℕ → ℕ → ℕ
across k images x = preimage_of images (other k (get_or images x 0))

pub walks : (n k : ℕ) (images : List ℕ) → IsPerm n images → k < n → Walks (2 ^ n) (other k) (across k images)
unfolding across
walks n k images p h = record {
  first = record {
    within = λ x l. other_within n k x h l;
    back = λ x l. other_back k x;
    moves = λ x l. other_moves k x;
  };
  second = record {
    within = λ x l. preimage_within n _ images p (other_within n k _ h (image_within n x images p l));
    back = λ x l.
        ap (λ y. preimage_of images (other k y)) (image_preimage n _ images p (other_within n k _ h (image_within n x images p l)))
        ∙ ap (preimage_of images) (other_back k (get_or images x 0))
        ∙ preimage_image n x images p l;
    moves = λ x l e.
        other_moves k (get_or images x 0)
        (sym (image_preimage n _ images p (other_within n k _ h (image_within n x images p l))) ∙ ap (λ v. get_or images v 0) e);
  };
}

-- the two words of a pair are on different sides
pub side_other : (n k x : ℕ) (images : List ℕ) → IsPerm n images → k < n → x < 2 ^ n → side n k images (other k x) ≡ not (side n k images x)
unfolding side next across
side_other n k x images p h l = side_first (2 ^ n) (other k) (across k images) x (walks n k images p h) l

-- so are the words that go to the two words of a pair
pub side_across : (n k y : ℕ) (images : List ℕ) → IsPerm n images → k < n → y < 2 ^ n
    → side n k images (preimage_of images (other k y)) ≡ not (side n k images (preimage_of images y))
unfolding side next across
side_across n k y images p h l =
    ap (λ v. side n k images (preimage_of images (other k v))) (sym (image_preimage n y images p l))
    ∙ side_second (2 ^ n) (other k) (across k images) (preimage_of images y) (walks n k images p h) (preimage_within n y images p l)

xor-nots : (a b : Bool) → xor (not a) (not b) ≡ xor a b
xor-nots a b = grind arith

-- ---- the bits of the pairs

pub left_other : (n k x : ℕ) (images : List ℕ) → IsPerm n images → k < n → x < 2 ^ n → left n k images (other k x) ≡ left n k images x
left_other n k x images p h l = grind (arith, has_other-same, side_other, xor-nots)

pub right_other : (n k y : ℕ) (images : List ℕ) → IsPerm n images → k < n → y < 2 ^ n → right n k images (other k y) ≡ right n k images y
right_other n k y images p h l = grind (arith, preimage_of, has_other-same, side_across, xor-nots)
