-- The permutation between two gates keeps their line and what was kept before.
use Rattle.std.proofs.lemmas.Grind.{common_steps}
use Rattle.rv_gate.proofs.Bits.{xor_back, xor_false, xor_around, xor_true}
use Rattle.std.proofs.Common.{◌≡◌, ◌≢◌, ℕ, suc, ◌^◌, ◌<◌, Bool, true, false, not, cond, List, length, get_or, sym, ◌∙◌, ap, inl, inr, arith}
use Rattle.std.proofs.lemmas.Bool.{cases_eq, cases_Bool}
use Rattle.std.proofs.lemmas.List.FromFn.{length-map-range_with_len, get_or-map-range_with_len}
use Rattle.std.proofs.lemmas.Nat.Bits.{same_from_bits_below}
use Rattle.std.specs.Int.{bit_at}
use Rattle.rv_gate.specs.Word.{has}
use Rattle.rv_gate.specs.Gate.{xor}
use Rattle.rv_perm.specs.Perm.{IsPerm, preimage_of}
use Rattle.rv_perm.proofs.inside.Inverse.{place_once}
use Rattle.rv_dbs.specs.Walk.{other, side, left, right}
use Rattle.rv_dbs.specs.Singles.{turned, between, is_changed, KeepsAbove}
use Rattle.rv_dbs.proofs.Pairs.{other_within, other_back, other_moves, has_other-same, has_other-other, image_within, preimage_image, side_other, left_other, right_other}

-- ---- a gate that flips bit k

-- the function of the gate doesn't depend on bit k
abbrev pub IsFree : ℕ → ℕ → (ℕ → Bool) → Type 0
IsFree n k f = (x : ℕ) → x < 2 ^ n → f (other k x) ≡ f x

turned_by : (k x : ℕ) (f : ℕ → Bool) (b : Bool) → f x ≡ b → turned k f x ≡ cond b (other k x) x
turned_by k x f b e = ap (λ t. cond t (other k x) x) e

pub turned_within : (n k x : ℕ) (f : ℕ → Bool) → k < n → x < 2 ^ n → turned k f x < 2 ^ n
turned_within n k x f h l = grind (arith, cases_Bool, turned_by, other_within)

pub turned_back : (n k x : ℕ) (f : ℕ → Bool) → IsFree n k f → x < 2 ^ n → turned k f (turned k f x) ≡ x
turned_back n k x f free l = grind (arith, cases_Bool, turned_by, other_back)

turned_once : (n k x y : ℕ) (f : ℕ → Bool) → IsFree n k f → x < 2 ^ n → y < 2 ^ n → turned k f x ≡ turned k f y → x ≡ y
turned_once n k x y f free hx hy e = sym (turned_back n k x f free hx) ∙ ap (turned k f) e ∙ turned_back n k y f free hy

pub has_turned-same : (k x : ℕ) (f : ℕ → Bool) → has (turned k f x) k ≡ xor (has x k) (f x)
has_turned-same k x f = grind (arith, cases_Bool, turned_by, has_other-same, xor_true, xor_false)

pub has_turned-other : (k x i : ℕ) (f : ℕ → Bool) → i ≢ k → has (turned k f x) i ≡ has x i
has_turned-other k x i f ne = grind (arith, cases_Bool, turned_by, has_other-other)

-- ---- the permutation between the gates

pub left_free : (n k : ℕ) (images : List ℕ) → IsPerm n images → k < n → IsFree n k (left n k images)
left_free n k images p h x l = left_other n k x images p h l

pub right_free : (n k : ℕ) (images : List ℕ) → IsPerm n images → k < n → IsFree n k (right n k images)
right_free n k images p h x l = right_other n k x images p h l

pub between_at : (n k x : ℕ) (images : List ℕ) → x < 2 ^ n
    → get_or (between n k images) x 0 ≡ turned k (right n k images) (get_or images (turned k (left n k images) x) 0)
unfolding between
between_at n k x images l = get_or-map-range_with_len _ 0 (2 ^ n) x x 0 l (omega arith)

length-between : (n k : ℕ) (images : List ℕ) → length (between n k images) ≡ 2 ^ n
unfolding between
length-between n k images = length-map-range_with_len _ 0 (2 ^ n)

pub between_perm : (n k : ℕ) (images : List ℕ) → IsPerm n images → k < n → IsPerm n (between n k images)
between_perm n k images p h =
    let len = length-between n k images in
    let l : ℕ → Bool = left n k images in
    let r : ℕ → Bool = right n k images in
    let lf = left_free n k images p h in
    let rf = right_free n k images p h in (
      p.0,
      p.1,
      len,
      (
        λ x hx.
            let small : x < 2 ^ n = omega arith in
            let y = turned_within n k x (left n k images) h small in
            let z = image_within n _ images p y in
            let w = turned_within n k _ (right n k images) h z in
            omega (arith, w, between_at n k x images small),
        λ x y lt hy e.
            let sy : y < 2 ^ n = omega arith in
            let sx : x < 2 ^ n = omega arith in
            let tx = turned_within n k x (left n k images) h sx in
            let ty = turned_within n k y (left n k images) h sy in
            let at : get_or images (turned k (left n k images) x) 0 ≡ get_or images (turned k (left n k images) y) 0 =
            turned_once n k _ _ (right n k images) rf (image_within n _ images p tx) (image_within n _ images p ty)
            (sym (between_at n k x images sx) ∙ e ∙ between_at n k y images sy) in
            let same : x ≡ y = turned_once n k x y (left n k images) lf sx sy
            (place_once images _ _ p.3 (omega (arith, p.2, tx)) (omega (arith, p.2, ty)) at) in
            omega arith,
      ),
    )

xor_on : (a b : Bool) → xor a b ≡ true → not b ≡ a
xor_on a b h = grind arith

xor_off : (a b : Bool) → xor a b ≡ false → b ≡ a
xor_off a b h = grind arith

-- the gate at the inputs brings each word to the side that its bit says
side_left : (n k x : ℕ) (images : List ℕ) → IsPerm n images → k < n → x < 2 ^ n → side n k images (turned k (left n k images) x) ≡ has x k
side_left n k x images p h l = grind (arith, cases_Bool, turned_by, side_other, xor_on, xor_off)

-- it keeps bit k
pub between_keeps : (n k x : ℕ) (images : List ℕ) → IsPerm n images → k < n → x < 2 ^ n → has (get_or (between n k images) x 0) k ≡ has x k
between_keeps n k x images p h l =
    let u : ℕ = turned k (left n k images) x in
    let u_in : turned k (left n k images) x < 2 ^ n = turned_within n k x (left n k images) h l in
    let y : ℕ = get_or images (turned k (left n k images) x) 0 in
    ap (λ v. has v k) (between_at n k x images l)
    ∙ has_turned-same k y (right n k images)
    ∙ xor_back (has y k) (side n k images (preimage_of images y))
    ∙ ap (side n k images) (preimage_image n u images p u_in)
    ∙ side_left n k x images p h l

-- and each bit that was kept
pub between_keeps_other : (n k x i : ℕ) (images : List ℕ) → IsPerm n images → k < n → x < 2 ^ n → i ≢ k
    → ((v : ℕ) → v < 2 ^ n → has (get_or images v 0) i ≡ has v i) → has (get_or (between n k images) x 0) i ≡ has x i
between_keeps_other n k x i images p h l ne kept =
    ap (λ v. has v i) (between_at n k x images l)
    ∙ has_turned-other k _ i (right n k images) ne
    ∙ kept _ (turned_within n k x (left n k images) h l)
    ∙ has_turned-other k x i (left n k images) ne

pub keeps_more : (n k : ℕ) (images : List ℕ) → IsPerm n images → suc k < n → KeepsAbove n (suc k) images → KeepsAbove n k (between n (suc k) images)
keeps_more n k images p h kept i x low high l =
    elim (cases_eq i (suc k)) [
      | inl at ↦ ap (has (get_or (between n (suc k) images) x 0)) at ∙ between_keeps n (suc k) x images p h l ∙ sym (ap (has x) at)
      | inr ne ↦ between_keeps_other n (suc k) x i images p h l ne (λ v lv. kept i v (omega arith) high lv)
    ]

-- ---- the last line

same_bit : (x y i : ℕ) → has x i ≡ has y i → bit_at x i ≡ bit_at y i
same_bit x y i e = grind arith

-- then what is left changes the last line alone
pub changed_is : (n x : ℕ) (images : List ℕ) → IsPerm n images → KeepsAbove n 0 images → x < 2 ^ n → turned 0 (is_changed images) x ≡ get_or images x 0
changed_is n x images p kept l =
    let some = p.0 in
    same_from_bits_below n _ _ (turned_within n 0 x (is_changed images) (omega (arith, p.0)) l) (image_within n x images p l)
    (λ i hi.
    same_bit _ _ i
    (elim (cases_eq i 0) [
      | inl at ↦
          ap (has (turned 0 (is_changed images) x)) at ∙ has_turned-same 0 x (is_changed images)
          ∙ xor_around (has x 0) (has (get_or images x 0) 0) ∙ sym (ap (has (get_or images x 0)) at)
      | inr ne ↦ has_turned-other 0 x i (is_changed images) ne ∙ sym (kept i x (omega arith) hi l)
    ]))

-- and does so to both words of a pair
both_or_none : (n x : ℕ) (images : List ℕ) (a b : Bool) → IsPerm n images → x < 2 ^ n → other 0 x < 2 ^ n
    → get_or images x 0 ≡ cond a (other 0 x) x → get_or images (other 0 x) 0 ≡ cond b (other 0 (other 0 x)) (other 0 x) → b ≡ a
both_or_none n x images a b h h1 h2 h3 h4 = grind (arith, common_steps, other_moves, place_once, other_back)

pub changed_free : (n : ℕ) (images : List ℕ) → IsPerm n images → KeepsAbove n 0 images → IsFree n 0 (is_changed images)
changed_free n images p kept x l =
    let o : other 0 x < 2 ^ n = other_within n 0 x (omega (arith, p.0)) l in
    both_or_none n x images (is_changed images x) (is_changed images (other 0 x)) p l o
    (sym (changed_is n x images p kept l)) (sym (changed_is n (other 0 x) images p kept o))
