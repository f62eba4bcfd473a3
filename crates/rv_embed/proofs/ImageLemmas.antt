-- The images of an embedding.
use Rattle.std.proofs.Common.{◌≡◌, ℕ, ◌+◌, ◌-◌, ◌*◌, ◌^◌, ◌<◌, ◌≤◌, List, length, get_or, sym, ◌∙◌, ap, inl, inr, arith, ext_get_or}
use Rattle.std.specs.Prelude.{All}
use Rattle.std.proofs.lemmas.Bool.{cases_order}
use Rattle.std.proofs.lemmas.List.{get_or_append_left}
use Rattle.std.proofs.lemmas.List.FromFn.{length-map-range_with_len, get_or-map-range_with_len}
use Rattle.std.proofs.lemmas.Nat.{pow-add, pow_pos, mul-add-lt, same_from_place}
use Rattle.rv_perm.specs.Perm.{IsEachOnce, preimage_of}
use Rattle.rv_perm.proofs.inside.Inverse.{stands_once, preimage_of-is}
use Rattle.rv_embed.specs.Classes.{largest_class, rank}
use Rattle.rv_embed.specs.Embedding.{least_power, completed, first_inputs, first_outputs, images_between, embedded_images}
use Rattle.rv_embed.proofs.inside.ClassLemmas.{rank-lt, rank-increases}
use Rattle.rv_embed.proofs.LineLemmas.{least_power-enough}
use Rattle.rv_embed.proofs.CompleteLemmas.{IsApart, IsComplete, completed-is}
use Rattle.rv_embed.proofs.TableLemmas.{pow_le}

-- the parts of a power
parts : (a n : ℕ) → a ≤ n → 2 ^ (n - a) * 2 ^ a ≡ 2 ^ n
parts a n h = let e : (n - a) + a ≡ n = omega arith in sym (pow-add 2 (n - a) a) ∙ ap (λ k. 2 ^ k) e

-- ---- the inputs

pub get_or-first_inputs : (n i x : ℕ) → x < 2 ^ i → get_or (first_inputs n i) x 0 ≡ x * 2 ^ (n - i)
get_or-first_inputs n i x h = get_or-map-range_with_len (λ x. x * 2 ^ (n - i)) 0 (2 ^ i) x x 0 h (omega arith)

length-first_inputs : (n i : ℕ) → length (first_inputs n i) ≡ 2 ^ i
length-first_inputs n i = length-map-range_with_len (λ x. x * 2 ^ (n - i)) 0 (2 ^ i)

pub first_input-lt : (n i x : ℕ) → i ≤ n → x < 2 ^ i → x * 2 ^ (n - i) < 2 ^ n
first_input-lt n i x h l =
    let lt = mul-add-lt x (2 ^ (n - i)) 0 (2 ^ i) l (pow_pos (n - i)) in
    let e = parts i n h in
    omega arith

pub apart_inputs : (n i : ℕ) → i ≤ n → IsApart (first_inputs n i) (2 ^ n)
apart_inputs n i h = record {
  below = λ k l. let k_in : k < 2 ^ i = omega (arith, length-first_inputs n i) in rw (get_or-first_inputs n i k k_in) (first_input-lt n i k h k_in);
  apart = λ j k l in_k e.
      let k_in : k < 2 ^ i = omega (arith, length-first_inputs n i) in
      let j_in : j < 2 ^ i = omega arith in
      let same : j * 2 ^ (n - i) + 0 ≡ k * 2 ^ (n - i) + 0 = ap (λ v. v + 0) (sym (get_or-first_inputs n i j j_in) ∙ e ∙ get_or-first_inputs n i k k_in) in
      let places = same_from_place j 0 k 0 (2 ^ (n - i)) (pow_pos (n - i)) (pow_pos (n - i)) same in
      omega (arith, places.0);
}

-- ---- the outputs

pub get_or-first_outputs : (n o : ℕ) (outputs : List ℕ) (x : ℕ) → x < length outputs → get_or (first_outputs n o outputs) x 0 ≡ get_or outputs x 0 * 2 ^ (n - o) + rank outputs x
get_or-first_outputs n o outputs x h = get_or-map-range_with_len (λ x. get_or outputs x 0 * 2 ^ (n - o) + rank outputs x) 0 (length outputs) x x 0 h (omega arith)

length-first_outputs : (n o : ℕ) (outputs : List ℕ) → length (first_outputs n o outputs) ≡ length outputs
length-first_outputs n o outputs = length-map-range_with_len (λ x. get_or outputs x 0 * 2 ^ (n - o) + rank outputs x) 0 (length outputs)

-- a rank has room in the garbage
pub rank_room : (n o : ℕ) (outputs : List ℕ) (x : ℕ) → o + least_power (largest_class outputs) ≤ n → x < length outputs → rank outputs x < 2 ^ (n - o)
rank_room n o outputs x room h =
    let lt = rank-lt outputs x h in
    let enough = least_power-enough (largest_class outputs) in
    let more = pow_le (least_power (largest_class outputs)) (n - o) (omega arith) in
    omega arith

pub first_output-lt : (n o : ℕ) (outputs : List ℕ) (x : ℕ) → o + least_power (largest_class outputs) ≤ n → All (λ y. y < 2 ^ o) outputs → x < length outputs
    → get_or outputs x 0 * 2 ^ (n - o) + rank outputs x < 2 ^ n
first_output-lt n o outputs x room small h =
    let lt = mul-add-lt (get_or outputs x 0) (2 ^ (n - o)) (rank outputs x) (2 ^ o) (small x 0 h) (rank_room n o outputs x room h) in
    let e = parts o n (omega arith) in
    omega arith

pub apart_outputs : (n o : ℕ) (outputs : List ℕ) → o + least_power (largest_class outputs) ≤ n → All (λ y. y < 2 ^ o) outputs → IsApart (first_outputs n o outputs) (2 ^ n)
apart_outputs n o outputs room small = record {
  below = λ k l.
      let k_in : k < length outputs = omega (arith, length-first_outputs n o outputs) in
      rw (get_or-first_outputs n o outputs k k_in) (first_output-lt n o outputs k room small k_in);
  apart = λ j k l in_k e.
      let k_in : k < length outputs = omega (arith, length-first_outputs n o outputs) in
      let j_in : j < length outputs = omega arith in
      let places = same_from_place (get_or outputs j 0) (rank outputs j) (get_or outputs k 0) (rank outputs k) (2 ^ (n - o))
      (rank_room n o outputs j room j_in) (rank_room n o outputs k room k_in)
      (sym (get_or-first_outputs n o outputs j j_in) ∙ e ∙ get_or-first_outputs n o outputs k k_in) in
      let rises = rank-increases outputs j k l k_in places.0 in
      omega (arith, places.1);
}

-- ---- images from two lists

length-images_between : (count : ℕ) (from to : List ℕ) → length (images_between count from to) ≡ count
unfolding images_between
length-images_between count from to = length-map-range_with_len (λ z. get_or to (preimage_of from z) 0) 0 count

get_or-images_between : (count : ℕ) (from to : List ℕ) (z : ℕ) → z < count → get_or (images_between count from to) z 0 ≡ get_or to (preimage_of from z) 0
unfolding images_between
get_or-images_between count from to z h = get_or-map-range_with_len (λ z. get_or to (preimage_of from z) 0) 0 count z z 0 h (omega arith)

-- the image of the number at a place is the number at this place
pub image_at : (count : ℕ) (from to : List ℕ) (place : ℕ) → length from ≡ count → IsEachOnce from → place < count → get_or (images_between count from to) (get_or from place 0) 0 ≡ get_or to place 0
image_at count from to place len once h = grind (arith, get_or-images_between, preimage_of-is)

-- images that were written, one after another
pub images_written : (count : ℕ) (from to images : List ℕ) → length from ≡ count → IsEachOnce from → length images ≡ count
    → ((k : ℕ) → k < count → get_or images (get_or from k 0) 0 ≡ get_or to k 0) → images ≡ images_between count from to
images_written count from to images len once count_of written =
    ext_get_or 0 images (images_between count from to) (count_of ∙ sym (length-images_between count from to))
    (λ z h.
    let place = stands_once from z once (omega arith) in
    let place_in : place.0 < count = omega (arith, place.1) in
    ap (λ v. get_or images v 0) (sym place.2)
    ∙ written place.0 place_in
    ∙ sym (image_at count from to place.0 len once place_in)
    ∙ ap (λ v. get_or (images_between count from to) v 0) place.2)

once_between : (count : ℕ) (from to : List ℕ) → length from ≡ count → length to ≡ count → IsEachOnce from → IsEachOnce to → IsEachOnce (images_between count from to)
once_between count from to from_len to_len a b =
    let images : List ℕ = images_between count from to in
    let len : length images ≡ count = length-images_between count from to in
    let at : (z : ℕ) (h : z < length images) → (k : ℕ) × (k < count) × (get_or from k 0 ≡ z) × (get_or images z 0 ≡ get_or to k 0) = λ z h.
    let place = stands_once from z a (omega arith) in
    let place_in : place.0 < count = omega (arith, place.1) in
    (place.0, place_in, place.2, ap (λ v. get_or images v 0) (sym place.2) ∙ image_at count from to place.0 from_len a place_in) in (
      λ z h.
          let k = at z h in
          let k_in : k.0 < length to = omega (arith, k.1) in
          let b0 = b.0 k.0 k_in in
          omega (arith, k.3),
      λ y z l h e.
          let j = at y (omega arith) in
          let k = at z h in
          let same : get_or to j.0 0 ≡ get_or to k.0 0 = sym j.3 ∙ e ∙ k.3 in
          elim (cases_order j.0 k.0) [
            | inl one ↦ (let s : y ≡ z = sym j.2 ∙ ap (λ v. get_or from v 0) one ∙ k.2 in omega arith)
            | inr other ↦
                elim other [
                  | inl before ↦ b.1 j.0 k.0 before (omega (arith, k.1)) same
                  | inr later ↦ b.1 k.0 j.0 later (omega (arith, j.1)) (sym same)
                ]
          ],
    )

-- ---- the embedding

-- the lists from and to which the images go
pub record Complete (n i o : ℕ) (outputs : List ℕ) : Type 0 where
  pub from : IsComplete (completed (2 ^ n) (first_inputs n i)) (2 ^ n)
  pub to : IsComplete (completed (2 ^ n) (first_outputs n o outputs)) (2 ^ n)

pub complete : (n i o : ℕ) (outputs : List ℕ) → i ≤ n → o + least_power (largest_class outputs) ≤ n → All (λ y. y < 2 ^ o) outputs → Complete n i o outputs
complete n i o outputs inputs room small = record {
  from = completed-is (2 ^ n) (first_inputs n i) (apart_inputs n i inputs);
  to = completed-is (2 ^ n) (first_outputs n o outputs) (apart_outputs n o outputs room small);
}

pub record ArePermuted (n : ℕ) (images : List ℕ) : Type 0 where
  pub len : length images ≡ 2 ^ n
  pub once : IsEachOnce images

pub embedded_images-permute : (n i o : ℕ) (outputs : List ℕ) → i ≤ n → o + least_power (largest_class outputs) ≤ n → All (λ y. y < 2 ^ o) outputs → ArePermuted n (embedded_images n i o outputs)
embedded_images-permute n i o outputs inputs room small =
    let c = complete n i o outputs inputs room small in
    record {
      len = length-images_between (2 ^ n) (completed (2 ^ n) (first_inputs n i)) (completed (2 ^ n) (first_outputs n o outputs));
      once = once_between (2 ^ n) (completed (2 ^ n) (first_inputs n i)) (completed (2 ^ n) (first_outputs n o outputs)) c.from.len c.to.len c.from.once c.to.once;
    }

-- an input word followed by zeros goes to its output word followed by its rank
pub embedded_image : (n i o : ℕ) (outputs : List ℕ) (x : ℕ) → i ≤ n → o + least_power (largest_class outputs) ≤ n → All (λ y. y < 2 ^ o) outputs → length outputs ≡ 2 ^ i → x < 2 ^ i
    → get_or (embedded_images n i o outputs) (x * 2 ^ (n - i)) 0 ≡ get_or outputs x 0 * 2 ^ (n - o) + rank outputs x
embedded_image n i o outputs x inputs room small len h =
    let c = complete n i o outputs inputs room small in
    let from : List ℕ = completed (2 ^ n) (first_inputs n i) in
    let to : List ℕ = completed (2 ^ n) (first_outputs n o outputs) in
    let x_in : x < length outputs = omega arith in
    let from_at : get_or from x 0 ≡ x * 2 ^ (n - i) =
    get_or_append_left (first_inputs n i) _ 0 x (omega (arith, length-first_inputs n i)) ∙ get_or-first_inputs n i x h in
    let to_at : get_or to x 0 ≡ get_or outputs x 0 * 2 ^ (n - o) + rank outputs x =
    get_or_append_left (first_outputs n o outputs) _ 0 x (omega (arith, length-first_outputs n o outputs)) ∙ get_or-first_outputs n o outputs x x_in in
    let most = pow_le i n inputs in
    ap (λ v. get_or (embedded_images n i o outputs) v 0) (sym from_at)
    ∙ image_at (2 ^ n) from to x c.from.len c.from.once (omega arith)
    ∙ to_at
