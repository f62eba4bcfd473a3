-- The gates of the synthesis are those of the written steps.
use Rattle.std.proofs.Common.{ℕ, zero, suc, ◌-◌, ◌<◌, List, refl, arith}
use Rattle.rv_perm.specs.Perm.{IsPerm}
use Rattle.rv_dbs.specs.Walk.{left, right}
use Rattle.rv_dbs.specs.Singles.{between, is_changed, KeepsAbove, singles_from, singles}
use Rattle.rv_dbs.specs.Steps.{AreControls, AreStepped}
use Rattle.rv_dbs.specs.Meaning.{IsSingles}
use Rattle.rv_dbs.proofs.Between.{left_free, right_free, changed_free, between_perm, keeps_more}
use Rattle.rv_dbs.proofs.inside.Computes.{single_flips, keeps_none, all_compute, all_flips}
use Rattle.rv_dbs.proofs.Steps.{are_walked, walked_left, walked_right}

controls : (n k : ℕ) (images : List ℕ) → IsPerm n images → k < n → AreControls n k images (left n k images) (right n k images)
unfolding between
controls n k images p h = record {
  walked = are_walked n k images p h;
  only_left = λ f g w x l. walked_left n k x images f g p h l w;
  only_right = λ f g w y l. walked_right n k y images f g p h l w;
  few_left = (single_flips n k (left n k images) p.1 h (left_free n k images p h)).few;
  few_right = (single_flips n k (right n k images) p.1 h (right_free n k images p h)).few;
  between_perm = between_perm n k images p h;
}

pub stepped : (n k : ℕ) (images : List ℕ) → IsPerm n images → k < n → KeepsAbove n k images → AreStepped n k images (singles_from n k images)
unfolding AreStepped singles_from between
stepped n zero images p h kept = (kept, refl, (single_flips n 0 (is_changed images) p.1 h (changed_free n images p kept)).few)
stepped n (suc k) images p h kept = (
  kept,
  (
    left n (suc k) images,
    right n (suc k) images,
    singles_from n k (between n (suc k) images),
    controls n (suc k) images p h,
    refl,
    stepped n k (between n (suc k) images) (between_perm n (suc k) images p h) (omega arith) (keeps_more n k images p h kept),
  ),
)

pub all_singles : (n : ℕ) (images : List ℕ) → IsPerm n images → IsSingles n images (singles n images)
all_singles n images p = record {
  stepped = stepped n (n - 1) images p (omega (arith, p.0)) (keeps_none n images);
  computes = all_compute n images p;
  flips = all_flips n images p;
}
