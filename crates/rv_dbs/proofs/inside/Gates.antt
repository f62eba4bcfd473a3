-- What the flips of a list of cubes do: they change their line where the list has the value 1.
use Rattle.std.proofs.Common.{◌≡◌, ℕ, ◌+◌, ◌-◌, ◌%◌, ◌^◌, ◌<◌, ◌≤◌, Bool, true, false, not, cond, eqb, List, [], ◌∷◌, length, get_or, refl, sym, ◌∙◌, ap, arith, subst, length-set}
use Rattle.std.specs.Prelude.{bit_xor, All}
use Rattle.std.specs.Int.{bit_at}
use Rattle.std.proofs.lemmas.List.FromFn.{length-map-range_with_len, get_or-map-range_with_len}
use Rattle.std.proofs.lemmas.List.Elements.{All-head, All-tail}
use Rattle.std.proofs.lemmas.Nat.{xor_lt}
use Rattle.std.proofs.lemmas.Nat.Bits.{bit_at-lt, bit_at_xor, bit_at-pow_other}
use Rattle.rv_gate.specs.Word.{has, bit_of, number_of, word_of}
use Rattle.rv_gate.specs.inside.laws.WordLaws.{bit_of-word_of, number_of-lt, word_of-number_of}
use Rattle.rv_gate.specs.Gate.{holds, flip, run}
use Rattle.rv_gate.specs.declared.gate.Shape.{Shape}
use Rattle.rv_gate.proofs.inside.GateLemmas.{holds-set, flip-flip}
use Rattle.rv_gate.proofs.inside.WordLemmas.{word_of-set}
use Rattle.rv_pla.specs.Cube.{Dash, symbol, symbol_of, matches}
use Rattle.rv_pla.specs.declared.cube.Cube.{Cube}
use Rattle.rv_pla.proofs.inside.Matching.{matches-holds}
use Rattle.rv_cube.specs.Dashes.{IsDashed}
use Rattle.rv_cube.specs.Esop.{share, esop_value, IsTerm}
use Rattle.rv_cube.specs.ReedMuller.{reed_muller}
use Rattle.rv_cube.specs.Reduction.{reduced}
use Rattle.rv_cube.specs.inside.Transform.{transformed}
use Rattle.rv_cube.proofs.Dashes.{reduced_dashed}
use Rattle.rv_cube.proofs.Reduced.{is_reduced}
use Rattle.rv_cube.proofs.inside.ReedMuller.{length-transformed, reed_muller-transformed, small_transformed, set_cubes_valid, value-reed_muller}
use Rattle.rv_dbs.specs.Walk.{other}
use Rattle.rv_dbs.specs.Singles.{values_of, flips_of, single, turned}
use Rattle.rv_dbs.proofs.Pairs.{other_within, has_other-same}
use Rattle.rv_dbs.proofs.Between.{IsFree}
use Rattle.rv_dbs.proofs.inside.Free.{IsFreeTable, reed_muller_dashed, reed_muller_few}

-- ---- a line of which no cube says anything

dash_care : (care want : Bool) → symbol_of care want ≡ Dash → care ≡ false
dash_care care want h = grind arith

pub free_care : (cube : Cube) (target : ℕ) → symbol cube target ≡ Dash → has cube.care target ≡ false
free_care cube target e = dash_care (has cube.care target) (has cube.want target) e

matches-flip : (cube : Cube) (target : ℕ) (w : List Bool) → symbol cube target ≡ Dash → matches cube (flip w target) ≡ matches cube w
matches-flip cube target w e = grind (arith, matches-holds, holds-set, bit_of, free_care)

value-flip : (target : ℕ) (cubes : List Cube) (w : List Bool) → IsDashed target cubes → esop_value cubes (flip w target) ≡ esop_value cubes w
unfolding esop_value
value-flip target [] w all = refl
value-flip target (c ∷ rest) w all =
    let P : Cube → Type 0 = λ c. symbol c target ≡ Dash in
    ap (λ t. bit_xor (cond t c.outs 0) (esop_value rest (flip w target))) (matches-flip c target w (All-head P c rest all))
    ∙ ap (bit_xor (share c w)) (value-flip target rest w (All-tail P c rest all))

-- ---- one output

one_of : (n : ℕ) (c : Cube) → IsTerm n 1 c → c.outs ≡ 1
one_of n c t = let s = t.some in let l = t.is_cube.carried in omega arith

share-lt : (t : Bool) (outs : ℕ) → outs < 2 ^ 1 → cond t outs 0 < 2 ^ 1
share-lt t outs h = grind arith

value-lt : (n : ℕ) (cubes : List Cube) (w : List Bool) → All (IsTerm n 1) cubes → esop_value cubes w < 2 ^ 1
unfolding esop_value
value-lt n [] w all = omega arith
value-lt n (c ∷ rest) w all =
    xor_lt 1 (share c w) (esop_value rest w) (share-lt (matches c w) c.outs (All-head (IsTerm n 1) c rest all).is_cube.carried)
    (value-lt n rest w (All-tail (IsTerm n 1) c rest all))

-- ---- the flips

one_more : (t : Bool) (v target : ℕ) (w : List Bool) → v < 2 → target < length w
    → cond (eqb v 1) (flip (cond t (flip w target) w) target) (cond t (flip w target) w) ≡ cond (eqb (bit_xor (cond t 1 0) v) 1) (flip w target) w
one_more t v target w h h2 = grind (arith, flip-flip)

value-turned : (t : Bool) (target : ℕ) (cubes : List Cube) (w : List Bool) → IsDashed target cubes → esop_value cubes (cond t (flip w target) w) ≡ esop_value cubes w
value-turned true target cubes w all = value-flip target cubes w all
value-turned false target cubes w all = refl

length-turned : (t : Bool) (target : ℕ) (w : List Bool) → length (cond t (flip w target) w) ≡ length w
length-turned true target w = length-set w target _
length-turned false target w = refl

-- the flips change their line where an odd number of cubes match
pub run_flips : (n target : ℕ) (cubes : List Cube) (w : List Bool) → All (IsTerm n 1) cubes → IsDashed target cubes → target < length w
    → run (flips_of target cubes) w ≡ cond (eqb (esop_value cubes w) 1) (flip w target) w
unfolding esop_value
run_flips n target [] w all dashed l = refl
run_flips n target (c ∷ rest) w all dashed l =
    let t : Bool = holds c.care c.want w in
    let P : Cube → Type 0 = λ c. symbol c target ≡ Dash in
    let rest_all = All-tail (IsTerm n 1) c rest all in
    let rest_dashed = All-tail P c rest dashed in
    let v : ℕ = esop_value rest w in
    let small = value-lt n rest w rest_all in
    run_flips n target rest (cond (holds c.care c.want w) (flip w target) w) rest_all rest_dashed (let e = length-turned (holds c.care c.want w) target w in omega arith)
    ∙ ap (λ u. cond (eqb u 1) (flip (cond (holds c.care c.want w) (flip w target) w) target) (cond (holds c.care c.want w) (flip w target) w))
    (value-turned (holds c.care c.want w) target rest w rest_dashed)
    ∙ one_more (holds c.care c.want w) (esop_value rest w) target w (omega arith) l
    ∙ ap (λ b. cond (eqb (bit_xor (cond b 1 0) (esop_value rest w)) 1) (flip w target) w) (sym (matches-holds c w))
    ∙ ap (λ o. cond (eqb (bit_xor (cond (matches c w) o 0) (esop_value rest w)) 1) (flip w target) w) (sym (one_of n c (All-head (IsTerm n 1) c rest all)))

-- ---- the flips of a function

-- the gates take each word to what g makes of its number
abbrev pub Does : ℕ → List Shape → (ℕ → ℕ) → Type 0
Does n gates g = (word : List Bool) → length word ≡ n → run gates word ≡ word_of n (g (number_of word))

flip-word_of : (n k x : ℕ) → k < n → flip (word_of n x) (n - 1 - k) ≡ word_of n (other k x)
flip-word_of n k x h =
    let bit : bit_of (word_of n x) (n - 1 - k) ≡ has x k =
    bit_of-word_of n x (n - 1 - k) (omega arith) ∙ (let e : n - 1 - (n - 1 - k) ≡ k = omega arith in ap (has x) e) in
    sym
    (word_of-set n x (other k x) (n - 1 - k) k (not (bit_of (word_of n x) (n - 1 - k))) (omega arith) (has_other-same k x ∙ sym (ap not bit))
    (λ i l ne. let small = bit_at-lt x i in bit_at_xor x (2 ^ k) i ∙ ap (λ b. (bit_at x i + b) % 2) (bit_at-pow_other k i ne) ∙ (omega arith)))

-- what is known of the list of such a function
pub record IsList (n k : ℕ) (f : ℕ → Bool) (cubes : List Cube) : Type 0 where
  pub terms : All (IsTerm n 1) cubes
  pub dashed : IsDashed (n - 1 - k) cubes
  pub value : (w : List Bool) → length w ≡ n → esop_value cubes w ≡ cond (f (number_of w)) 1 0
  pub few : length cubes ≤ 2 ^ (n - 1)

small_value : (b : Bool) → cond b 1 0 < 2 ^ 1
small_value b = grind arith

pub value_at : (n : ℕ) (f : ℕ → Bool) (x d : ℕ) → x < 2 ^ n → get_or (values_of n f) x d ≡ cond (f x) 1 0
value_at n f x d l = get_or-map-range_with_len (λ v. cond {A = ℕ} (f v) 1 0) 0 (2 ^ n) x x d l (omega arith)

pub length-values : (n : ℕ) (f : ℕ → Bool) → length (values_of n f) ≡ 2 ^ n
length-values n f = length-map-range_with_len (λ v. cond {A = ℕ} (f v) 1 0) 0 (2 ^ n)

pub small_values : (n : ℕ) (f : ℕ → Bool) → All (λ y. y < 2 ^ 1) (values_of n f)
small_values n f i d l = let e = value_at n f i d (let s = length-values n f in omega arith) in let s = small_value (f i) in omega arith

pub list_is : (n k : ℕ) (f : ℕ → Bool) → k < n → IsFree n k f → IsList n k f (reduced n (reed_muller n (values_of n f)))
list_is n k f h free =
    let t : List ℕ = values_of n f in
    let len = length-values n f in
    let table_free : IsFreeTable n k (values_of n f) = λ x l.
    value_at n f (other k x) 0 (other_within n k x h l) ∙ ap (λ b. cond {A = ℕ} b 1 0) (free x l) ∙ sym (value_at n f x 0 l) in
    let lt = length-transformed n (values_of n f) len in
    let Q : List Cube → Type 0 = All (IsTerm n 1) in
    let terms = subst Q (reed_muller-transformed n (values_of n f) len)
    (set_cubes_valid n 1 (transformed n (values_of n f)) (2 ^ n) (omega arith) (small_transformed n 1 (values_of n f) len (small_values n f))) in
    let r = is_reduced n 1 (reed_muller n (values_of n f)) (reduced n (reed_muller n (values_of n f))) refl in
    record {
      terms = r.valid terms;
      dashed = reduced_dashed (n - 1 - k) n (reed_muller n (values_of n f)) (reed_muller_dashed n k (values_of n f) h len table_free);
      value = λ w l.
          r.value_kept w l ∙ value-reed_muller n (values_of n f) w len l
          ∙ value_at n f (number_of w) 0 (let s = number_of-lt w in let e : 2 ^ length w ≡ 2 ^ n = ap (λ m. 2 ^ m) l in omega arith);
      few = let a = r.no_longer in let b = reed_muller_few n k (values_of n f) h len table_free in omega arith;
    }

bit_back : (b : Bool) → eqb (cond b 1 0) 1 ≡ b
bit_back b = grind arith

turned_word : (n k x : ℕ) (b : Bool) → k < n → cond b (flip (word_of n x) (n - 1 - k)) (word_of n x) ≡ word_of n (cond b (other k x) x)
turned_word n k x true h = flip-word_of n k x h
turned_word n k x false h = refl

pub single_does : (n k : ℕ) (f : ℕ → Bool) → k < n → IsFree n k f → Does n (single n k f) (turned k f)
unfolding single
single_does n k f h free w len =
    let l = list_is n k f h free in
    let cubes : List Cube = reduced n (reed_muller n (values_of n f)) in
    let is : w ≡ word_of n (number_of w) = sym (word_of-number_of w) ∙ ap (λ m. word_of m (number_of w)) len in
    run_flips n (n - 1 - k) (reduced n (reed_muller n (values_of n f))) w l.terms l.dashed (omega arith)
    ∙ ap (λ v. cond (eqb v 1) (flip w (n - 1 - k)) w) (l.value w len)
    ∙ ap (λ b. cond b (flip w (n - 1 - k)) w) (bit_back (f (number_of w)))
    ∙ ap (λ u. cond (f (number_of w)) (flip u (n - 1 - k)) u) is
    ∙ turned_word n k (number_of w) (f (number_of w)) h
