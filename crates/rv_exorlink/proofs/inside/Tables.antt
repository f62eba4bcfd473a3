-- A table is written by two of its halves and their exclusive or.
use Rattle.std.proofs.Common.{◌≡◌, ◌≢◌, ◌&&◌, ℕ, zero, suc, ◌+◌, ◌-◌, ◌*◌, ◌/◌, ◌^◌, ◌<◌, Bool, true, false, not, cond, List, [], ◌∷◌, ◌++◌, length, get_or, take, drop, refl, sym, ◌∙◌, ap, subst, arith, length-append, length-take, length-drop}
use Rattle.std.specs.Prelude.{bit_xor, All}
use Rattle.std.specs.Int.Bits.{xor_zero_l, xor_zero_r}
use Rattle.std.proofs.Math.Seq.{drop-cons, drop-length}
use Rattle.std.proofs.Math.Nat.{pow-suc}
use Rattle.std.proofs.lemmas.Nat.{xor_lt, xor_comm, pow_pos}
use Rattle.std.proofs.lemmas.List.{get_or-take, get_or-drop, take_all}
use Rattle.std.proofs.lemmas.List.Elements.{All-take, All-drop, All-get_or, All-from_get_or, All-push, All-nil}
use Rattle.rv_gate.specs.Word.{has, bit_of, number_of}
use Rattle.rv_gate.specs.Gate.{all_below, same}
use Rattle.rv_gate.specs.inside.laws.WordLaws.{number_of-lt}
use Rattle.rv_gate.proofs.AllBelow.{all_below-same}
use Rattle.rv_gate.proofs.LineSets.{has-above, has-none}
use Rattle.rv_pla.specs.Cube.{Symbol, One, Zero, symbol_of, symbol, agrees, matches, IsCube}
use Rattle.rv_pla.specs.declared.cube.Cube.{Cube}
use Rattle.rv_cube.specs.Distance.{with_symbol, cares}
use Rattle.rv_cube.specs.Esop.{esop_value, IsTerm}
use Rattle.rv_cube.proofs.Symbols.{but, all_below-split, symbol_with-same, symbol_with-other, matches-same}
use Rattle.rv_exorlink.specs.Tables.{AreSums, value_from, Fills}
use Rattle.rv_exorlink.proofs.Values.{xor_middle, value-push}
use Rattle.rv_cube.proofs.inside.Merges.{choice-lt, with_cube}
use Rattle.rv_cube.proofs.Terms.{share-none}

-- ---- a literal more

literal : (cube : Cube) (p : ℕ) (s : Symbol) (word : List Bool) → cube.care < 2 ^ p → p < length word
    → matches (with_symbol cube p s) word ≡ (agrees s (bit_of word p) && matches cube word)
unfolding matches
literal cube p s word free h =
    let n : ℕ = length word in
    let t : Cube = with_symbol cube p s in
    let test : Cube → ℕ → Bool = λ c i. agrees (symbol c i) (bit_of word i) in
    let rest : Bool = all_below (but (test cube) p) n in
    let st : all_below (test t) n ≡ (test t p && rest) =
    all_below-split (test t) (test cube) p n h
    (λ i l ne. ap (λ k. agrees k (bit_of word i)) (symbol_with-other cube p i s ne)) in
    let sc : all_below (test cube) n ≡ (test cube p && rest) =
    all_below-split (test cube) (test cube) p n h (λ i l ne. refl) in
    let dash : test cube p ≡ true =
    ap (λ b. agrees (symbol_of b (has cube.want p)) (bit_of word p)) (has-above cube.care p p free (omega arith)) in
    let all : all_below (test cube) n ≡ rest = sc ∙ ap (λ x. x && rest) dash in
    st ∙ ap (λ k. agrees k (bit_of word p) && rest) (symbol_with-same cube p s)
    ∙ ap (λ x. agrees s (bit_of word p) && x) (sym all)

-- ---- the halves

-- as the code takes them
abbrev pub lower_of : List ℕ → List ℕ
lower_of values = take (length values / 2) values

abbrev pub upper_of : List ℕ → List ℕ
upper_of values = take (length values - length values / 2) (drop (length values / 2) values)

-- the halves of a table
pub record Halves (k : ℕ) (values lower upper : List ℕ) : Type 0 where
  pub count : length values ≡ 2 ^ suc k
  pub lower_is : lower ≡ take (2 ^ k) values
  pub upper_is : upper ≡ drop (2 ^ k) values

lower_count : (k : ℕ) (values lower upper : List ℕ) → Halves k values lower upper → length lower ≡ 2 ^ k
lower_count k values lower upper h = let p = pow-suc 2 k in let c =
    h.count in ap length h.lower_is ∙ omega (arith, length-take (2 ^ k) values)

upper_count : (k : ℕ) (values lower upper : List ℕ) → Halves k values lower upper → length upper ≡ 2 ^ k
upper_count k values lower upper h = let p = pow-suc 2 k in let c =
    h.count in ap length h.upper_is ∙ omega (arith, length-drop (2 ^ k) values)

half_value : (k : ℕ) (values lower upper : List ℕ) (b : Bool) (rest : List Bool) → Halves k values lower upper
    → length rest ≡ k
    → get_or values (number_of (b ∷ rest)) 0
    ≡ cond b (get_or upper (number_of rest) 0) (get_or lower (number_of rest) 0)
unfolding number_of
half_value k values lower upper true rest h len =
    let e : 2 ^ length rest + number_of rest ≡ 2 ^ k + number_of rest = ap (λ n. 2 ^ n + number_of rest) len in
    ap (λ i. get_or values i 0) e
    ∙ sym (ap (λ l. get_or l (number_of rest) 0) h.upper_is ∙ get_or-drop (2 ^ k) values (number_of rest) 0)
half_value k values lower upper false rest h len =
    let lt : number_of rest < 2 ^ k = let a = number_of-lt rest in let e : 2 ^ length rest ≡ 2 ^ k =
    ap (λ n. 2 ^ n) len in omega arith in
    let z : 0 + number_of rest ≡ number_of rest = omega arith in
    ap (λ i. get_or values i 0) z
    ∙ sym (ap (λ l. get_or l (number_of rest) 0) h.lower_is ∙ get_or-take (2 ^ k) values (number_of rest) 0 lt)

-- what is known where a table is parted at an input
pub record Parts (n from : ℕ) (prefix : Cube) (values lower upper sums : List ℕ) : Type 0 where
  pub within : from < n
  pub free : prefix.care < 2 ^ from
  pub halves : Halves (n - (from + 1)) values lower upper
  pub are_sums : AreSums lower upper sums

-- a table at a word, by the half of its bit
pub part_at : (n from : ℕ) (values lower upper : List ℕ) (word : List Bool) → from < n
    → Halves (n - (from + 1)) values lower upper → length word ≡ n
    → value_from values from word
    ≡ cond (bit_of word from) (value_from upper (from + 1) word) (value_from lower (from + 1) word)
part_at n from values lower upper word w h len =
    let q : suc from ≡ from + 1 = omega arith in
    let count : length (drop (from + 1) word) ≡ n - (from + 1) = omega (arith, length-drop (from + 1) word) in
    ap (λ l. get_or values (number_of l) 0)
    (drop-cons word from false (omega arith) ∙ ap (λ k. bit_of word from ∷ drop k word) q)
    ∙ half_value (n - (from + 1)) values lower upper (bit_of word from) (drop (from + 1) word) h count

part_value : (n from : ℕ) (prefix : Cube) (values lower upper sums : List ℕ) (word : List Bool)
    → Parts n from prefix values lower upper sums → length word ≡ n
    → value_from values from word
    ≡ cond (bit_of word from) (value_from upper (from + 1) word) (value_from lower (from + 1) word)
part_value n from prefix values lower upper sums word h len =
    part_at n from values lower upper word h.within h.halves len

sum_value : (n from : ℕ) (prefix : Cube) (values lower upper sums : List ℕ) (word : List Bool)
    → Parts n from prefix values lower upper sums → length word ≡ n
    → value_from sums (from + 1) word ≡ bit_xor (value_from lower (from + 1) word) (value_from upper (from + 1) word)
sum_value n from prefix values lower upper sums word h len =
    let w = h.within in
    let rest : List Bool = drop (from + 1) word in
    let count : length (drop (from + 1) word) ≡ n - (from + 1) = omega (arith, length-drop (from + 1) word) in
    let a = number_of-lt (drop (from + 1) word) in
    let e : 2 ^ length (drop (from + 1) word) ≡ 2 ^ (n - (from + 1)) = ap (λ m. 2 ^ m) count in
    let u = upper_count (n - (from + 1)) values lower upper h.halves in
    h.are_sums.value (number_of (drop (from + 1) word)) (omega arith)

-- ---- the three ways, at a word

by_halves : (m bit : Bool) (low high v : ℕ)
    → bit_xor (cond (bit && m) high 0) (bit_xor (cond (not bit && m) low 0) v)
    ≡ bit_xor (cond m (cond bit high low) 0) v
by_halves true true low high v = ap (bit_xor high) (xor_zero_l v)
by_halves true false low high v = xor_zero_l _
by_halves false true low high v = xor_zero_l _
by_halves false false low high v = xor_zero_l _

by_lower : (m bit : Bool) (low high v : ℕ)
    → bit_xor (cond (bit && m) (bit_xor low high) 0) (bit_xor (cond m low 0) v)
    ≡ bit_xor (cond m (cond bit high low) 0) v
by_lower true true low high v = ap (λ s. bit_xor s (bit_xor low v)) (xor_comm low high) ∙ xor_middle high low v
by_lower true false low high v = xor_zero_l _
by_lower false true low high v = xor_zero_l _
by_lower false false low high v = xor_zero_l _

by_upper : (m bit : Bool) (low high v : ℕ)
    → bit_xor (cond (not bit && m) (bit_xor low high) 0) (bit_xor (cond m high 0) v)
    ≡ bit_xor (cond m (cond bit high low) 0) v
by_upper true true low high v = xor_zero_l _
by_upper true false low high v = xor_middle low high v
by_upper false true low high v = xor_zero_l _
by_upper false false low high v = xor_zero_l _

-- ---- what stays small

lower_small : (k outputs : ℕ) (values lower upper : List ℕ) → Halves k values lower upper
    → All (λ x. x < 2 ^ outputs) values → All (λ x. x < 2 ^ outputs) lower
lower_small k outputs values lower upper h all =
    let P : List ℕ → Type 0 = λ l. All (λ x. x < 2 ^ outputs) l in
    subst P (sym h.lower_is) (All-take (λ x. x < 2 ^ outputs) (2 ^ k) values all)

upper_small : (k outputs : ℕ) (values lower upper : List ℕ) → Halves k values lower upper
    → All (λ x. x < 2 ^ outputs) values → All (λ x. x < 2 ^ outputs) upper
upper_small k outputs values lower upper h all =
    let P : List ℕ → Type 0 = λ l. All (λ x. x < 2 ^ outputs) l in
    subst P (sym h.upper_is) (All-drop (λ x. x < 2 ^ outputs) (2 ^ k) values all)

sums_small : (outputs : ℕ) (xs ys sums : List ℕ) → length xs ≡ length ys → AreSums xs ys sums
    → All (λ x. x < 2 ^ outputs) xs → All (λ x. x < 2 ^ outputs) ys
    → All (λ x. x < 2 ^ outputs) sums
sums_small outputs xs ys sums same h a b =
    let P : ℕ → Type 0 = λ x. x < 2 ^ outputs in
    All-from_get_or P sums 0 (λ i l.
    let m = h.as_many in
    let ix : i < length xs = omega arith in
    let iy : i < length ys = omega arith in
    let px : get_or xs i 0 < 2 ^ outputs = All-get_or P xs i 0 ix a in
    let py : get_or ys i 0 < 2 ^ outputs = All-get_or P ys i 0 iy b in
    subst P (sym (h.value i iy)) (xor_lt outputs (get_or xs i 0) (get_or ys i 0) px py))

-- ---- the three ways

counts : (k : ℕ) (values lower upper sums : List ℕ) → Halves k values lower upper → AreSums lower upper sums
    → (length lower + length upper ≡ length values) × (length sums ≡ length upper) × (length lower ≡ length upper)
counts k values lower upper sums h s =
    let p = pow-suc 2 k in
    let c = h.count in
    let l = lower_count k values lower upper h in
    let u = upper_count k values lower upper h in
    let m = s.as_many in
    (omega arith, omega arith, omega arith)

pub halves_filled : (n from : ℕ) (prefix : Cube) (values lower upper sums : List ℕ) (old mid new : List Cube)
    → Parts n from prefix values lower upper sums
    → Fills n (with_symbol prefix from Zero) (from + 1) lower old mid
    → Fills n (with_symbol prefix from One) (from + 1) upper mid new
    → Fills n prefix from values old new
halves_filled n from prefix values lower upper sums old mid new h a b = record {
  value = λ word len.
      let w = h.within in
      let m : Bool = matches prefix word in
      let bit : Bool = bit_of word from in
      let low : ℕ = value_from lower (from + 1) word in
      let high : ℕ = value_from upper (from + 1) word in
      b.value word len
      ∙ ap (λ t. bit_xor (cond t high 0) (esop_value mid word)) (literal prefix from One word h.free (omega arith))
      ∙ ap (bit_xor (cond (bit && m) high 0))
      (a.value word len
      ∙ ap (λ t. bit_xor (cond t low 0) (esop_value old word)) (literal prefix from Zero word h.free (omega arith)))
      ∙ by_halves m bit low high (esop_value old word)
      ∙ ap (λ x. bit_xor (cond m x 0) (esop_value old word))
      (sym (part_value n from prefix values lower upper sums word h len));
  terms = λ outputs vp small all.
      b.terms outputs (with_cube n outputs prefix from One h.within vp)
      (upper_small (n - (from + 1)) outputs values lower upper h.halves small)
      (a.terms outputs (with_cube n outputs prefix from Zero h.within vp)
      (lower_small (n - (from + 1)) outputs values lower upper h.halves small) all);
  few = let c = counts (n - (from + 1)) values lower upper sums h.halves h.are_sums in let f = a.few in let g =
      b.few in omega arith;
}

pub lower_filled : (n from : ℕ) (prefix : Cube) (values lower upper sums : List ℕ) (old mid new : List Cube)
    → Parts n from prefix values lower upper sums
    → Fills n prefix (from + 1) lower old mid → Fills n (with_symbol prefix from One) (from + 1) sums mid new
    → Fills n prefix from values old new
lower_filled n from prefix values lower upper sums old mid new h a b = record {
  value = λ word len.
      let w = h.within in
      let m : Bool = matches prefix word in
      let bit : Bool = bit_of word from in
      let low : ℕ = value_from lower (from + 1) word in
      let high : ℕ = value_from upper (from + 1) word in
      b.value word len
      ∙ ap (λ t. bit_xor (cond t (value_from sums (from + 1) word) 0) (esop_value mid word))
      (literal prefix from One word h.free (omega arith))
      ∙ ap (λ s. bit_xor (cond (bit && m) s 0) (esop_value mid word))
      (sum_value n from prefix values lower upper sums word h len)
      ∙ ap (bit_xor (cond (bit && m) (bit_xor low high) 0)) (a.value word len)
      ∙ by_lower m bit low high (esop_value old word)
      ∙ ap (λ x. bit_xor (cond m x 0) (esop_value old word))
      (sym (part_value n from prefix values lower upper sums word h len));
  terms = λ outputs vp small all.
      let c = counts (n - (from + 1)) values lower upper sums h.halves h.are_sums in
      let sl = lower_small (n - (from + 1)) outputs values lower upper h.halves small in
      let su = upper_small (n - (from + 1)) outputs values lower upper h.halves small in
      b.terms outputs (with_cube n outputs prefix from One h.within vp)
      (sums_small outputs lower upper sums c.2 h.are_sums sl su) (a.terms outputs vp sl all);
  few = let c = counts (n - (from + 1)) values lower upper sums h.halves h.are_sums in let f = a.few in let g =
      b.few in omega arith;
}

pub upper_filled : (n from : ℕ) (prefix : Cube) (values lower upper sums : List ℕ) (old mid new : List Cube)
    → Parts n from prefix values lower upper sums
    → Fills n prefix (from + 1) upper old mid → Fills n (with_symbol prefix from Zero) (from + 1) sums mid new
    → Fills n prefix from values old new
upper_filled n from prefix values lower upper sums old mid new h a b = record {
  value = λ word len.
      let w = h.within in
      let m : Bool = matches prefix word in
      let bit : Bool = bit_of word from in
      let low : ℕ = value_from lower (from + 1) word in
      let high : ℕ = value_from upper (from + 1) word in
      b.value word len
      ∙ ap (λ t. bit_xor (cond t (value_from sums (from + 1) word) 0) (esop_value mid word))
      (literal prefix from Zero word h.free (omega arith))
      ∙ ap (λ s. bit_xor (cond (not bit && m) s 0) (esop_value mid word))
      (sum_value n from prefix values lower upper sums word h len)
      ∙ ap (bit_xor (cond (not bit && m) (bit_xor low high) 0)) (a.value word len)
      ∙ by_upper m bit low high (esop_value old word)
      ∙ ap (λ x. bit_xor (cond m x 0) (esop_value old word))
      (sym (part_value n from prefix values lower upper sums word h len));
  terms = λ outputs vp small all.
      let c = counts (n - (from + 1)) values lower upper sums h.halves h.are_sums in
      let sl = lower_small (n - (from + 1)) outputs values lower upper h.halves small in
      let su = upper_small (n - (from + 1)) outputs values lower upper h.halves small in
      b.terms outputs (with_cube n outputs prefix from Zero h.within vp)
      (sums_small outputs lower upper sums c.2 h.are_sums sl su) (a.terms outputs vp su all);
  few = let c = counts (n - (from + 1)) values lower upper sums h.halves h.are_sums in let f = a.few in let g =
      b.few in omega arith;
}

-- ---- what the code hands over

pub halves_of : (n from : ℕ) (values : List ℕ) → from < n → length values ≡ 2 ^ (n - from)
    → Halves (n - (from + 1)) values (take (length values / 2) values)
    (take (length values - length values / 2) (drop (length values / 2) values))
halves_of n from values h full =
    let k : ℕ = n - (from + 1) in
    let e : n - from ≡ suc (n - (from + 1)) = omega arith in
    let count : length values ≡ 2 ^ suc (n - (from + 1)) = full ∙ ap (λ m. 2 ^ m) e in
    let p = pow-suc 2 (n - (from + 1)) in
    let half : length values / 2 ≡ 2 ^ (n - (from + 1)) = omega arith in
    record {
      count = count;
      lower_is = ap (λ m. take m values) half;
      upper_is =
          take_all (length values - length values / 2) (drop (length values / 2) values)
          (omega (arith, length-drop (length values / 2) values))
          ∙ ap (λ m. drop m values) half;
    }

pub parts_of : (n from : ℕ) (prefix : Cube) (values sums both : List ℕ) → from < n → length values ≡ 2 ^ (n - from)
    → prefix.care < 2 ^ from
    → AreSums (take (length values / 2) values)
    (take (length values - length values / 2) (drop (length values / 2) values)) sums → both ≡ sums
    → Parts n from prefix values (take (length values / 2) values)
    (take (length values - length values / 2) (drop (length values / 2) values)) both
parts_of n from prefix values sums both h full free s e =
    let P : List ℕ → Type 0 =
    λ l. AreSums (take (length values / 2) values)
    (take (length values - length values / 2) (drop (length values / 2) values)) l in
    record { within = h; free = free; halves = halves_of n from values h full; are_sums = subst P (sym e) s }

pub lower_full : (n from : ℕ) (values : List ℕ) → from < n → length values ≡ 2 ^ (n - from)
    → length (take (length values / 2) values) ≡ 2 ^ (n - (from + 1))
lower_full n from values h full = lower_count (n - (from + 1)) values _ _ (halves_of n from values h full)

pub upper_full : (n from : ℕ) (values : List ℕ) → from < n → length values ≡ 2 ^ (n - from)
    → length (take (length values - length values / 2) (drop (length values / 2) values)) ≡ 2 ^ (n - (from + 1))
upper_full n from values h full = upper_count (n - (from + 1)) values _ _ (halves_of n from values h full)

twice : (p : ℕ) → 2 ^ (p + 1) ≡ 2 ^ p * 2
twice p = let q : p + 1 ≡ suc p = omega arith in ap (λ k. 2 ^ k) q ∙ pow-suc 2 p

pub still_free : (cube : Cube) (p : ℕ) → cube.care < 2 ^ p → cube.care < 2 ^ (p + 1)
still_free cube p h = let t = twice p in omega arith

pub literal_free : (cube t : Cube) (p : ℕ) (s : Symbol) → t ≡ with_symbol cube p s → cube.care < 2 ^ p
    → t.care < 2 ^ (p + 1)
literal_free cube t p s e h =
    let P : Cube → Type 0 = λ c. c.care < 2 ^ (p + 1) in
    subst P (sym e) (choice-lt (same (has cube.care p) (cares s)) (p + 1) cube.care p (omega arith)
    (still_free cube p h))

pub fills_with : (n : ℕ) (prefix other : Cube) (from : ℕ) (values : List ℕ) (old new : List Cube) → prefix ≡ other
    → Fills n prefix from values old new
    → Fills n other from values old new
fills_with n prefix other from values old new e f = let P : Cube → Type 0 =
    λ c. Fills n c from values old new in subst P e f

-- ---- the end

only_value : (n : ℕ) (values : List ℕ) (word : List Bool) → length word ≡ n
    → value_from values n word ≡ get_or values 0 0
unfolding number_of
only_value n values word len =
    let e : drop n word ≡ [] = ap (λ k. drop k word) (sym len) ∙ drop-length word in
    ap (λ l. get_or values (number_of l) 0) e

pub none_filled : (n : ℕ) (prefix : Cube) (values : List ℕ) (old : List Cube) → get_or values 0 0 ≡ 0
    → Fills n prefix n values old old
none_filled n prefix values old e = record {
  value = λ word len.
      sym (ap (λ k. bit_xor k (esop_value old word))
      (share-none (matches prefix word) (value_from values n word) (only_value n values word len ∙ e))
      ∙ xor_zero_l (esop_value old word));
  terms = λ outputs vp small all. all;
  few = omega arith;
}

pub one_filled : (n : ℕ) (prefix : Cube) (outs : ℕ) (values : List ℕ) (old new : List Cube) → length values ≡ 1
    → outs ≡ get_or values 0 0 → outs ≢ 0
    → new ≡ old ++ record prefix { outs = outs } ∷ [] → Fills n prefix n values old new
one_filled n prefix outs values old new one is ne e = record {
  value = λ word len.
      let c : Cube = record prefix { outs = outs } in
      let m : matches c word ≡ matches prefix word = matches-same c prefix word (λ i l. refl) in
      ap (λ l. esop_value l word) e
      ∙ value-push old c word
      ∙ ap (λ t. bit_xor (cond t outs 0) (esop_value old word)) m
      ∙ ap (λ v. bit_xor (cond (matches prefix word) v 0) (esop_value old word))
      (is ∙ sym (only_value n values word len));
  terms = λ outputs vp small all.
      let P : List Cube → Type 0 = λ l. All (IsTerm n outputs) l in
      let Q : ℕ → Type 0 = λ x. x < 2 ^ outputs in
      let lt : 0 < length values = omega arith in
      let carried : outs < 2 ^ outputs = subst Q (sym is) (All-get_or Q values 0 0 lt small) in
      let c : Cube = record prefix { outs = outs } in
      let v : IsCube n outputs c = record { asked = vp.asked; wanted = vp.wanted; carried = carried } in
      subst P (sym e) (All-push (IsTerm n outputs) old c all (record { is_cube = v; some = omega arith }));
  few = let l = ap length e in omega (arith, length-append old (record prefix { outs = outs } ∷ []));
}

-- ---- the empty prefix

abbrev pub no_literal : Cube
no_literal = record { care = 0; want = 0; outs = 0 }

all_true : (n : ℕ) → all_below (λ i. true) n ≡ true
all_true zero = refl
all_true (suc n) = all_true n

matches-no_literal : (word : List Bool) → matches no_literal word ≡ true
unfolding matches
matches-no_literal word =
    all_below-same (λ i. agrees (symbol no_literal i) (bit_of word i)) (λ i. true) (length word)
    (λ i l. ap (λ b. agrees (symbol_of b (has 0 i)) (bit_of word i)) (has-none i))
    ∙ all_true (length word)

pub value_filled : (n : ℕ) (values : List ℕ) (old new : List Cube) (word : List Bool)
    → Fills n no_literal 0 values old new → old ≡ [] → length word ≡ n
    → esop_value new word ≡ get_or values (number_of word) 0
unfolding esop_value
value_filled n values old new word f e len =
    f.value word len
    ∙ ap (λ t. bit_xor (cond t (value_from values 0 word) 0) (esop_value old word)) (matches-no_literal word)
    ∙ ap (λ l. bit_xor (get_or values (number_of word) 0) (esop_value l word)) e
    ∙ xor_zero_r (get_or values (number_of word) 0)

pub terms_filled : (n outputs : ℕ) (values : List ℕ) (old new : List Cube) → Fills n no_literal 0 values old new
    → old ≡ [] → All (λ x. x < 2 ^ outputs) values
    → All (IsTerm n outputs) new
terms_filled n outputs values old new f e small =
    let P : List Cube → Type 0 = λ l. All (IsTerm n outputs) l in
    f.terms outputs (record { asked = pow_pos n; wanted = λ line on. on; carried = pow_pos outputs }) small
    (subst P (sym e) (All-nil (IsTerm n outputs)))
