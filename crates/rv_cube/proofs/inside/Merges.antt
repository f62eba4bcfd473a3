-- Two cubes that become one keep the value, and the list gets shorter.
use Rattle.std.proofs.Common.{◌≡◌, ◌≢◌, ℕ, suc, ◌+◌, ◌^◌, ◌<◌, ◌≤◌, Bool, true, false, cond, eqb, List, length, set, take, drop, refl, sym, ◌∙◌, ap, subst, inl, inr, arith, length-set, ◌∷◌, []}
use Rattle.std.specs.Prelude.{bit_xor, None, Some, nat_lt, All}
use Rattle.std.specs.List.{remove}
use Rattle.std.proofs.lemmas.Bool.{eqb-true, eqb-false, ltb-true, ltb-false, and_parts, or_cases, cond_both}
use Rattle.std.proofs.lemmas.Nat.{xor_lt, pow_below}
use Rattle.std.proofs.lemmas.List.Edits.{length-remove, get_or-remove_below}
use Rattle.std.proofs.lemmas.List.Elements.{All-append, All-take, All-drop, All-set, All-get_or}
use Rattle.rv_gate.specs.Word.{has}
use Rattle.rv_gate.specs.Gate.{same, WantsControls}
use Rattle.rv_pla.specs.Cube.{Symbol, symbol, matches, IsCube}
use Rattle.rv_pla.specs.declared.cube.Cube.{Cube}
use Rattle.rv_cube.specs.Esop.{share, esop_value, IsTerm}
use Rattle.rv_cube.specs.Distance.{differs, differing, third, put, cares, wants_one, with_symbol, with_third}
use Rattle.rv_cube.specs.Reduction.{no_cube, at, merge_by, standing, merged, merged_any, can_merge}
use Rattle.rv_cube.proofs.Symbols.{has_put-same, has_put-other, matches-same, matches-with_third}
use Rattle.rv_cube.proofs.inside.Differing.{differing-comm, IsDiffering, differing_is}
use Rattle.std.specs.Int.Bits.{xor_assoc, xor_zero_l}
use Rattle.rv_cube.specs.ReductionFor.{carried_count}
use Rattle.rv_cube.proofs.Outputs.{carried_by, count-xor, count-same}
use Rattle.std.proofs.lemmas.List.Sums.{sum_by-set, sum_by-remove}
use Rattle.rv_cube.proofs.Sums.{xor_merge, share-xor, share-outs, value-set, value-remove}

pub record Kept (n outputs : ℕ) (old new : List Cube) : Type 0 where
  pub value_kept : (word : List Bool) → length word ≡ n → esop_value new word ≡ esop_value old word
  pub shorter : length new < length old
  pub valid : All (IsTerm n outputs) old → All (IsTerm n outputs) new
  pub lighter : (o : ℕ) → carried_by o new ≤ carried_by o old

pub All-remove : (P : Cube → Type 0) (xs : List Cube) (i : ℕ) → All P xs → All P (remove xs i)
All-remove P xs i h = All-append P (take i xs) (drop (suc i) xs) (All-take P i xs h) (All-drop P (suc i) xs h)

-- ---- the third of two cubes

pub with_third-outs : (a b : Cube) (p : ℕ) → (with_third a b p).outs ≡ a.outs
unfolding with_third
with_third-outs a b p = refl

pub choice-lt : (t : Bool) (n set k : ℕ) → k < n → set < 2 ^ n → cond t set (bit_xor set (2 ^ k)) < 2 ^ n
choice-lt true n set k h lt = lt
choice-lt false n set k h lt = xor_lt n set (2 ^ k) lt (pow_below k n h)

wants_one_cares : (s : Symbol) → wants_one s ≡ true → cares s ≡ true
wants_one_cares s h = grind arith

with_wants : (cube : Cube) (k : ℕ) (s : Symbol) → WantsControls cube.care cube.want → WantsControls (put cube.care k (cares s)) (put cube.want k (wants_one s))
with_wants cube k s h line on = grind (arith, has_put-same, wants_one_cares, has_put-other)

pub with_cube : (n outputs : ℕ) (a : Cube) (p : ℕ) (s : Symbol) → p < n → IsCube n outputs a → IsCube n outputs (with_symbol a p s)
with_cube n outputs a p s h v = record {
  asked = choice-lt (same (has a.care p) (cares s)) n a.care p h v.asked;
  wanted = with_wants a p s v.wanted;
  carried = v.carried;
}

pub with_third_cube : (n outputs : ℕ) (a b : Cube) (p : ℕ) → p < n → IsCube n outputs a → IsCube n outputs (with_third a b p)
unfolding with_third
with_third_cube n outputs a b p h v = with_cube n outputs a p (third (symbol a p) (symbol b p)) h v

pub with_third_valid : (n outputs : ℕ) (a b : Cube) (p : ℕ) → p < n → IsTerm n outputs a → IsTerm n outputs (with_third a b p)
unfolding with_third
with_third_valid n outputs a b p h v = record { is_cube = with_third_cube n outputs a b p h v.is_cube; some = v.some }

pub share-with_third : (a b m : Cube) (k : ℕ) (word : List Bool) → k < length word → differs a b k ≡ true → a.outs ≡ m.outs
    → symbol m k ≡ symbol b k → ((i : ℕ) → i < length word → i ≢ k → symbol m i ≡ symbol a i)
    → share (with_third a b k) word ≡ bit_xor (share a word) (share m word)
share-with_third a b m k word h d same_outs mk mo =
    ap (λ o. cond (matches (with_third a b k) word) o 0) (with_third-outs a b k)
    ∙ ap (λ t. cond t a.outs 0) (matches-with_third a b m k word h d mk mo)
    ∙ share-xor (matches a word) (matches m word) a.outs
    ∙ ap (λ o. bit_xor (share a word) (cond (matches m word) o 0)) same_outs

-- ---- two cubes become one

-- at a stands t, and the cube at b is gone
value-merge : (cubes : List Cube) (a b : ℕ) (t : Cube) (word : List Bool) → a < b → b < length cubes
    → share t word ≡ bit_xor (share (at cubes a) word) (share (at cubes b) word)
    → esop_value (set (remove cubes b) a t) word ≡ esop_value cubes word
value-merge cubes a b t word ab within e =
    grind (arith, length-remove, value-set, bit_xor, esop_value, get_or-remove_below, no_cube, value-remove, xor_merge)

merge_kept : (n outputs : ℕ) (cubes : List Cube) (a b : ℕ) (t : Cube) → a < b → b < length cubes
    → ((word : List Bool) → length word ≡ n → share t word ≡ bit_xor (share (at cubes a) word) (share (at cubes b) word))
    → (IsTerm n outputs (at cubes a) → IsTerm n outputs (at cubes b) → IsTerm n outputs t)
    → ((o : ℕ) → carried_count o t ≤ carried_count o (at cubes a) + carried_count o (at cubes b))
    → Kept n outputs cubes (set (remove cubes b) a t)
merge_kept n outputs cubes a b t ab within e v light = record {
  value_kept = λ word len. value-merge cubes a b t word ab within (e word len);
  shorter = let len = length-set (remove cubes b) a t in let r = length-remove cubes b within in omega arith;
  valid = λ all. All-set (IsTerm n outputs) (remove cubes b) a t
      (v (All-get_or (IsTerm n outputs) cubes a no_cube (omega arith) all) (All-get_or (IsTerm n outputs) cubes b no_cube within all))
      (All-remove (IsTerm n outputs) cubes b all);
  lighter = λ o.
      let r = length-remove cubes b within in
      let one = sum_by-set (carried_count o) (remove cubes b) a t no_cube (omega arith) in
      let two = sum_by-remove (carried_count o) cubes b no_cube within in
      let same : carried_count o (at (remove cubes b) a) ≡ carried_count o (at cubes a) = ap (carried_count o) (get_or-remove_below cubes b no_cube a ab within) in
      let less = light o in
      omega arith;
}

-- the outputs of both both
abbrev pub both : Cube → Cube → Cube
both a b = record a { outs = bit_xor a.outs b.outs }

share-both : (a b : Cube) (word : List Bool) → ((i : ℕ) → i < length word → symbol a i ≡ symbol b i)
    → share (both a b) word ≡ bit_xor (share a word) (share b word)
share-both a b word h = grind (arith, matches-same, bit_xor, share-outs)

pub cond-zero : (t : Bool) → cond {A = ℕ} t 0 0 ≡ 0
cond-zero t = grind arith

both_kept : (n outputs : ℕ) (cubes : List Cube) (a b : ℕ) → a < b → b < length cubes
    → ((i : ℕ) → i < n → symbol (at cubes a) i ≡ symbol (at cubes b) i)
    → bit_xor (at cubes a).outs (at cubes b).outs ≡ 0
    → Kept n outputs cubes (remove (remove cubes b) a)
both_kept n outputs cubes a b ab within h e = record {
  value_kept = λ word len.
      let r = length-remove cubes b within in
      let v : ℕ = esop_value cubes word in
      let z : bit_xor (share (at cubes a) word) (share (at cubes b) word) ≡ 0 =
      sym (share-both (at cubes a) (at cubes b) word (λ i l. h i (omega arith)))
      ∙ ap (λ o. cond (matches (both (at cubes a) (at cubes b)) word) o 0) e
      ∙ cond-zero (matches (both (at cubes a) (at cubes b)) word) in
      value-remove (remove cubes b) a word (omega arith)
      ∙ ap (λ c. bit_xor (share c word) (esop_value (remove cubes b) word)) (get_or-remove_below cubes b no_cube a ab within)
      ∙ ap (bit_xor (share (at cubes a) word)) (value-remove cubes b word within)
      ∙ sym (xor_assoc (share (at cubes a) word) (share (at cubes b) word) v)
      ∙ ap (λ k. bit_xor k v) z ∙ xor_zero_l v;
  shorter = let r = length-remove cubes b within in let s = length-remove (remove cubes b) a (omega arith) in omega arith;
  valid = λ all. All-remove (IsTerm n outputs) (remove cubes b) a (All-remove (IsTerm n outputs) cubes b all);
  lighter = λ o.
      let r = length-remove cubes b within in
      let one = sum_by-remove (carried_count o) (remove cubes b) a no_cube (omega arith) in
      let two = sum_by-remove (carried_count o) cubes b no_cube within in
      omega arith;
}

-- what a test by either rule has found
abbrev pub Mergeable : Cube → Cube → List ℕ → Type 0
Mergeable a b [] = Unit {0}
Mergeable a b (p ∷ []) = a.outs ≡ b.outs
Mergeable a b (p ∷ q ∷ []) = ⊥
Mergeable a b (p ∷ q ∷ r ∷ rest) = ⊥

mergeable_1 : (a b : Cube) (x : List ℕ) → eqb (length x) 0 ≡ true → Mergeable a b x
mergeable_1 a b x h = grind (arith, eqb-true, length)

mergeable_2 : (a b : Cube) (x : List ℕ) → a.outs ≡ b.outs → eqb (length x) 1 ≡ true → Mergeable a b x
mergeable_2 a b x h h2 = grind (arith, eqb-true, length)

pub can_merge_Mergeable : (n : ℕ) (x y : Cube) → can_merge n x y ≡ true → Mergeable x y (differing n x y)
can_merge_Mergeable n x y h = elim (or_cases _ _ h) [
  | inl e ↦ mergeable_1 x y (differing n x y) e
  | inr e ↦ let p = and_parts _ _ e in mergeable_2 x y (differing n x y) (eqb-true _ _ p.0) p.1
]

Mergeable-comm : (a b : Cube) (x : List ℕ) → Mergeable a b x → Mergeable b a x
Mergeable-comm a b x h = grind arith

same_kept : (n outputs : ℕ) (cubes : List Cube) (a b : ℕ) (t : Bool) → a < b → b < length cubes
    → ((i : ℕ) → i < n → symbol (at cubes a) i ≡ symbol (at cubes b) i)
    → eqb (bit_xor (at cubes a).outs (at cubes b).outs) 0 ≡ t
    → Kept n outputs cubes (standing (remove cubes b) a (cond t None (Some (both (at cubes a) (at cubes b)))))
same_kept n outputs cubes a b true ab within h e = both_kept n outputs cubes a b ab within h (eqb-true _ _ e)
same_kept n outputs cubes a b false ab within h e =
    merge_kept n outputs cubes a b (both (at cubes a) (at cubes b)) ab within
    (λ word len. share-both (at cubes a) (at cubes b) word (λ i l. h i (omega arith)))
    (λ va vb. let some : bit_xor (at cubes a).outs (at cubes b).outs ≢ 0 = eqb-false _ _ e in record {
      is_cube = record {
        asked = va.is_cube.asked;
        wanted = va.is_cube.wanted;
        carried = xor_lt outputs _ _ va.is_cube.carried vb.is_cube.carried;
      };
      some = omega arith;
    })
    (λ o. count-xor o (at cubes a).outs (at cubes b).outs)

merge_by_kept : (n outputs : ℕ) (cubes : List Cube) (a b : ℕ) (x : List ℕ) → a < b → b < length cubes
    → IsDiffering (at cubes a) (at cubes b) n x → Mergeable (at cubes a) (at cubes b) x
    → Kept n outputs cubes (standing (remove cubes b) a (merge_by x (at cubes a) (at cubes b)))
merge_by_kept n outputs cubes a b [] ab within is j = same_kept n outputs cubes a b _ ab within is refl
merge_by_kept n outputs cubes a b (p ∷ []) ab within is j =
    merge_kept n outputs cubes a b (with_third (at cubes a) (at cubes b) p) ab within
    (λ word len.
    let pn : p < n = is.0 in
    share-with_third (at cubes a) (at cubes b) (at cubes b) p word (omega arith) is.1 j refl
    (λ i l ne. sym (is.2 i (omega arith) ne)))
    (λ va vb. with_third_valid n outputs (at cubes a) (at cubes b) p is.0 va)
    (λ o. let same : carried_count o (with_third (at cubes a) (at cubes b) p) ≡ carried_count o (at cubes a) = count-same o (with_third (at cubes a) (at cubes b) p) (at cubes a) (with_third-outs (at cubes a) (at cubes b) p) in omega arith)
merge_by_kept n outputs cubes a b (p ∷ q ∷ []) ab within is j = absurd j
merge_by_kept n outputs cubes a b (p ∷ q ∷ r ∷ rest) ab within is j = absurd j

pub merged_kept : (n outputs : ℕ) (cubes : List Cube) (a b : ℕ) → a < b → b < length cubes
    → Mergeable (at cubes a) (at cubes b) (differing n (at cubes a) (at cubes b)) → Kept n outputs cubes (merged n cubes a b)
unfolding merged
merged_kept n outputs cubes a b ab within j =
    merge_by_kept n outputs cubes a b (differing n (at cubes a) (at cubes b)) ab within (differing_is n (at cubes a) (at cubes b)) j

pub Mergeable-comm-at : (a b : Cube) (n : ℕ) → Mergeable a b (differing n a b) → Mergeable b a (differing n b a)
Mergeable-comm-at a b n j = let P : List ℕ → Type 0 = λ x. Mergeable b a x in subst P (differing-comm n a b) (Mergeable-comm a b (differing n a b) j)

pub merged_any_kept : (n outputs : ℕ) (cubes : List Cube) (a b : ℕ) → a ≢ b → a < length cubes → b < length cubes
    → Mergeable (at cubes a) (at cubes b) (differing n (at cubes a) (at cubes b)) → Kept n outputs cubes (merged_any n cubes a b)
merged_any_kept n outputs cubes a b ne la lb j =
    cond_both (nat_lt a b) (merged n cubes a b) (merged n cubes b a) (Kept n outputs cubes) (λ e. merged_kept n outputs cubes a b (ltb-true a b e) lb j)
    (λ e. let le = ltb-false a b e in merged_kept n outputs cubes b a (omega arith) la (Mergeable-comm-at (at cubes a) (at cubes b) n j))
