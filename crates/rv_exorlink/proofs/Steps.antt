-- The steps of a search keep the value of a list.
use Rattle.std.proofs.Common.{◌≡◌, ◌≢◌, ℕ, ◌<◌, ◌&&◌, Bool, List, [], ◌∷◌, ◌++◌, length, get_or, refl, sym, ◌∙◌, ap, subst, arith, ◌≤◌}
use Rattle.std.specs.Prelude.{bit_xor, All}
use Rattle.std.specs.List.{swap_remove}
use Rattle.std.specs.Int.Bits.{xor_zero_l}
use Rattle.std.proofs.lemmas.List.{get_or_default}
use Rattle.std.proofs.lemmas.List.Elements.{All-push, All-get_or}
use Rattle.rv_pla.specs.Cube.{IsCube, matches}
use Rattle.rv_pla.specs.declared.cube.Cube.{Cube}
use Rattle.rv_cube.specs.Esop.{share, esop_value, IsTerm}
use Rattle.rv_cube.specs.declared.list.TheConstants.{MOST_CUBES}
use Rattle.rv_exorlink.specs.declared.goal.Goal.{Goal}
use Rattle.rv_exorlink.specs.declared.goal.Goal.TheVariants.{Cubes, Gates, Quantum, T}
use Rattle.rv_exorlink.specs.Weight.{most_of}
use Rattle.rv_exorlink.specs.Sums.{IsSum, IsStep}
use Rattle.rv_exorlink.specs.Lists.{value_with, AreAlike, Joins, Adds, Agree, AddsBut, Walks, AddsBoth, IsSameBut}
use Rattle.rv_exorlink.specs.Free.{IsFree}
use Rattle.rv_exorlink.proofs.Values.{xor_walked, xor_middle, value-push, value-swap_remove, All-swap_remove}
use Rattle.std.specs.Prelude.{true, false}
use Rattle.rv_cube.proofs.Sums.{xor_swap}
use Rattle.rv_cube.proofs.Terms.{share-none}
use Rattle.rv_gate.proofs.LineSets.{bit_xor-back, has-xor, has-cond}
use Rattle.rv_gate.specs.Word.{has}
use Rattle.rv_gate.specs.Gate.{xor}
use Rattle.std.proofs.lemmas.Bool.{true≢false}
use Rattle.std.proofs.lemmas.Nat.{xor_comm}

-- a cube is taken out
pub record Takes_out (old : List Cube) (i : ℕ) (x : Cube) (new : List Cube) : Type 0 where
  pub within : i < length old
  pub read : x ≡ get_or old i x
  pub is : new ≡ swap_remove old i x

pub value-out : (old : List Cube) (i : ℕ) (x : Cube) (new : List Cube) (word : List Bool) → Takes_out old i x new
    → esop_value new word ≡ bit_xor (share x word) (esop_value old word)
value-out old i x new word t = ap (λ l. esop_value l word) t.is ∙ value-swap_remove old i x word t.within t.read

All-out : (P : Cube → Type 0) (old : List Cube) (i : ℕ) (x : Cube) (new : List Cube) → Takes_out old i x new → All P old
    → All P new
All-out P old i x new t all = let Q : List Cube → Type 0 =
    λ l. All P l in subst Q (sym t.is) (All-swap_remove P old i x t.within all)

At-out : (P : Cube → Type 0) (old : List Cube) (i : ℕ) (x : Cube) (new : List Cube) → Takes_out old i x new → All P old
    → P x
At-out P old i x new t all = subst P (sym t.read) (All-get_or P old i x t.within all)

-- ---- a cube is added

pub alike_self : (n : ℕ) (c : Cube) (cubes : List Cube) → AreAlike n c cubes c cubes
alike_self n c cubes = record {
  value = λ word len. refl;
  is_cube = λ outputs vc all. vc;
  terms = λ outputs vc all. all;
}

pub alike_joined : (n : ℕ) (c : Cube) (old : List Cube) (d : Cube) (mid : List Cube) (e : Cube) (new : List Cube)
    → AreAlike n c old d mid → Joins n d mid e new → AreAlike n c old e new
alike_joined n c old d mid e new a j = record {
  value = λ word len. j.alike.value word len ∙ a.value word len;
  is_cube = λ outputs vc all. j.alike.is_cube outputs (a.is_cube outputs vc all) (a.terms outputs vc all);
  terms = λ outputs vc all. j.alike.terms outputs (a.is_cube outputs vc all) (a.terms outputs vc all);
}

pub joined : (n : ℕ) (c : Cube) (old : List Cube) (i : ℕ) (x sum : Cube) (new : List Cube) → Takes_out old i x new
    → IsSum n c x sum
    → length new < length old → Joins n c old sum new
joined n c old i x sum new t s shorter = record {
  alike = record {
    value = λ word len.
        ap (λ k. bit_xor k (esop_value new word)) (s.value word len)
        ∙ ap (bit_xor (bit_xor (share c word) (share x word))) (value-out old i x new word t)
        ∙ xor_middle (share c word) (share x word) (esop_value old word);
    is_cube = λ outputs vc all. let vx : IsTerm n outputs x =
        At-out (IsTerm n outputs) old i x new t all in s.is_cube outputs vc vx.is_cube;
    terms = λ outputs vc all. All-out (IsTerm n outputs) old i x new t all;
  };
  shorter = shorter;
}

pub added_none : (n : ℕ) (c : Cube) (old : List Cube) (d : Cube) (new : List Cube) → AreAlike n c old d new → d.outs ≡ 0
    → Adds n c old new
added_none n c old d new a e = record {
  value = λ word len.
      sym (ap (λ k. bit_xor k (esop_value new word)) (share-none (matches d word) d.outs e)
      ∙ xor_zero_l (esop_value new word)) ∙ a.value word len;
  terms = a.terms;
}

pub added : (n : ℕ) (c : Cube) (old : List Cube) (d : Cube) (mid new : List Cube) → AreAlike n c old d mid → d.outs ≢ 0
    → new ≡ mid ++ d ∷ []
    → Adds n c old new
added n c old d mid new a ne is = record {
  value = λ word len. ap (λ l. esop_value l word) is ∙ value-push mid d word ∙ a.value word len;
  terms = λ outputs vc all.
      let P : List Cube → Type 0 = λ l. All (IsTerm n outputs) l in
      subst P (sym is) (All-push (IsTerm n outputs) mid d (a.terms outputs vc all)
      (record { is_cube = a.is_cube outputs vc all; some = omega arith }));
}

-- ---- sets that agree

pub agree_is : (free : List ℕ) (word : List Bool) (a b : ℕ) → a ≡ b → Agree free word a b
agree_is free word a b e output f = ap (λ s. has s output) e

pub agree_trans : (free : List ℕ) (word : List Bool) (a b c : ℕ) → Agree free word a b → Agree free word b c
    → Agree free word a c
agree_trans free word a b c p q output f = p output f ∙ q output f

pub agree_xor : (free : List ℕ) (word : List Bool) (s a b : ℕ) → Agree free word a b
    → Agree free word (bit_xor s a) (bit_xor s b)
agree_xor free word s a b p output f =
    has-xor s a output ∙ ap (xor (has s output)) (p output f) ∙ sym (has-xor s b output)

-- ---- a cube is left out that concerns free entries alone

pub but_added : (n : ℕ) (free : List ℕ) (c : Cube) (old new : List Cube) → Adds n c old new → AddsBut n free c old new
but_added n free c old new a = record {
  value = λ word len. agree_is free word (esop_value new word) (value_with c old word) (a.value word len);
  terms = a.terms;
}

-- what a cube of free entries gives counts for nothing
free_share : (n : ℕ) (free : List ℕ) (c : Cube) (word : List Bool) (v : ℕ) → length word ≡ n → IsFree n free c
    → Agree free word v (bit_xor (share c word) v)
free_share n free c word v len f output none =
    sym
    (has-xor (share c word) v output
    ∙ ap (λ b. xor b (has v output))
    (has-cond (matches c word) c.outs output ∙ off (matches c word) (has c.outs output) refl refl)
    ∙ xor_left (has v output))
  where
    off : (m h : Bool) → matches c word ≡ m → has c.outs output ≡ h → (m && h) ≡ false
    off true true em eh = absurd (true≢false (sym (f.free_at word output len em eh) ∙ none))
    off true false em eh = refl
    off false h em eh = refl

    xor_left : (b : Bool) → xor false b ≡ b
    xor_left true = refl
    xor_left false = refl

pub but_none : (n : ℕ) (free : List ℕ) (c : Cube) (old : List Cube) → IsFree n free c → AddsBut n free c old old
but_none n free c old f = record {
  value = λ word len. free_share n free c word (esop_value old word) len f;
  terms = λ outputs vc all. all;
}

-- ---- a way

pub walk_start : (n : ℕ) (free : List ℕ) (from to : Cube) (cubes : List Cube) → Walks n free from to cubes from cubes
walk_start n free from to cubes = record {
  value = λ word len output f. refl;
  is_cube = λ outputs vf vt. vf;
  terms = λ outputs vf vt all. all;
}

pub walk_step : (n : ℕ) (free : List ℕ) (from to : Cube) (old : List Cube) (at : Cube) (mid : List Cube)
    (sum next : Cube) (new : List Cube)
    → Walks n free from to old at mid → IsStep n at to sum next → AddsBut n free sum mid new
    → Walks n free from to old next new
walk_step n free from to old at mid sum next new w s a = record {
  value = λ word len output f.
      agree_xor free word (share next word) (esop_value new word) (value_with sum mid word) (a.value word len) output f
      ∙ ap (λ k. has k output)
      (ap (λ k. bit_xor (share next word) (bit_xor k (esop_value mid word))) (s.is_sum.value word len)
      ∙ xor_walked (share next word) (share at word) (esop_value mid word))
      ∙ w.value word len output f;
  is_cube = λ outputs vf vt. s.is_cube outputs (w.is_cube outputs vf vt) vt;
  terms = λ outputs vf vt all.
      let va : IsCube n outputs at = w.is_cube outputs vf vt in
      a.terms outputs (s.is_sum.is_cube outputs va (s.is_cube outputs va vt)) (w.terms outputs vf vt all);
}

pub walk_end : (n : ℕ) (free : List ℕ) (from to : Cube) (old : List Cube) (at : Cube) (new : List Cube)
    → Walks n free from to old at new → at ≡ to
    → AddsBoth n free from to old new
walk_end n free from to old at new w e = record {
  value = λ word len output f.
      ap (λ k. has k output)
      (sym (bit_xor-back (share to word) (esop_value new word))
      ∙ ap (λ c. bit_xor (share to word) (value_with c new word)) (sym e))
      ∙ agree_xor free word (share to word) (value_with at new word) (value_with from old word) (w.value word len)
      output f
      ∙ ap (λ k. has k output) (xor_swap (share to word) (share from word) (esop_value old word));
  terms = w.terms;
}

pub walk_left : (n : ℕ) (free : List ℕ) (from to : Cube) (old : List Cube) (at : Cube) (now mid new : List Cube)
    → Walks n free from to old at now → Adds n at now mid → Adds n to mid new → AddsBoth n free from to old new
walk_left n free from to old at now mid new w a b = record {
  value = λ word len output f.
      ap (λ k. has k output) (b.value word len ∙ ap (bit_xor (share to word)) (a.value word len))
      ∙ agree_xor free word (share to word) (value_with at now word) (value_with from old word) (w.value word len)
      output f
      ∙ ap (λ k. has k output) (xor_swap (share to word) (share from word) (esop_value old word));
  terms =
      λ outputs vf vt all. b.terms outputs vt (a.terms outputs (w.is_cube outputs vf vt) (w.terms outputs vf vt all));
}

pub exchanged : (n : ℕ) (free : List ℕ) (old : List Cube) (i : ℕ) (x : Cube) (mid : List Cube) (j : ℕ) (y : Cube)
    (rest new : List Cube)
    → Takes_out old i x mid → Takes_out mid j y rest → AddsBoth n free x y rest new → IsSameBut n free old new
exchanged n free old i x mid j y rest new t u b = record {
  value = λ word len output f.
      b.value word len output f
      ∙ ap (λ k. has k output)
      (ap (λ k. bit_xor (share x word) (bit_xor (share y word) k)) (value-out mid j y rest word u)
      ∙ ap (bit_xor (share x word)) (bit_xor-back (share y word) (esop_value mid word) ∙ value-out old i x mid word t)
      ∙ bit_xor-back (share x word) (esop_value old word));
  terms = λ outputs all.
      let vx : IsTerm n outputs x = At-out (IsTerm n outputs) old i x mid t all in
      let all_mid : All (IsTerm n outputs) mid = All-out (IsTerm n outputs) old i x mid t all in
      let vy : IsTerm n outputs y = At-out (IsTerm n outputs) mid j y rest u all_mid in
      b.terms outputs vx.is_cube vy.is_cube (All-out (IsTerm n outputs) mid j y rest u all_mid);
}

-- ---- a change

-- a cube goes, and its sum with one of free entries comes in
pub changed : (n : ℕ) (free : List ℕ) (old : List Cube) (i : ℕ) (x gone sum : Cube) (mid new : List Cube)
    → Takes_out old i x mid
    → ((outputs : ℕ) → IsCube n outputs x → IsCube n outputs gone) → IsSum n x gone sum → IsFree n free gone
    → Adds n sum mid new
    → IsSameBut n free old new
changed n free old i x gone sum mid new t valid s f a = record {
  value = λ word len output none.
      ap (λ k. has k output)
      (a.value word len
      ∙ ap (λ k. bit_xor k (esop_value mid word)) (s.value word len)
      ∙ ap (bit_xor (bit_xor (share x word) (share gone word))) (value-out old i x mid word t)
      ∙ ap (λ k. bit_xor k (bit_xor (share x word) (esop_value old word))) (xor_comm (share x word) (share gone word))
      ∙ xor_middle (share gone word) (share x word) (esop_value old word))
      ∙ sym (free_share n free gone word (esop_value old word) len f output none);
  terms = λ outputs all.
      let vx : IsTerm n outputs x = At-out (IsTerm n outputs) old i x mid t all in
      a.terms outputs (s.is_cube outputs vx.is_cube (valid outputs vx.is_cube))
      (All-out (IsTerm n outputs) old i x mid t all);
}

-- two reads of a place
pub read_same : (cubes : List Cube) (i : ℕ) (x z : Cube) → i < length cubes → x ≡ get_or cubes i x
    → z ≡ get_or cubes i z → z ≡ x
read_same cubes i x z h read other = other ∙ get_or_default cubes i z x h ∙ sym read

-- the list stayed as it was
pub alike_same : (n : ℕ) (c : Cube) (old : List Cube) (d : Cube) (mid new : List Cube) → AreAlike n c old d mid
    → new ≡ mid → AreAlike n c old d new
alike_same n c old d mid new a e = let P : List Cube → Type 0 = λ l. AreAlike n c old d l in subst P (sym e) a

pub walk_same : (n : ℕ) (free : List ℕ) (from to : Cube) (old : List Cube) (at : Cube) (mid : List Cube) (here : Cube)
    (new : List Cube)
    → Walks n free from to old at mid → here ≡ at → new ≡ mid → Walks n free from to old here new
walk_same n free from to old at mid here new w e f =
    let P : Cube → Type 0 = λ c. Walks n free from to old c new in
    let Q : List Cube → Type 0 = λ l. Walks n free from to old at l in
    subst P (sym e) (subst Q (sym f) w)

-- ---- a search

pub same_self : (n : ℕ) (free : List ℕ) (cubes : List Cube) → IsSameBut n free cubes cubes
same_self n free cubes = record { value = λ word len output f. refl; terms = λ outputs all. all }

pub same_trans : (n : ℕ) (free : List ℕ) (old mid new : List Cube) → IsSameBut n free old mid → IsSameBut n free mid new
    → IsSameBut n free old new
same_trans n free old mid new a b = record {
  value = λ word len output f. b.value word len output f ∙ a.value word len output f;
  terms = λ outputs all. b.terms outputs (a.terms outputs all);
}

pub same_is : (n : ℕ) (free : List ℕ) (old mid new : List Cube) → new ≡ mid → IsSameBut n free old mid
    → IsSameBut n free old new
same_is n free old mid new e s = let P : List Cube → Type 0 = λ l. IsSameBut n free old l in subst P (sym e) s

-- at most as many as a goal allows
pub few_for : (goal : Goal) (cubes new : ℕ) → cubes ≤ MOST_CUBES → new ≤ most_of goal cubes → new ≤ MOST_CUBES
few_for Cubes cubes new h l = omega arith
few_for Gates cubes new h l = l
few_for Quantum cubes new h l = l
few_for T cubes new h l = l
