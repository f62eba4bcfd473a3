-- The sum of two cubes that differ at one place.
use Rattle.std.proofs.Common.{◌≡◌, ◌≢◌, ℕ, ◌^◌, ◌<◌, ◌*◌, ◌%◌, true, cond, eqb, length, refl, sym, ◌∙◌, ap, arith, ne_eqb, eq-eqb, ◌≤◌}
use Rattle.std.specs.Prelude.{bit_xor, bit_and}
use Rattle.std.proofs.lemmas.Nat.{xor_lt, one_shl, and_le_l}
use Rattle.rv_gate.specs.Word.{has}
use Rattle.rv_gate.proofs.LineSets.{has-none, has-line}
use Rattle.rv_pla.specs.Cube.{symbol, matches, IsCube}
use Rattle.rv_pla.specs.declared.cube.Cube.{Cube}
use Rattle.rv_cube.specs.Esop.{share}
use Rattle.rv_cube.specs.Distance.{differs, with_symbol, with_third}
use Rattle.rv_cube.proofs.Symbols.{symbol_with-same, symbol_with-other, matches-same, matches-with_third}
use Rattle.rv_cube.proofs.inside.Differing.{differs-not}
use Rattle.rv_exorlink.specs.Sums.{IsSum, IsStep}
use Rattle.rv_cube.proofs.Sums.{share-xor, share-outs}
use Rattle.rv_cube.proofs.inside.Merges.{with_cube, with_third_cube, with_third-outs}

-- ---- one input

-- m is a cube with a's outputs and b's symbol at p, and else with a's
pub record Takes (n : ℕ) (a b m : Cube) (p : ℕ) : Type 0 where
  pub within : p < n
  pub differ : differs a b p ≡ true
  pub outs : a.outs ≡ m.outs
  pub there : symbol m p ≡ symbol b p
  pub others : (i : ℕ) → i < n → i ≢ p → symbol m i ≡ symbol a i

pub third_is_sum : (n : ℕ) (a b m : Cube) (p : ℕ) → Takes n a b m p → IsSum n a m (with_third a b p)
third_is_sum n a b m p h = record {
  value = λ word len.
      let within : p < length word = let w = h.within in omega arith in
      ap (λ o. cond (matches (with_third a b p) word) o 0) (with_third-outs a b p)
      ∙ ap (λ t. cond t a.outs 0)
      (matches-with_third a b m p word within h.differ h.there (λ i l ne. h.others i (omega arith) ne))
      ∙ share-xor (matches a word) (matches m word) a.outs
      ∙ ap (λ o. bit_xor (share a word) (cond (matches m word) o 0)) h.outs;
  is_cube = λ outputs va vm. with_third_cube n outputs a b p h.within va;
}

pub input_step : (n : ℕ) (x y : Cube) (p : ℕ) → p < n → differs x y p ≡ true
    → IsStep n x y (with_third x y p) (with_symbol x p (symbol y p))
input_step n x y p h d = record {
  is_sum = third_is_sum n x y (with_symbol x p (symbol y p)) p (record {
    within = h;
    differ = d;
    outs = refl;
    there = symbol_with-same x p (symbol y p);
    others = λ i l ne. symbol_with-other x p i (symbol y p) ne;
  });
  is_cube = λ outputs vx vy. with_cube n outputs x p (symbol y p) h vx;
}

-- ---- the outputs

pub outputs_sum : (n : ℕ) (a b : Cube) → ((i : ℕ) → i < n → symbol a i ≡ symbol b i)
    → IsSum n a b (record a { outs = bit_xor a.outs b.outs })
outputs_sum n a b h = record {
  value = λ word len.
      let sum : Cube = record a { outs = bit_xor a.outs b.outs } in
      let m : matches sum word ≡ matches a word = matches-same sum a word (λ i l. refl) in
      ap (λ t. cond t (bit_xor a.outs b.outs) 0) m
      ∙ share-outs (matches a word) a.outs b.outs
      ∙ ap (λ t. bit_xor (share a word) (cond t b.outs 0)) (matches-same a b word (λ i l. h i (omega arith)));
  is_cube =
      λ outputs va vb. record
      { asked = va.asked; wanted = va.wanted; carried = xor_lt outputs a.outs b.outs va.carried vb.carried };
}

pub outputs_step : (n : ℕ) (x y : Cube)
    → IsStep n x y (record x { outs = bit_xor x.outs y.outs }) (record x { outs = y.outs })
outputs_step n x y = record {
  is_sum = outputs_sum n x (record x { outs = y.outs }) (λ i l. refl);
  is_cube = λ outputs vx vy. record { asked = vx.asked; wanted = vx.wanted; carried = vy.carried };
}

-- ---- by the set of the inputs in which they differ

-- none
pub same_set : (n : ℕ) (a b : Cube) (apart : ℕ) → ((i : ℕ) → has apart i ≡ differs a b i) → apart ≡ 0
    → IsSum n a b (record a { outs = bit_xor a.outs b.outs })
same_set n a b apart told e =
    outputs_sum n a b (λ i l. differs-not a b i (sym (told i) ∙ ap (λ s. has s i) e ∙ has-none i))

-- one
pub one_set : (n : ℕ) (a b : Cube) (apart p : ℕ) → p < n → n ≤ 16 → a.outs ≡ b.outs
    → ((i : ℕ) → has apart i ≡ differs a b i) → apart ≡ 1 * 2 ^ p % 2 ^ 16
    → IsSum n a b (with_third a b p)
one_set n a b apart p h few o told e =
    let line : apart ≡ 2 ^ p = e ∙ one_shl p 16 (omega arith) in
    let at : (i : ℕ) → differs a b i ≡ eqb i p = λ i. sym (told i) ∙ ap (λ s. has s i) line ∙ has-line p i in
    third_is_sum n a b b p (record {
      within = h;
      differ = at p ∙ eq-eqb p p refl;
      outs = o;
      there = refl;
      others = λ i l ne. sym (differs-not a b i (at i ∙ ne_eqb i p ne));
    })

-- some of the outputs
pub part_cube : (n outputs : ℕ) (cube : Cube) (outs : ℕ) → IsCube n outputs cube
    → IsCube n outputs (record cube { outs = bit_and cube.outs outs })
part_cube n outputs cube outs v = record {
  asked = v.asked;
  wanted = v.wanted;
  carried = (let le = and_le_l cube.outs outs in let lt = v.carried in omega arith);
}
