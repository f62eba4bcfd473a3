-- What an image does to a word.
use Rattle.std.proofs.Common.{◌≡◌, ◌≢◌, ℕ, ◌^◌, ◌<◌, Bool, true, false, not, cond, List, [], ◌∷◌, length, set, map, refl, sym, ◌∙◌, ap, inl, inr, arith, eq-eqb, ne_eqb, subst, ext_get_or, length-set, get_or-set_same, get_or-set_other}
use Rattle.std.specs.Prelude.{bit_or}
use Rattle.std.specs.List.{range_with_len}
use Rattle.std.proofs.lemmas.Bool.{cases_eq, cases_Bool, false≢true, or_cases, or_left, or_right, cond-true, cond-false, false_from_ne_true}
use Rattle.std.proofs.lemmas.Bool.Decides.{same_from_decides}
use Rattle.std.proofs.lemmas.List.FromFn.{length-map-range_with_len, get_or-map-range_with_len}
use Rattle.rv_gate.proofs.LineSets.{has-line, has-none, has-or}
use Rattle.rv_templ.specs.Gates.{Identity}
use Rattle.rv_gate.specs.Word.{has, bit_of}
use Rattle.rv_gate.specs.Gate.{holds, flip, act, run, IsGate, IsFlip, controls, wanted}
use Rattle.rv_gate.specs.declared.gate.Shape.{Shape}
use Rattle.rv_gate.specs.declared.gate.Shape.TheVariants.{Flip, Swap, Peres}
use Rattle.rv_gate.proofs.inside.GateLemmas.{Hold, holds_Decides}
use Rattle.rv_templ.specs.Images.{target_of, new_line, renamed, image_of, image}
use Rattle.rv_templ.proofs.inside.FoldLemmas.{union_part, part_of_union}

-- ---- renamed sets

abbrev pub part : List ℕ → ℕ → ℕ → ℕ
part to set i = cond (has set i) (2 ^ new_line to i) 0

pub renamed_has : (to : List ℕ) (set i : ℕ) → i < 6 → has set i ≡ true → has (renamed to set) (new_line to i) ≡ true
renamed_has to set i h on =
    union_part (part to set) 6 i (new_line to i) h
    (ap (λ s. has s (new_line to i)) (cond-true (has set i) (2 ^ new_line to i) 0 on) ∙ has-line (new_line to i) (new_line to i) ∙ eq-eqb (new_line to i) (new_line to i) refl)

part_has : (to : List ℕ) (set i v : ℕ) → has (part to set i) v ≡ true → (has set i ≡ true) × (v ≡ new_line to i)
part_has to set i v e = grind (arith, cases_Bool, new_line, cond-true, has-line, has-none, cond-false, cases_eq, ne_eqb)

pub renamed_from : (to : List ℕ) (set v : ℕ) → has (renamed to set) v ≡ true → (i : ℕ) × (i < 6) × (has set i ≡ true) × (v ≡ new_line to i)
renamed_from to set v e = grind (arith, part_of_union, part_has)

-- no two lines of own become one
abbrev pub Apart : ℕ → List ℕ → Type 0
Apart own to = (i j : ℕ) → i < 6 → j < 6 → has own i ≡ true → has own j ≡ true → new_line to i ≡ new_line to j → i ≡ j

abbrev pub Part : ℕ → ℕ → Type 0
Part a b = (line : ℕ) → has a line ≡ true → has b line ≡ true

pub renamed_at : (own : ℕ) (to : List ℕ) (set i : ℕ) → Apart own to → Part set own → i < 6 → has own i ≡ true → has (renamed to set) (new_line to i) ≡ has set i
renamed_at own to set i apart sub h on =
    grind (arith, cases_Bool, renamed_has, false_from_ne_true, new_line, renamed_from)

-- ---- renamings with fresh controls

pub record Renames (own : ℕ) (to : List ℕ) (care want : ℕ) : Type 0 where
  pub apart : Apart own to
  -- fresh controls stand on other lines
  pub free : (i : ℕ) → i < 6 → has own i ≡ true → has care (new_line to i) ≡ false
  pub wants : Part want care

-- a flip of the template
pub record Serves (own : ℕ) (g : Shape) : Type 0 where
  pub flips : IsFlip g
  pub gate : IsGate g
  pub care : Part (controls g) own
  pub want : Part (wanted g) (controls g)
  pub target : target_of g < 6
  pub owned : has own (target_of g) ≡ true
  pub fits : (line : ℕ) → has (controls g) line ≡ true → line < 6

abbrev pub Serve : ℕ → List Shape → Type 0
Serve own [] = Unit {0}
Serve own (g ∷ rest) = Serves own g × Serve own rest

-- the line is none of the renamed ones
abbrev pub Other : ℕ → List ℕ → ℕ → Type 0
Other own to v = (i : ℕ) → i < 6 → has own i ≡ true → v ≢ new_line to i

pub care_other : (own : ℕ) (to : List ℕ) (care want v : ℕ) → Renames own to care want → has care v ≡ true → Other own to v
care_other own to care want v r e i h on s = false≢true (sym (r.free i h on) ∙ ap (has care) (sym s) ∙ e)

-- the word x of a circuit, which was x0, and the word u of the template go together
pub record Follows (own : ℕ) (to : List ℕ) (x0 x u : List Bool) : Type 0 where
  pub len : length x ≡ length x0
  pub six : length u ≡ 6
  pub on : (i : ℕ) → i < 6 → has own i ≡ true → bit_of x (new_line to i) ≡ bit_of u i
  pub off : (v : ℕ) → Other own to v → bit_of x v ≡ bit_of x0 v

abbrev pub InRange : ℕ → List ℕ → ℕ → Type 0
InRange own to n = (i : ℕ) → i < 6 → has own i ≡ true → new_line to i < n

abbrev pub all_care : List ℕ → ℕ → Shape → ℕ
all_care to care g = bit_or (renamed to (controls g)) care

-- the wanted values on a renamed line, and on another
pub want_renamed : (own : ℕ) (to : List ℕ) (care want : ℕ) (g : Shape) (i : ℕ) → Renames own to care want → Serves own g → i < 6 → has own i ≡ true
    → has (all_care to want (Flip (wanted g) 0 0)) (new_line to i) ≡ has (wanted g) i
want_renamed own to care want g i r s h on = grind (arith, new_line, false_from_ne_true, has-or, renamed_at)

want_other : (own : ℕ) (to : List ℕ) (want : ℕ) (g : Shape) (v : ℕ) → Serves own g → Other own to v → has (all_care to want (Flip (wanted g) 0 0)) v ≡ has want v
want_other own to want g v s o = grind (arith, false_from_ne_true, renamed_from, has-or)

pub held_image : (own : ℕ) (to : List ℕ) (care want : ℕ) (g : Shape) (x0 x u : List Bool) → Renames own to care want → Serves own g → InRange own to (length x0)
    → Follows own to x0 x u → Hold care want x → holds (all_care to care g) (all_care to want (Flip (wanted g) 0 0)) x ≡ holds (controls g) (wanted g) u
held_image own to care want g x0 x u r s range f fresh =
    let d = holds_Decides (all_care to care g) (all_care to want (Flip (wanted g) 0 0)) x in
    let e = holds_Decides (controls g) (wanted g) u in
    same_from_decides {P = Hold (controls g) (wanted g) u} _ _ (
      λ t i h on.
          let own_i = s.care i on in
          let six = s.fits i on in
          sym (f.on i six own_i)
          ∙ d.0 t (new_line to i) (omega (arith, range i six own_i, f.len)) (has-or (renamed to (controls g)) care (new_line to i) ∙ or_left (has (renamed to (controls g)) (new_line to i)) _ (renamed_has to (controls g) i six on))
          ∙ want_renamed own to care want g i r s six own_i,
      λ p. d.1 (λ v h on.
          elim (or_cases (has (renamed to (controls g)) v) (has care v) (sym (has-or (renamed to (controls g)) care v) ∙ on)) [
            | inl mine ↦
                let q = renamed_from to (controls g) v mine in
                let own_i = s.care q.0 q.2 in
                ap (bit_of x) q.3 ∙ f.on q.0 q.1 own_i ∙ p q.0 (omega (arith, q.1, f.six)) q.2
                ∙ sym (want_renamed own to care want g q.0 r s q.1 own_i)
                ∙ ap (has (all_care to want (Flip (wanted g) 0 0))) (sym q.3)
            | inr theirs ↦
                fresh v h theirs ∙ sym (want_other own to want g v s (care_other own to care want v r theirs))
          ]),
    )
    e

-- the fresh controls hold all along, since no gate changes their lines
pub fresh_kept : (own : ℕ) (to : List ℕ) (care want : ℕ) (x0 x u : List Bool) → Renames own to care want → Follows own to x0 x u → Hold care want x0 → Hold care want x
fresh_kept own to care want x0 x u r f h v lt on = f.off v (care_other own to care want v r on) ∙ h v (omega (arith, lt, f.len)) on

act_on : (c w t : ℕ) (word : List Bool) → holds c w word ≡ true → act (Flip c w t) word ≡ flip word t
act_on c w t word h = cond-true (holds c w word) (flip word t) word h

act_off : (c w t : ℕ) (word : List Bool) → holds c w word ≡ false → act (Flip c w t) word ≡ word
act_off c w t word h = cond-false (holds c w word) (flip word t) word h

-- a flip that acts, on both sides
flipped : (own : ℕ) (to : List ℕ) (t : ℕ) (x0 x u : List Bool) → Apart own to → InRange own to (length x0) → t < 6 → has own t ≡ true
    → Follows own to x0 x u → Follows own to x0 (flip x (new_line to t)) (flip u t)
flipped own to t x0 x u apart range h own_t f = record {
  len = length-set x (new_line to t) _ ∙ f.len;
  six = length-set u t _ ∙ f.six;
  on = λ i hi own_i.
      elim (cases_eq i t) [
        | inl s ↦
            ap (λ k. bit_of (flip x (new_line to t)) (new_line to k)) s
            ∙ get_or-set_same x (new_line to t) (not (bit_of x (new_line to t))) false (omega (arith, range t h own_t, f.len))
            ∙ ap not (f.on t h own_t)
            ∙ sym (get_or-set_same u t (not (bit_of u t)) false (omega (arith, f.six)))
            ∙ ap (λ k. bit_of (flip u t) k) (sym s)
        | inr ne ↦
            get_or-set_other x (new_line to t) (new_line to i) (not (bit_of x (new_line to t))) false (λ e. ne (apart i t hi h own_i own_t e))
            ∙ f.on i hi own_i
            ∙ sym (get_or-set_other u t i (not (bit_of u t)) false ne)
      ];
  off = λ v o. get_or-set_other x (new_line to t) v (not (bit_of x (new_line to t))) false (o t h own_t) ∙ f.off v o;
}

pub follows_more : (own : ℕ) (to : List ℕ) (care want : ℕ) (g : Shape) (x0 x u : List Bool) → Renames own to care want → Serves own g → InRange own to (length x0)
    → Hold care want x0 → Follows own to x0 x u → Follows own to x0 (act (image_of to care want g) x) (act g u)
follows_more own to care want (Flip c w t) x0 x u r s range h f =
    let e = held_image own to care want (Flip c w t) x0 x u r s range f (fresh_kept own to care want x0 x u r f h) in
    elim (cases_Bool (holds c w u)) [
      | inl on ↦
          subst (λ (y : List Bool). Follows own to x0 y (act (Flip c w t) u)) (sym (act_on (bit_or (renamed to c) care) (bit_or (renamed to w) want) (new_line to t) x (e ∙ on)))
          (subst (λ (y : List Bool). Follows own to x0 (flip x (new_line to t)) y) (sym (act_on c w t u on)) (flipped own to t x0 x u r.apart range s.target s.owned f))
      | inr off ↦
          subst (λ (y : List Bool). Follows own to x0 y (act (Flip c w t) u)) (sym (act_off (bit_or (renamed to c) care) (bit_or (renamed to w) want) (new_line to t) x (e ∙ off)))
          (subst (λ (y : List Bool). Follows own to x0 x y) (sym (act_off c w t u off)) f)
    ]
follows_more own to care want (Swap c w a b) x0 x u r s range h f = absurd (false≢true s.flips)
follows_more own to care want (Peres a b d) x0 x u r s range h f = absurd (false≢true s.flips)

pub follows_all : (own : ℕ) (to : List ℕ) (care want : ℕ) (gates : List Shape) (x0 x u : List Bool) → Renames own to care want → Serve own gates → InRange own to (length x0)
    → Hold care want x0 → Follows own to x0 x u → Follows own to x0 (run (image to care want gates) x) (run gates u)
follows_all own to care want [] x0 x u r s range h f = f
follows_all own to care want (g ∷ rest) x0 x u r s range h f =
    follows_all own to care want rest x0 (act (image_of to care want g) x) (act g u) r s.1 range h (follows_more own to care want g x0 x u r s.0 range h f)

-- where the fresh controls don't hold, nothing happens
idle_one : (own : ℕ) (to : List ℕ) (care want : ℕ) (g : Shape) (x : List Bool) → Renames own to care want → Serves own g → holds care want x ≡ false → act (image_of to care want g) x ≡ x
idle_one own to care want g x r s off =
    let d = holds_Decides (all_care to care g) (all_care to want (Flip (wanted g) 0 0)) x in
    let e = holds_Decides care want x in
    act_off (all_care to care g) (all_care to want (Flip (wanted g) 0 0)) (new_line to (target_of g)) x
    (false_from_ne_true _ (λ t.
    false≢true (sym off ∙ e.1 (λ v h on.
    d.0 t v h (has-or (renamed to (controls g)) care v ∙ or_right (has (renamed to (controls g)) v) _ on)
    ∙ want_other own to want g v s (care_other own to care want v r on)))))

idle_all : (own : ℕ) (to : List ℕ) (care want : ℕ) (gates : List Shape) (x : List Bool) → Renames own to care want → Serve own gates → holds care want x ≡ false → run (image to care want gates) x ≡ x
idle_all own to care want [] x r s off = refl
idle_all own to care want (g ∷ rest) x r s off =
    ap (run (image to care want rest)) (idle_one own to care want g x r s.0 off) ∙ idle_all own to care want rest x r s.1 off

-- the bits of a word on the renamed lines
seen : List ℕ → List Bool → List Bool
seen to x = map (λ i. bit_of x (new_line to i)) (range_with_len 0 6)

follows_start : (own : ℕ) (to : List ℕ) (x : List Bool) → Follows own to x x (seen to x)
unfolding seen
follows_start own to x = record {
  len = refl;
  six = length-map-range_with_len (λ i. bit_of x (new_line to i)) 0 6;
  on = λ i h own_i. sym (get_or-map-range_with_len (λ i. bit_of x (new_line to i)) 0 6 i i false h (omega arith));
  off = λ v o. refl;
}

follows_end : (own : ℕ) (to : List ℕ) (x0 x u : List Bool) → Follows own to x0 x0 u → Follows own to x0 x u → x ≡ x0
follows_end own to x0 x u a b =
    ext_get_or false x x0 b.len (λ v h.
    elim (cases_Bool (has (renamed to own) v)) [
      | inl mine ↦ let p = renamed_from to own v mine in ap (bit_of x) p.3 ∙ b.on p.0 p.1 p.2 ∙ sym (a.on p.0 p.1 p.2) ∙ ap (bit_of x0) (sym p.3)
      | inr none ↦ b.off v (λ i hi own_i s. false≢true (sym none ∙ ap (has (renamed to own)) s ∙ renamed_has to own i hi own_i))
    ])

-- an image of an identity is an identity
pub image_identity : (own : ℕ) (to : List ℕ) (care want : ℕ) (gates : List Shape) (n : ℕ) → Renames own to care want → Serve own gates → InRange own to n
    → Identity 6 gates → Identity n (image to care want gates)
image_identity own to care want gates n r s range same x len =
    elim (cases_Bool (holds care want x)) [
      | inl on ↦
          let h = (holds_Decides care want x).0 on in
          let start = follows_start own to x in
          let range_x : InRange own to (length x) = subst (λ (k : ℕ). InRange own to k) (sym len) range in
          let done = follows_all own to care want gates x x (seen to x) r s range_x h start in
          follows_end own to x (run (image to care want gates) x) (seen to x) start
          (subst (λ (y : List Bool). Follows own to x (run (image to care want gates) x) y) (same (seen to x) start.six) done)
      | inr off ↦ idle_all own to care want gates x r s off
    ]
