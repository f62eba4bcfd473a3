-- Two lines traded for each other: in sets, in renamings and in images.
use Rattle.std.proofs.Common.{◌≡◌, ◌≢◌, ℕ, ◌+◌, ◌^◌, ◌<◌, ◌≤◌, Bool, true, false, cond, ◌||◌, eqb, List, [], ◌∷◌, refl, sym, ◌∙◌, ap, inl, inr, arith, eq-eqb, ne_eqb}
use Rattle.std.specs.Prelude.{bit_or, count_ones}
use Rattle.std.proofs.lemmas.Bool.{cases_eq, cases_Bool, cond-true, cond-false}
use Rattle.rv_gate.proofs.LineSets.{has-line, has-or, same_lines}
use Rattle.rv_gate.proofs.inside.GateLemmas.{has-touched}
use Rattle.rv_gate.specs.Word.{has}
use Rattle.rv_gate.specs.Gate.{touches, controls, touched}
use Rattle.rv_gate.specs.declared.gate.Shape.{Shape}
use Rattle.rv_links.specs.Nodes.{incidence, incidences}
use Rattle.rv_templ.specs.Images.{target_of, new_line, renamed, image_of, image}
use Rattle.rv_templ.specs.Pairs.{with_line}
use Rattle.rv_templ.proofs.inside.Incidences.{incidences-cons, ones_law, one_line}
use Rattle.rv_templ.proofs.ImageLaws.{Part, Serves, Serve, renamed_has, renamed_from}
use Rattle.rv_templ.proofs.JoinLaws.{with_line_here, with_line_other}
use Rattle.rv_templ.proofs.inside.PruningLaws.{eqb_same}
use Rattle.rv_gate.proofs.Bits.{same_bool, eqb_refl}

-- the line that stands for a line after v and u were traded
abbrev pub traded : ℕ → ℕ → ℕ → ℕ
traded v u x = cond (eqb x v) u (cond (eqb x u) v x)

pub traded_left : (v u : ℕ) → traded v u v ≡ u
traded_left v u = cond-true (eqb v v) u (cond (eqb v u) v v) (eq-eqb v v refl)

pub traded_right : (v u : ℕ) → traded v u u ≡ v
traded_right v u = grind arith

pub traded_other : (v u x : ℕ) → x ≢ v → x ≢ u → traded v u x ≡ x
traded_other v u x a b = cond-false (eqb x v) u (cond (eqb x u) v x) (ne_eqb x v a) ∙ cond-false (eqb x u) v x (ne_eqb x u b)

-- what holds of v and of u alike, and of all other lines, holds of each line after the trade
pub traded_law : (P : ℕ → ℕ → Type 0) (v u x : ℕ) → P v u → P u v → ((y : ℕ) → y ≢ v → y ≢ u → P y y) → P x (traded v u x)
traded_law P v u x left right other = grind (arith, traded_left, traded_right, traded_other)

pub traded_twice : (v u x : ℕ) → traded v u (traded v u x) ≡ x
traded_twice v u x = traded_law (λ x y. traded v u y ≡ x) v u x (traded_right v u) (traded_left v u) (λ y a b. traded_other v u y a b)

pub traded_same : (p : ℕ → Bool) (v u x : ℕ) → p v ≡ p u → p (traded v u x) ≡ p x
traded_same p v u x e = traded_law (λ x y. p y ≡ p x) v u x (sym e) e (λ y a b. refl)

pub traded_below : (n v u x : ℕ) → v < n → u < n → x < n → traded v u x < n
traded_below n v u x hv hu = traded_law (λ x y. x < n → y < n) v u x (λ h. hu) (λ h. hv) (λ y a b h. h)

-- ---- sets

abbrev pub traded_set : ℕ → ℕ → ℕ → ℕ
traded_set v u set = with_line (with_line set v (has set u)) u (has set v)

pub has-traded : (v u set x : ℕ) → has (traded_set v u set) x ≡ has set (traded v u x)
has-traded v u set x =
    grind (arith, cases_eq, with_line_here, with_line, traded_right, with_line_other, traded_left, traded_other)

pub renamed_traded : (own : ℕ) (to to2 : List ℕ) (v u set x : ℕ) → Part set own → ((j : ℕ) → j < 6 → has own j ≡ true → new_line to2 j ≡ traded v u (new_line to j))
    → has (renamed to2 set) x ≡ has (renamed to set) (traded v u x)
renamed_traded own to to2 v u set x sub each =
    grind (arith, same_bool, renamed_from, new_line, traded_twice, renamed_has)

-- a renamed set with fresh lines
pub both_traded : (own : ℕ) (to to2 : List ℕ) (v u set care x : ℕ) → Part set own → ((j : ℕ) → j < 6 → has own j ≡ true → new_line to2 j ≡ traded v u (new_line to j))
    → has (bit_or (renamed to2 set) (traded_set v u care)) x ≡ has (bit_or (renamed to set) care) (traded v u x)
both_traded own to to2 v u set care x sub each =
    rw (has-or (renamed to2 set) (traded_set v u care) x, renamed_traded own to to2 v u set x sub each, has-traded v u care x) (sym (has-or (renamed to set) care (traded v u x)))

-- ---- how many lines

-- as many after the trade
count_traded : (p q v u : ℕ) → ((x : ℕ) → has q x ≡ has p (traded v u x)) → count_ones q ≤ count_ones p
count_traded p q v u at =
    elim (cases_eq u v) [
      | inl s ↦ same (λ x. at x ∙ traded_same (has p) v u x (ap (has p) (sym s)))
      | inr ne ↦ (elim (cases_Bool (has p v)) [
        | inl on ↦ (elim (cases_Bool (has p u)) [
          | inl on2 ↦ same (λ x. at x ∙ traded_same (has p) v u x (on ∙ sym on2))
          | inr off ↦ moved v u ne on off at
        ])
        | inr off ↦ (elim (cases_Bool (has p u)) [
          | inl on ↦ moved u v (λ e. ne (sym e)) on off (λ x. at x ∙ ap (has p) (other_way v u x))
          | inr off2 ↦ same (λ x. at x ∙ traded_same (has p) v u x (off ∙ sym off2))
        ])
      ])
    ]
  where
    same : ((x : ℕ) → has q x ≡ has p x) → count_ones q ≤ count_ones p
    same h = let e = ap count_ones (same_lines q p h) in omega arith

    other_way : (v u x : ℕ) → traded v u x ≡ traded u v x
    other_way v u x = traded_law (λ x y. y ≡ traded u v x) v u x (sym (traded_right u v)) (sym (traded_left u v)) (λ y a b. sym (traded_other u v y b a))

    -- v is a line of p, and u comes in its place
    moved : (v u : ℕ) → u ≢ v → has p v ≡ true → has p u ≡ false → ((x : ℕ) → has q x ≡ has p (traded v u x)) → count_ones q ≤ count_ones p
    moved v u ne on off at =
        let le = ones_law (q + 2 ^ v) q (2 ^ v) p (2 ^ u) (omega arith) (omega arith) (λ i. rw (at i, has-line v i, has-line u i)
        (traded_law (λ x y. cond (has p y) 1 0 + cond (eqb x v) 1 0 ≤ cond (has p x) 1 0 + cond (eqb x u) 1 0) v u i
        (rw (off, on, eqb_refl v) (omega arith)) (rw (on, off, ne_eqb u v ne, eqb_refl u) (omega arith)) (λ y a b. rw (ne_eqb y v a, ne_eqb y u b) (omega arith)))) in
        omega (arith, le, one_line v, one_line u)

-- ---- images

pub touched_traded : (own : ℕ) (to to2 : List ℕ) (care want v u x : ℕ) (g : Shape) → Serves own g → ((j : ℕ) → j < 6 → has own j ≡ true → new_line to2 j ≡ traded v u (new_line to j))
    → touches (image_of to2 (traded_set v u care) (traded_set v u want) g) x ≡ touches (image_of to care want g) (traded v u x)
touched_traded own to to2 care want v u x g s each =
    let t : ℕ = new_line to (target_of g) in
    let t2 : ℕ = new_line to2 (target_of g) in
    let at : t2 ≡ traded v u t = each (target_of g) s.target s.owned in
    ap (λ b. b || eqb x t2) (both_traded own to to2 v u (controls g) care x s.care each)
    ∙ ap (λ b. has (bit_or (renamed to (controls g)) care) (traded v u x) || b)
    (eqb_same x t2 (traded v u x) t (λ e. ap (traded v u) (e ∙ at) ∙ traded_twice v u t) (λ e. sym (traded_twice v u x) ∙ ap (traded v u) e ∙ sym at))

pub size_traded : (own : ℕ) (to to2 : List ℕ) (care want v u : ℕ) (gates : List Shape) → Serve own gates → ((j : ℕ) → j < 6 → has own j ≡ true → new_line to2 j ≡ traded v u (new_line to j))
    → incidences (image to2 (traded_set v u care) (traded_set v u want) gates) ≤ incidences (image to care want gates)
size_traded own to to2 care want v u [] s each = omega arith
size_traded own to to2 care want v u (g ∷ rest) s each =
    let old : Shape = image_of to care want g in
    let new : Shape = image_of to2 (traded_set v u care) (traded_set v u want) g in
    let one : incidence new ≤ incidence old =
    count_traded (touched old) (touched new) v u (λ x. has-touched new x ∙ touched_traded own to to2 care want v u x g s.0 each ∙ sym (has-touched old (traded v u x))) in
    let more = size_traded own to to2 care want v u rest s.1 each in
    omega (arith, one, more, incidences-cons new (image to2 (traded_set v u care) (traded_set v u want) rest), incidences-cons old (image to care want rest))
