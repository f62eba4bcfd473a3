-- What a cube makes of the slots where a full slot has its inputs.
use Rattle.std.proofs.Common.{◌≡◌, ◌≢◌, ℕ, ◌<◌, ◌≤◌, Bool, true, false, cond, List, length, set, sym, ◌∙◌, ap, inl, inr, arith, get_or-set_same, get_or-set_other, get_or}
use Rattle.std.specs.Prelude.{Some, bit_xor, nat_lt}
use Rattle.std.proofs.lemmas.Bool.{lt-ltb, le-ltb}
use Rattle.std.proofs.lemmas.Nat.{xor_comm}
use Rattle.std.proofs.lemmas.List.{set_comm, set-set, get_or_default}
use Rattle.rv_pla.specs.declared.cube.Cube.{Cube}
use Rattle.rv_cube.specs.Reduction.{no_cube, at, carrying}
use Rattle.rv_cube.specs.inside.Slots.{full, is_alike, slot_of, or_empty, merge_in, merged_in, settled, settled_by, key_of}
use Rattle.rv_cube.specs.inside.Slotted.{IsReplaced}
use Rattle.rv_cube.proofs.inside.Merges.{both}
use Rattle.rv_cube.proofs.inside.Full.{full_within, apart_from}
use Rattle.rv_cube.proofs.inside.Keys.{alike_care, alike_want, slot_of-some}
use Rattle.rv_cube.proofs.inside.Noting.{key_alike, alike_key}
use Rattle.rv_cube.proofs.inside.MergesIn.{merge_in_same}

-- the slot that was found
pub record Twin (slots : List Cube) (i j : ℕ) (cube : Cube) : Type 0 where
  pub found : slot_of slots cube ≡ Some j
  pub stands : full slots j ≡ true
  pub key : key_of (at slots j) ≡ key_of cube
  pub within : j < length slots
  pub other : i ≢ j

pub twin_is : (slots : List Cube) (i j : ℕ) (cube : Cube) → slot_of slots cube ≡ Some j → full slots i ≡ false → Twin slots i j cube
twin_is slots i j cube e empty =
    let s = slot_of-some slots cube j e in
    record {
      found = e;
      stands = s.0;
      key = alike_key (at slots j) cube s.1;
      within = full_within slots j s.0;
      other = λ x. apart_from slots i j empty s.0 (sym x);
    }

both-comm : (x y : Cube) → is_alike x y ≡ true → both x y ≡ both y x
both-comm x y h = grind (arith, bit_xor, alike_care, alike_want, xor_comm)

settled_choice : (n : ℕ) (slots : List Cube) (i j : ℕ) (cube : Cube) (t : Bool) → Twin slots i j cube → nat_lt i j ≡ t
    → settled n slots i cube ≡ cond t (merged_in n (set slots i cube) i j) (merged_in n (set slots i cube) j i)
settled_choice n slots i j cube t h e =
    ap (λ o. settled_by o n slots i cube) h.found ∙ ap (λ b. cond b (merged_in n (set slots i cube) i j) (merged_in n (set slots i cube) j i)) e

settled_below : (n : ℕ) (slots : List Cube) (i j : ℕ) (cube : Cube) → Twin slots i j cube → i < length slots → i < j
    → settled n slots i cube ≡ set (set slots j no_cube) i (or_empty (carrying (both cube (at slots j))))
settled_below n slots i j cube h l ij =
    grind (
      arith,
      or_empty,
      settled_choice,
      lt-ltb,
      no_cube,
      merge_in,
      get_or-set_same,
      get_or-set_other,
      merge_in_same,
      key_alike,
      set_comm,
      set-set,
    )

settled_above : (n : ℕ) (slots : List Cube) (i j : ℕ) (cube : Cube) → Twin slots i j cube → i < length slots → j ≤ i
    → settled n slots i cube ≡ set (set slots i no_cube) j (or_empty (carrying (both cube (at slots j))))
settled_above n slots i j cube h l ji =
    grind (
      arith,
      is_alike,
      key_alike,
      or_empty,
      settled_choice,
      le-ltb,
      no_cube,
      merge_in,
      get_or-set_same,
      get_or-set_other,
      merge_in_same,
      both-comm,
      set-set,
    )

pub replaced_below : (slots : List Cube) (i j : ℕ) (cube x : Cube) → Twin slots i j cube → full slots i ≡ false → key_of x ≡ key_of cube → IsReplaced slots i j x
replaced_below slots i j cube x h empty e = inr (empty, h.stands, h.key ∙ sym e)

pub replaced_above : (slots : List Cube) (i j : ℕ) (cube x : Cube) → Twin slots i j cube → full slots i ≡ false → key_of x ≡ key_of cube → IsReplaced slots j i x
replaced_above slots i j cube x h empty e = inl (h.stands, h.key ∙ sym e, empty)

pub twin_cube : (slots now : List Cube) (i j : ℕ) (cube y : Cube) → slots ≡ now → Twin now i j cube → y ≡ get_or slots j y → y ≡ at now j
twin_cube slots now i j cube y e h is = grind (arith, get_or_default, no_cube)

pub merged_in_below : (n : ℕ) (slots : List Cube) (i j : ℕ) (cube y : Cube) → Twin slots i j cube → y ≡ at slots j → i < length slots → i < j
    → set (set slots j no_cube) i (or_empty (carrying (both cube y))) ≡ settled n slots i cube
merged_in_below n slots i j cube y h e l ij =
    ap (λ z. set (set slots j no_cube) i (or_empty (carrying (both cube z)))) e ∙ sym (settled_below n slots i j cube h l ij)

pub merged_in_above : (n : ℕ) (slots : List Cube) (i j : ℕ) (cube y : Cube) → Twin slots i j cube → y ≡ at slots j → i < length slots → j ≤ i
    → set (set slots i no_cube) j (or_empty (carrying (both cube y))) ≡ settled n slots i cube
merged_in_above n slots i j cube y h e l ij = grind (arith, no_cube, or_empty, settled_above)

-- two slots with the same inputs become one
pub ruleset become_one = (twin_is, twin_cube, merged_in_below, merged_in_above, replaced_below, replaced_above)
