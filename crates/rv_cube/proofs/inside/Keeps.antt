-- What a list keeps while it is reduced.
use Rattle.std.proofs.Common.{◌≡◌, ℕ, ◌<◌, Bool, true, false, List, length, set, sym, ◌∙◌, subst, arith, length-set}
use Rattle.std.specs.Prelude.{All}
use Rattle.std.proofs.lemmas.List.Elements.{All-weaker}
use Rattle.rv_pla.specs.Cube.{IsCube}
use Rattle.rv_pla.specs.declared.cube.Cube.{Cube}
use Rattle.rv_pla.specs.declared.cube.TheConstants.{MOST_OUTPUTS}
use Rattle.rv_cube.specs.Reduction.{no_cube}
use Rattle.rv_cube.specs.inside.Slots.{carries, full, settled}
use Rattle.rv_cube.specs.inside.Watching.{Marks, IsMerging, IsExorlinking, IsListedNear}
use Rattle.rv_cube.specs.inside.Slotted.{Slotted}
use Rattle.rv_cube.specs.inside.Reducing.{IsReduction}
use Rattle.rv_cube.proofs.inside.Full.{full_within, no_cube_valid, valid_set}
use Rattle.rv_cube.proofs.inside.Watched.{watched_clear, watched_settled}
use Rattle.rv_cube.proofs.inside.Watching.{pairs_due}
use Rattle.rv_cube.proofs.inside.MergesIn.{settled_length, keyed_clear, settled_keyed, settled_valid}

pub clear_keeps : (old new : Slotted) (i : ℕ) (merges exorlinks : List Bool) → IsReduction old.inputs old.cubes merges exorlinks
    → new ≡ record old { cubes = set old.cubes i no_cube } → IsReduction new.inputs new.cubes merges exorlinks
clear_keeps old new i merges exorlinks h e = grind (arith, length-set, valid_set, no_cube_valid, keyed_clear, watched_clear)

-- what is asked of a cube that is put into slot i
pub record Puts (old : Slotted) (i : ℕ) (cube : Cube) : Type 0 where
  pub within : i < length old.cubes
  pub empty : full old.cubes i ≡ false
  pub some : carries cube ≡ true
  pub own : IsCube old.inputs MOST_OUTPUTS cube

-- the slots of the list stay slots
pub near_within : (old new : Slotted) (i : ℕ) (cube : Cube) (near now : List ℕ) → All (λ b. full old.cubes b ≡ true) near → now ≡ near
    → new ≡ record old { cubes = settled old.inputs old.cubes i cube } → All (λ b. b < length new.cubes) now
near_within old new i cube near now all n e = grind (arith, settled_length, All-weaker, full_within)

-- the rows that are due after it came in, by a list of the slots that were near it
pub record Watches (new : Slotted) (cube : Cube) (near : List ℕ) (merges exorlinks new_merges new_exorlinks : List Bool) : Type 0 where
  pub merging : Marks (IsMerging new.inputs new.cubes cube) merges new_merges
  pub exorlinking : Marks (IsExorlinking new.inputs new.cubes cube near) exorlinks new_exorlinks

pub put_keeps : (old new : Slotted) (i : ℕ) (cube : Cube) (near : List ℕ) (merges exorlinks new_merges new_exorlinks : List Bool)
    → IsReduction old.inputs old.cubes merges exorlinks → Puts old i cube → IsListedNear old.inputs old.cubes cube exorlinks near
    → new ≡ record old { cubes = settled old.inputs old.cubes i cube }
    → Watches new cube near merges exorlinks new_merges new_exorlinks → IsReduction new.inputs new.cubes new_merges new_exorlinks
put_keeps old new i cube near merges exorlinks new_merges new_exorlinks h p m e w =
    let P : Slotted → Type 0 = λ v. IsReduction v.inputs v.cubes new_merges new_exorlinks in
    let Q : Slotted → Type 0 = λ v. Watches v cube near merges exorlinks new_merges new_exorlinks in
    let x = subst Q e w in
    let l = settled_length old.inputs old.cubes i cube in
    let valid = settled_valid old.inputs MOST_OUTPUTS old.cubes i cube h.valid p.own in
    let keyed = settled_keyed old.inputs old.cubes i cube h.keyed p.some p.within p.empty in
    subst P (sym e) (record {
      valid = valid;
      keyed = keyed;
      as_many_merges = x.merging.as_many ∙ h.as_many_merges ∙ sym l;
      as_many_exorlinks = x.exorlinking.as_many ∙ h.as_many_exorlinks ∙ sym l;
      watched = watched_settled old.inputs old.cubes i cube merges exorlinks new_merges new_exorlinks p.within p.empty h.watched
          x.merging.stays x.exorlinking.stays
          (pairs_due old.inputs cube old.cubes (settled old.inputs old.cubes i cube) near merges exorlinks new_merges new_exorlinks valid keyed
          (h.as_many_exorlinks ∙ sym l) m x.merging x.exorlinking);
    })
