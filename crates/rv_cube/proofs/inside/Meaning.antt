-- What a reduced list means.
use Rattle.std.proofs.Common.{◌≡◌, ℕ, List, sym, subst}
use Rattle.rv_pla.specs.declared.cube.Cube.{Cube}
use Rattle.rv_pla.specs.Pla.{TwoLevel}
use Rattle.rv_cube.specs.Dashes.{IsDashed}
use Rattle.rv_cube.specs.Reduction.{reduced}
use Rattle.rv_cube.specs.ReductionFor.{reduced_for}
use Rattle.rv_cube.specs.inside.Meaning.{AreReduced, AreReducedFor}
use Rattle.rv_cube.proofs.Dashes.{reduced_dashed}
use Rattle.rv_cube.proofs.Irreducible.{irreducible, irreducible_for}
use Rattle.rv_cube.proofs.Reduced.{is_reduced}
use Rattle.rv_cube.proofs.ReducedFor.{is_reduced_for}

pub are_reduced : (n : ℕ) (old new : List Cube) → new ≡ reduced n old → AreReduced n old new
are_reduced n old new e =
    let r = is_reduced n 0 old new e in
    record {
      kept = r.value_kept;
      dashes = λ input all. let P : List Cube → Type 0 = IsDashed input in subst P (sym e) (reduced_dashed input n old all);
      valid = λ outputs. (is_reduced n outputs old new e).valid;
      no_more = r.no_longer;
      settled = r.settled;
      irreducible = irreducible n new r.settled;
    }

pub are_reduced_for : (pla : TwoLevel) (old new : List Cube) → new ≡ reduced_for pla old → AreReducedFor pla old new
are_reduced_for pla old new e =
    let r = is_reduced_for pla 0 old new e in
    record {
      right = r.right;
      valid = λ outputs. (is_reduced_for pla outputs old new e).valid;
      no_more = r.no_longer;
      settled = r.settled;
      irreducible = irreducible_for pla new r.settled;
    }
