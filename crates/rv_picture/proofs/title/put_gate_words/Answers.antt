use Rattle.std.proofs.Common.{sym, ◌∙◌}
use Rattle.rv_gate.proofs.inside.GateLemmas.{fits_flip, fits_flip_care, fits_swap_care, fits_swap_a, fits_swap_b, fits_peres_a, fits_peres_b, fits_peres_c}
use Rattle.rv_picture.proofs.title.put_gate_words.Goals as goal

pub put_flip-requires-clause-care_in : goal.put_flip-requires-clause-care_in
put_flip-requires-clause-care_in g c = fits_flip_care _ _ _ _ _ (sym c.shape.ensures.value ∙ c.in-Flip.is) c.requires.fits

pub put_flip-requires-clause-target_in : goal.put_flip-requires-clause-target_in
put_flip-requires-clause-target_in g c = fits_flip _ _ _ _ _ (sym c.shape.ensures.value ∙ c.in-Flip.is) c.requires.fits

pub put_swap-requires-clause-care_in : goal.put_swap-requires-clause-care_in
put_swap-requires-clause-care_in g c = fits_swap_care _ _ _ _ _ _ (sym c.shape.ensures.value ∙ c.in-Swap.is) c.requires.fits

pub put_swap-requires-clause-a_in : goal.put_swap-requires-clause-a_in
put_swap-requires-clause-a_in g c = fits_swap_a _ _ _ _ _ _ (sym c.shape.ensures.value ∙ c.in-Swap.is) c.requires.fits

pub put_swap-requires-clause-b_in : goal.put_swap-requires-clause-b_in
put_swap-requires-clause-b_in g c = fits_swap_b _ _ _ _ _ _ (sym c.shape.ensures.value ∙ c.in-Swap.is) c.requires.fits

pub put_peres-requires-clause-a_in : goal.put_peres-requires-clause-a_in
put_peres-requires-clause-a_in g c = fits_peres_a _ _ _ _ _ (sym c.shape.ensures.value ∙ c.in-Peres.is) c.requires.fits

pub put_peres-requires-clause-b_in : goal.put_peres-requires-clause-b_in
put_peres-requires-clause-b_in g c = fits_peres_b _ _ _ _ _ (sym c.shape.ensures.value ∙ c.in-Peres.is) c.requires.fits

pub put_peres-requires-clause-c_in : goal.put_peres-requires-clause-c_in
put_peres-requires-clause-c_in g c = fits_peres_c _ _ _ _ _ (sym c.shape.ensures.value ∙ c.in-Peres.is) c.requires.fits
