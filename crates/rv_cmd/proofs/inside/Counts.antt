-- The counts of faults, where no call failed.
use Rattle.std.proofs.Common.{◌≡◌, ℕ, List, Ok, Err, refl, sym, subst, ◌∙◌}
use Rattle.std.specs.Prelude.{IfErr, IfOk}
use Rattle.rv_io.specs.Files.{FilesView}
use Rattle.rv_io.specs.Sink.{SinkView}
use Rattle.rv_faults.specs.declared.fault.Fault.{Fault}
use Rattle.rv_faults.specs.declared.fault.Fault.TheVariants as fault
use Rattle.rv_faults.specs.declared.fault.Unmade.{Unmade}
use Rattle.rv_faults.specs.declared.fault.Unmade.TheVariants.{CannotRead, Refused, TooLong, OutOfMemory}
use Rattle.rv_faults.specs.Fault.{fault_of}
use Rattle.rv_inputs.specs.Formats.{Format}
use Rattle.rv_inputs.specs.Reading.{IsUnreadInput}
use Rattle.rv_cmd.specs.declared.product.Made.{Made}
use Rattle.rv_cmd.specs.Headline.{LeavesCounts}
use Rattle.rv_cmd.specs.Row.{End, Row, answers_as_it_reads, reads_first}
use Rattle.rv_cmd.specs.inside.Making.{MakesBy}
use Rattle.rv_cmd.specs.inside.Products.{product_text}
use Rattle.rv_cmd.specs.inside.Sending.{IsBroken, IsWhole}

-- nothing is made
pub counts_unmade : (row : Row) (names : List (List ℕ)) (old new : FilesView) (out : SinkView) (it : Unmade) → MakesBy row names old new (Err it)
    → LeavesCounts (Err (fault_of it)) (record { files = old; out = out }) (record { files = new; out = out })
counts_unmade (answers_as_it_reads row) names old new out it u = absurd u
counts_unmade (reads_first row) names old new out (CannotRead input) u = tt
counts_unmade (reads_first row) names old new out (Refused input why) u = record { files = u.unmade.1.read.uncounted; out = refl }
counts_unmade (reads_first row) names old new out (TooLong input) u = record { files = u.unmade.uncounted; out = refl }
counts_unmade (reads_first row) names old new out OutOfMemory u = record { files = u.unmade; out = refl }

-- what was made was written, or a call of the output failed
pub counts_written : (row : Row) (names : List (List ℕ)) (old new : FilesView) (out sent : SinkView) (made : Made) (end : End)
    → MakesBy row names old new (Ok made) → IfOk end (λ differs. (differs ≡ made.differs) × IsWhole (product_text made.product) out sent)
    → IfErr end (λ why. (why ≡ fault.CannotWrite) × IsBroken (product_text made.product) out sent)
    → LeavesCounts end (record { files = old; out = out }) (record { files = new; out = sent })
counts_written (answers_as_it_reads row) names old new out sent made end m whole broken = absurd m
counts_written (reads_first row) names old new out sent made (Ok differs) m whole broken =
    record { files = m.made.read.uncounted; out = whole.1.uncounted }
counts_written (reads_first row) names old new out sent made (Err why) m whole broken =
    let By : Fault → Type 0 = λ by. LeavesCounts (Err by) (record { files = old; out = out }) (record { files = new; out = sent }) in
    subst By (sym broken.0) tt

-- an input gives no object
pub counts_unread : {X : Type 0} (form : Format X) (input : ℕ) (name : List ℕ) (old new : FilesView) (out : SinkView) (it : Unmade)
    → IsUnreadInput form input name old new it → LeavesCounts (Err (fault_of it)) (record { files = old; out = out }) (record { files = new; out = out })
counts_unread form input name old new out (CannotRead i) u = tt
counts_unread form input name old new out (Refused i why) u = record { files = u.1.uncounted; out = refl }
counts_unread form input name old new out (TooLong i) u = record { files = u.1.uncounted; out = refl }
counts_unread form input name old new out OutOfMemory u = record { files = u; out = refl }

-- an input was read before
pub counts_then : (end : End) (old mid new : FilesView) (out sent : SinkView) → mid.faults ≡ old.faults
    → LeavesCounts end (record { files = mid; out = out }) (record { files = new; out = sent })
    → LeavesCounts end (record { files = old; out = out }) (record { files = new; out = sent })
counts_then (Ok differs) old mid new out sent same c = record { files = c.files ∙ same; out = c.out }
counts_then (Err (fault.CannotRead input)) old mid new out sent same c = tt
counts_then (Err fault.CannotWrite) old mid new out sent same c = tt
counts_then (Err (fault.Refused input why)) old mid new out sent same c = record { files = c.files ∙ same; out = c.out }
counts_then (Err (fault.TooLong input)) old mid new out sent same c = record { files = c.files ∙ same; out = c.out }
counts_then (Err fault.OutOfMemory) old mid new out sent same c = record { files = c.files ∙ same; out = c.out }
