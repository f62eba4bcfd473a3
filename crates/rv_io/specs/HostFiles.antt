-- What a contract sees of the files of the system: how far a name was read, and no content.
use Rattle.std.specs.Prelude.{ℕ, Bool, false, [], None}
use Rattle.rv_io.specs.Files.{FilesView}

pub record HostFiles : Type 0 where
  pub is_started : Bool
  -- how many bytes were read since the start, a count that stands still at 2 ^ 64 - 1
  pub place : ℕ
  pub faults : ℕ

abbrev pub progress_view : HostFiles → FilesView
progress_view s = record {
  tells = false;
  held = λ _. None;
  is_started = s.is_started;
  is_opened = λ _. false;
  content = [];
  place = s.place;
  faults = s.faults;
}
