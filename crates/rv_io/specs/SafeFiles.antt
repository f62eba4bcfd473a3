-- Files in memory that hold every name and never fail, as a contract sees them.
use Rattle.std.specs.Prelude.{ℕ, Bool, true, false, ◌||◌, List, [], Option, Some, None, is_some, refl, unwrap_or}
use Rattle.std.specs.Coded.{Coded, code_by, coded×, coded_bool}
use Rattle.std.specs.FinMap as finite
use Rattle.std.specs.Option.{is_none}
use Rattle.std.specs.Str.{bytes_eq}
use Rattle.rv_io.specs.Files.{FilesView}
use Rattle.rv_io.specs.MemFiles.{MemFiles, Names, files_code, Opened, content_of, opened_at, place_of}

pub record SafeFiles : Type 0 where
  pub files : MemFiles
  -- whether a name is started that the files don't hold
  pub is_unheld : Bool

abbrev pub safe_code : Coded SafeFiles
safe_code =
    code_by (MemFiles × Bool) (coded× files_code coded_bool) (λ s. (s.files, s.is_unheld))
    (λ p. record { files = p.0; is_unheld = p.1 }) (λ _. refl)

-- the bytes of a name: none if the files don't hold it
abbrev pub bytes_at : Names → List ℕ → List ℕ
bytes_at names name = unwrap_or (finite.get names name) []

-- whether this name is the one that is started, or one of those that the files don't hold
abbrev pub is_opened_in : Names → Option Opened → Bool → List ℕ → Bool
is_opened_in names (Some o) is_unheld name = bytes_eq o.name name
is_opened_in names None true name = is_none (finite.get names name)
is_opened_in names None false name = false

-- No fault is counted.
abbrev pub safe_view : SafeFiles → FilesView
safe_view s = record {
  tells = true;
  held = λ name. Some (bytes_at s.files.names name);
  is_started = is_some s.files.started || s.is_unheld;
  is_opened = is_opened_in s.files.names s.files.started s.is_unheld;
  content = content_of s.files.names s.files.started;
  place = place_of s.files.started;
  faults = 0;
}

-- the files after the start of a name
abbrev pub after_safe_start : SafeFiles → List ℕ → SafeFiles
after_safe_start s name = record {
  files = record s.files { started = opened_at name (finite.get s.files.names name) };
  is_unheld = is_none (finite.get s.files.names name);
}
