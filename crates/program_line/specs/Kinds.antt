-- The devices that a command has over the files of a system, by their kinds.
use Rattle.std.specs.Prelude.{◌≡◌, ℕ, List, Option, Some, None}
use Rattle.std.specs.declared.sync.ledger.Blank.{Blank}
use Rattle.clap.specs.Words.{Text}
use Rattle.hall_script.specs.Devices.{Used, used}
use Rattle.program_files.specs.Files.{bytes_of, failed_once}
use Rattle.program_files.specs.declared.devices.FileSource.{FileSource}
use Rattle.program_files.specs.declared.devices.ListedFile.{ListedFile}
use Rattle.program_files.specs.declared.devices.FileSink.{FileSink}
use Rattle.program_files.specs.declared.devices.NewFileSink.{NewFileSink}
use Rattle.program_line.specs.declared.devices.CountedFiles.{CountedFiles}

-- Devices over files, of one type: how many of its calls failed, its bytes where they are known,
-- and its path where its file is still to be opened; and how many failures such a device begins
-- with.
pub record FileKind (D : Type 0) : Type 0 where
  pub failures : D → ℕ
  pub bytes : D → Option (List ℕ)
  pub unopened : D → Option Text
  pub before : ℕ

-- the path of a device whose file is not opened
abbrev pub path_unopened : {F : Type 0} → Text → Option F → Option Text
path_unopened path None = Some path
path_unopened path (Some file) = None

-- The kinds of a command: of its policy, of files of a list, of the second file that it reads, of
-- the book or page that it writes, and of a file that is only made new.
pub record Kinds (P D S B W : Type 0) : Type 0 where
  pub policies : FileKind P
  pub listed : FileKind D
  pub seconds : FileKind S
  pub books : FileKind B
  pub seals : FileKind W

-- the kind of the files of a list
abbrev pub listed_kind : {F File Dir : Type 0} → FileKind (ListedFile F File Dir)
listed_kind = record {
  failures = λ d. failed_once d.has_failed;
  bytes = λ d. None;
  unopened = λ d. path_unopened d.path.now d.file;
  before = 0;
}

-- the kind of a file that is read, by what is known of the bytes that an opened file has to give:
-- it counts on from so many failures
abbrev pub source_kind : {F L File Dir : Type 0} → (remaining : File → Option (List ℕ))
    → (before : ℕ) → FileKind (FileSource F L File Dir)
source_kind remaining before = record {
  failures = λ d. d.failures;
  bytes = λ d. bytes_of remaining d.file;
  unopened = λ d. path_unopened d.path.now d.file;
  before = before;
}

-- The kinds over these files, by what is known of the bytes of an opened file, those that it still
-- has to give and those that it was given: each device counts on from the count that is kept here
-- for it.
abbrev pub kinds_of : {F P S B File Dir : Type 0} → (remaining contents : File → Option (List ℕ))
    → CountedFiles F P S B File Dir
    → Kinds (FileSource F P File Dir) (ListedFile F File Dir) (FileSource F S File Dir)
    (FileSink F B File Dir) (NewFileSink F B File Dir)
kinds_of remaining contents files = record {
  policies = source_kind remaining files.policy;
  listed = listed_kind;
  seconds = source_kind remaining files.second;
  books = record {
    failures = λ d. d.failures;
    bytes = λ d. bytes_of contents d.file;
    unopened = λ d. path_unopened d.path.now d.file;
    before = files.kept;
  };
  seals = record {
    failures = λ d. d.failures;
    bytes = λ d. bytes_of contents d.file;
    unopened = λ d. path_unopened d.path.now d.file;
    before = files.kept;
  };
}

-- a device for the file at this path, before the file was opened and after its use
pub record FileUse {D : Type 0} (kind : FileKind D) (path : Text) : Type 0 where
  pub old : D
  pub new : D
  pub at : kind.unopened old ≡ Some path
  pub begins : kind.failures old ≡ kind.before

abbrev pub used_file : {D : Type 0} {path : Text}
    → (kind : FileKind D) → FileUse kind path → Used D
used_file kind file = used kind.failures kind.bytes file.old file.new

-- it opens a ledger of this name, with all its parts in one share
abbrev pub Opens : Blank → (name parts : ℕ) → Type 0
Opens blank name parts = (blank.name ≡ name) × (blank.parts ≡ parts) × (blank.parts ≡ 1)
