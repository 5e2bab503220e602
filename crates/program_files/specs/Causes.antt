-- Why a file is not read, in the few kinds that people are told. (Own rule.)
use Rattle.std.specs.Prelude.{Option, Some, None}
use Rattle.std.specs.declared.io.ErrorKind.{ErrorKind}
use Rattle.std.specs.declared.io.ErrorKind.TheVariants as kinds
use Rattle.wall_labels.specs.declared.memory.Fuse.{Fuse}
use Rattle.wall_labels.specs.declared.memory.Fuse.TheVariants.{Blown}
use Rattle.program_files.specs.declared.cause.Cause.{Cause}
use Rattle.program_files.specs.declared.cause.Cause.TheVariants.{NoFile, Denied, Folder, Other}

abbrev pub cause_of : ErrorKind → Cause
cause_of kinds.NotFound = NoFile
cause_of kinds.NotADirectory = NoFile
cause_of kinds.PermissionDenied = Denied
cause_of kinds.IsADirectory = Folder
cause_of kind = Other

-- ---- words of private contracts

-- a reader in memory that was told to fail, and did
abbrev pub cause_of_fuse : Fuse → Option Cause
cause_of_fuse Blown = Some Other
cause_of_fuse fuse = None
